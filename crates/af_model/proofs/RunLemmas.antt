-- Runs and their turns.
use Rattle.std.proofs.Common.{◌≡◌, ◌+◌, List, [], ◌∷◌, ◌++◌, length, is_some, refl, sym, ap, ◌∙◌, subst, append_assoc, append-nil, arith, IsSomeAnd}
use Rattle.std.specs.declared.option.Option.{Option}
use Rattle.std.specs.declared.option.Option.TheVariants.{None, Some}
use Rattle.af_world.specs.declared.happening.Happening.TheVariants.{Woke, Read, Wrote, Closed, Captured, Emitted, Hooked}
use Rattle.af_world.specs.declared.script.DeviceSpec.{DeviceSpec}
use Rattle.af_world.specs.declared.script.Step.{Step}
use Rattle.af_world.specs.Log.{Log}
use Rattle.af_world.specs.Outside.{Outside, outside_after_happening, outside_after_log, then_outside, outside_after_step}
use Rattle.af_model.specs.State.{State, opening_state}
use Rattle.af_model.specs.Turn.{Parsed, IsTurn}
use Rattle.af_model.specs.Run.{wakes, end_by, end_state, then_end, IsRun}
use Rattle.af_model.specs.Script.{AnswersTo}
use Rattle.af_model.proofs.BoolTestLemmas.{none_some}

pub wakes-append : (p q : Log) → wakes (p ++ q) ≡ wakes p + wakes q
wakes-append [] q = omega arith
wakes-append (Woke wake ∷ p) q = let e = wakes-append p q in omega arith
wakes-append (h ∷ p) q = wakes-append p q

-- two parts without a wake have none together
pub wakes-append-none : (p q : Log) → wakes p ≡ 0 → wakes q ≡ 0 → wakes (p ++ q) ≡ 0
wakes-append-none p q a b = wakes-append p q ∙ omega (arith, a, b)

-- Turns, one after the other, each with its one wake

pub record OneTurn (s : State) (part : Log) (next : State) : Type 0 where
  pub is_turn : IsTurn s part next
  pub one : wakes part ≡ 1

abbrev pub TurnsTo : State → List Log → State → Type 0
TurnsTo s [] end = end ≡ s
TurnsTo s (part ∷ parts) end = (mid : State) × OneTurn s part mid × TurnsTo mid parts end

abbrev pub log_of_parts : List Log → Log
log_of_parts [] = []
log_of_parts (part ∷ parts) = part ++ log_of_parts parts

pub turns_more : (s mid end : State) (parts : List Log) (part : Log) → TurnsTo s parts mid → OneTurn mid part end → TurnsTo s (parts ++ part ∷ []) end
turns_more s mid end [] part e one = (end, subst (λ t. OneTurn t part end) e one, refl)
turns_more s mid end (p ∷ parts) part h one = (h.0, h.1, turns_more h.0 mid end parts part h.2 one)

pub log_of_parts-more : (parts : List Log) (part : Log) → log_of_parts (parts ++ part ∷ []) ≡ log_of_parts parts ++ part
log_of_parts-more [] part = append-nil part
log_of_parts-more (p ∷ parts) part = ap (λ l. p ++ l) (log_of_parts-more parts part) ∙ sym (append_assoc p (log_of_parts parts) part)

wakes-log_of_parts : (s end : State) (parts : List Log) → TurnsTo s parts end → wakes (log_of_parts parts) ≡ length parts
wakes-log_of_parts s end [] h = refl
wakes-log_of_parts s end (p ∷ parts) h = let e = wakes-log_of_parts h.0 end parts h.2 in let one = h.1.one in wakes-append p (log_of_parts parts) ∙ omega arith

turns_end : (s end : State) (parts : List Log) → TurnsTo s parts end → end_by (length parts) s (log_of_parts parts) ≡ Some end
turns_end s end [] h = ap (λ t. Some t) (sym h)
turns_end s end (p ∷ parts) h = ap (λ x. then_end x (end_by (length parts))) (h.1.is_turn (log_of_parts parts)) ∙ turns_end h.0 end parts h.2

pub turns_end_state : (config : List DeviceSpec) (end : State) (parts : List Log) → TurnsTo (opening_state config) parts end → end_state config (log_of_parts parts) ≡ Some end
unfolding end_state
turns_end_state config end parts h = ap (λ n. end_by n (opening_state config) (log_of_parts parts)) (wakes-log_of_parts (opening_state config) end parts h) ∙ turns_end (opening_state config) end parts h

-- they are a run
pub turns_run : (config : List DeviceSpec) (end : State) (parts : List Log) → TurnsTo (opening_state config) parts end → IsRun config (log_of_parts parts)
unfolding end_state
turns_run config end parts h =
    ap (λ n. is_some (end_by n (opening_state config) (log_of_parts parts))) (wakes-log_of_parts (opening_state config) end parts h) ∙ ap is_some (turns_end (opening_state config) end parts h)

-- a run begins with a turn
pub run_inv : (x : Option (Parsed State)) (f : State → Log → Option State) (e : State) → then_end x f ≡ Some e → (b : Parsed State) × (x ≡ Some b) × (f b.state b.log ≡ Some e)
run_inv None f e h = absurd (none_some h)
run_inv (Some b) f e h = (b, refl, h)

-- Answers, one part after the other

some_and-map : (x : Option Outside) (P Q : Outside → Type 0) → ((o : Outside) → P o → Q o) → IsSomeAnd x P → IsSomeAnd x Q
some_and-map None P Q f h = absurd h
some_and-map (Some o) P Q f h = f o h

then_some_and : (x : Option Outside) (f : Outside → Option Outside) (end : Outside) (Q : Outside → Type 0) → ((o : Outside) → f o ≡ Some end → Q o) → then_outside x f ≡ Some end → IsSomeAnd x Q
then_some_and None f end Q g e = absurd cc
then_some_and (Some o) f end Q g e = g o e

pub answers_more : (o mid end : Outside) (log more : Log) (steps steps' : List Step) → AnswersTo o log steps mid → AnswersTo mid more steps' end → AnswersTo o (log ++ more) (steps ++ steps') end
answers_more o mid end [] more [] steps' a b = subst (λ x. AnswersTo x more steps' end) a b
answers_more o mid end [] more (s ∷ steps) steps' a b = absurd a
answers_more o mid end (Woke wake ∷ log) more [] steps' a b = absurd a
answers_more o mid end (Woke wake ∷ log) more (s ∷ steps) steps' a b = (a.0, answers_more (outside_after_step o s) mid end log more steps steps' a.1 b)
answers_more o mid end (Read k got ∷ log) more steps steps' a b =
    some_and-map (outside_after_happening o (Read k got)) (λ o. AnswersTo o log steps mid) (λ o. AnswersTo o (log ++ more) (steps ++ steps') end) (λ o h. answers_more o mid end log more steps steps' h b) a
answers_more o mid end (Wrote k offered took ∷ log) more steps steps' a b =
    some_and-map (outside_after_happening o (Wrote k offered took)) (λ o. AnswersTo o log steps mid) (λ o. AnswersTo o (log ++ more) (steps ++ steps') end) (λ o h. answers_more o mid end log more steps steps' h b) a
answers_more o mid end (Closed k why ∷ log) more steps steps' a b =
    some_and-map (outside_after_happening o (Closed k why)) (λ o. AnswersTo o log steps mid) (λ o. AnswersTo o (log ++ more) (steps ++ steps') end) (λ o h. answers_more o mid end log more steps steps' h b) a
answers_more o mid end (Captured d n got ∷ log) more steps steps' a b =
    some_and-map (outside_after_happening o (Captured d n got)) (λ o. AnswersTo o log steps mid) (λ o. AnswersTo o (log ++ more) (steps ++ steps') end) (λ o h. answers_more o mid end log more steps steps' h b) a
answers_more o mid end (Emitted d sound done ∷ log) more steps steps' a b =
    some_and-map (outside_after_happening o (Emitted d sound done)) (λ o. AnswersTo o log steps mid) (λ o. AnswersTo o (log ++ more) (steps ++ steps') end) (λ o h. answers_more o mid end log more steps steps' h b) a
answers_more o mid end (Hooked d off done ∷ log) more steps steps' a b =
    some_and-map (outside_after_happening o (Hooked d off done)) (λ o. AnswersTo o log steps mid) (λ o. AnswersTo o (log ++ more) (steps ++ steps') end) (λ o h. answers_more o mid end log more steps steps' h b) a

-- what is replayed without a wake is answered within one step
pub replayed_answers : (o end : Outside) (log : Log) → wakes log ≡ 0 → outside_after_log o log ≡ Some end → AnswersTo o log [] end
replayed_answers o end [] w e = let same : o ≡ end = cc in sym same
replayed_answers o end (Woke wake ∷ log) w e = absurd cc
replayed_answers o end (Read k got ∷ log) w e =
    then_some_and (outside_after_happening o (Read k got)) (λ o. outside_after_log o log) end (λ o. AnswersTo o log [] end) (λ o h. replayed_answers o end log w h) e
replayed_answers o end (Wrote k offered took ∷ log) w e =
    then_some_and (outside_after_happening o (Wrote k offered took)) (λ o. outside_after_log o log) end (λ o. AnswersTo o log [] end) (λ o h. replayed_answers o end log w h) e
replayed_answers o end (Closed k why ∷ log) w e =
    then_some_and (outside_after_happening o (Closed k why)) (λ o. outside_after_log o log) end (λ o. AnswersTo o log [] end) (λ o h. replayed_answers o end log w h) e
replayed_answers o end (Captured d n got ∷ log) w e =
    then_some_and (outside_after_happening o (Captured d n got)) (λ o. outside_after_log o log) end (λ o. AnswersTo o log [] end) (λ o h. replayed_answers o end log w h) e
replayed_answers o end (Emitted d sound done ∷ log) w e =
    then_some_and (outside_after_happening o (Emitted d sound done)) (λ o. outside_after_log o log) end (λ o. AnswersTo o log [] end) (λ o h. replayed_answers o end log w h) e
replayed_answers o end (Hooked d off done ∷ log) w e =
    then_some_and (outside_after_happening o (Hooked d off done)) (λ o. outside_after_log o log) end (λ o. AnswersTo o log [] end) (λ o h. replayed_answers o end log w h) e
