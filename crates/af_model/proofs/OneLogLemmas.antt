-- A script has at most one log.
use Rattle.std.proofs.Common.{◌≡◌, ℕ, zero, suc, true, List, [], ◌∷◌, is_some, refl, sym, ap, ◌∙◌, subst}
use Rattle.std.specs.declared.option.Option.{Option}
use Rattle.std.specs.declared.option.Option.TheVariants.{None, Some}
use Rattle.af_world.specs.declared.happening.Happening.TheVariants.{Woke}
use Rattle.af_world.specs.declared.happening.Wake.{Wake}
use Rattle.af_world.specs.declared.script.DeviceSpec.{DeviceSpec}
use Rattle.af_world.specs.declared.script.Step.{Step}
use Rattle.af_world.specs.Log.{Log}
use Rattle.af_world.specs.Outside.{Outside, outside_start, outside_after_step, wake_of}
use Rattle.af_model.specs.State.{State, opening_state, outline}
use Rattle.af_model.specs.Turn.{Parsed, parse_then, turn, fits, wake_phase, serve_and_hook}
use Rattle.af_model.specs.Run.{end_by, end_state, then_end, wakes}
use Rattle.af_model.specs.Script.{AnswersTo, ScriptLog}
use Rattle.af_model.proofs.BoolTestLemmas.{cond-some, none_some}
use Rattle.af_model.proofs.AlikeLemmas.{Agreed, alike_then}
use Rattle.af_model.proofs.OpenLinkLemmas.{Agree, Woken}
use Rattle.af_model.proofs.DeterminismLemmas.{wake_alike, hooks_alike}
use Rattle.af_model.proofs.StepLemmas.{agree_step, agree_start}

-- a turn begins with a wake
record TurnTaken (s : State) (log : Log) (b : Parsed State) : Type 0 where
  wake : Wake
  rest : Log
  is : log ≡ Woke wake ∷ rest
  goes : parse_then (wake_phase wake s rest) serve_and_hook ≡ Some b

turn_inv : (s : State) (log : Log) (b : Parsed State) → turn s log ≡ Some b → TurnTaken s log b
unfolding turn
turn_inv s (Woke wake ∷ rest) b e = record { wake = wake; rest = rest; is = refl; goes = (cond-some (fits (outline s) wake) (parse_then (wake_phase wake s rest) serve_and_hook) b e).1 }
turn_inv s log b e = absurd (none_some e)

-- the turns of one step are alike
pub turn_alike : (s : State) (o : Outside) (step : Step) (steps : List Step) (log1 log2 : Log) (b1 b2 : Parsed State) (e1 e2 : Outside) → Agree s o → turn s log1 ≡ Some b1 → turn s log2 ≡ Some b2 →
    AnswersTo o log1 (step ∷ steps) e1 → AnswersTo o log2 (step ∷ steps) e2 → Agreed steps Agree log1 log2 e1 e2 b1 b2
turn_alike s o step steps log1 log2 b1 b2 e1 e2 at f1 f2 r1 r2 =
    let i1 = turn_inv s log1 b1 f1 in
    let i2 = turn_inv s log2 b2 f2 in
    let a1 = subst (λ l. AnswersTo o l (step ∷ steps) e1) i1.is r1 in
    let a2 = subst (λ l. AnswersTo o l (step ∷ steps) e2) i2.is r2 in
    let w = wake_of o step in
    let g1 : parse_then (wake_phase w s i1.rest) serve_and_hook ≡ Some b1 = subst (λ x. parse_then (wake_phase x s i1.rest) serve_and_hook ≡ Some b1) a1.0 i1.goes in
    let g2 : parse_then (wake_phase w s i2.rest) serve_and_hook ≡ Some b2 = subst (λ x. parse_then (wake_phase x s i2.rest) serve_and_hook ≡ Some b2) a2.0 i2.goes in
    let a = alike_then (wake_phase w) serve_and_hook (Woken w) Agree Agree (wake_alike w) hooks_alike steps s (outside_after_step o step) i1.rest i2.rest b1 b2 e1 e2 (agree_step s o step at) g1 g2 a1.1 a2.1 in
    record {
      outside = a.outside;
      stands = a.stands;
      state = a.state;
      first = a.first;
      second = a.second;
      same = λ e. i1.is ∙ ap (λ x. Woke x ∷ i1.rest) (a1.0 ∙ sym a2.0) ∙ ap (λ r. Woke i2.wake ∷ r) (a.same e) ∙ sym i2.is;
    }

end_inv : (x : Option (Parsed State)) (f : State → Log → Option State) → is_some (then_end x f) ≡ true → (b : Parsed State) × (x ≡ Some b) × (is_some (f b.state b.log) ≡ true)
end_inv None f e = absurd cc
end_inv (Some b) f e = (b, refl, e)

-- a log without a step has no turn
no_turn : (n : ℕ) (s : State) (o e : Outside) (log : Log) → is_some (end_by n s log) ≡ true → AnswersTo o log [] e → log ≡ []
no_turn zero s o e [] f r = refl
no_turn zero s o e (h ∷ log) f r = absurd cc
no_turn (suc n) s o e log f r =
    let i = end_inv (turn s log) (end_by n) f in
    let t = turn_inv s log i.0 i.1 in
    absurd (subst (λ l. AnswersTo o l [] e) t.is r)

unique : (steps : List Step) (n m : ℕ) (s : State) (o e1 e2 : Outside) (log1 log2 : Log) → Agree s o → is_some (end_by n s log1) ≡ true → is_some (end_by m s log2) ≡ true →
    AnswersTo o log1 steps e1 → AnswersTo o log2 steps e2 → log1 ≡ log2
unique [] n m s o e1 e2 log1 log2 at f1 f2 r1 r2 = no_turn n s o e1 log1 f1 r1 ∙ sym (no_turn m s o e2 log2 f2 r2)
unique (step ∷ steps) zero m s o e1 e2 [] log2 at f1 f2 r1 r2 = absurd r1
unique (step ∷ steps) zero m s o e1 e2 (h ∷ log1) log2 at f1 f2 r1 r2 = absurd cc
unique (step ∷ steps) (suc n) zero s o e1 e2 log1 [] at f1 f2 r1 r2 = absurd r2
unique (step ∷ steps) (suc n) zero s o e1 e2 log1 (h ∷ log2) at f1 f2 r1 r2 = absurd cc
unique (step ∷ steps) (suc n) (suc m) s o e1 e2 log1 log2 at f1 f2 r1 r2 =
    let i1 = end_inv (turn s log1) (end_by n) f1 in
    let i2 = end_inv (turn s log2) (end_by m) f2 in
    let a = turn_alike s o step steps log1 log2 i1.0 i2.0 e1 e2 at i1.1 i2.1 r1 r2 in
    let next2 : is_some (end_by m i1.0.state i2.0.log) ≡ true = subst (λ t. is_some (end_by m t i2.0.log) ≡ true) (sym a.state) i2.2 in
    a.same (unique steps n m i1.0.state a.outside e1 e2 i1.0.log i2.0.log a.stands i1.2 next2 a.first a.second)

pub one_log : (config : List DeviceSpec) (steps : List Step) (a b : Log) → ScriptLog config steps a → ScriptLog config steps b → a ≡ b
unfolding end_state
one_log config steps a b x y = unique steps (wakes a) (wakes b) (opening_state config) (outside_start config) x.end y.end a b (agree_start config) x.is_run y.is_run x.answers y.answers
