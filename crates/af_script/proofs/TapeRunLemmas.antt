-- A tape that is being run: the turns so far are a run, and their answers are those that the steps so far give.
use Rattle.std.proofs.Common.{◌≡◌, suc, ◌<◌, Bool, true, false, List, [], ◌∷◌, ◌++◌, length, map, is_some, IfSome, All, refl, sym, ap, ◌∙◌, subst, append_assoc, append-nil, arith}
use Rattle.std.specs.declared.option.Option.{Option}
use Rattle.std.specs.declared.option.Option.TheVariants.{None, Some}
use Rattle.af_limits.specs.Limits.{most_links}
use Rattle.af_world.specs.declared.happening.Happening.TheVariants.{Woke}
use Rattle.af_world.specs.declared.happening.Wake.{Wake}
use Rattle.af_world.specs.declared.script.DeviceSpec.{DeviceSpec}
use Rattle.af_world.specs.declared.script.Step.{Step}
use Rattle.af_io.specs.Observed.{Appended}
use Rattle.af_world.specs.Log.{Log}
use Rattle.af_world.specs.Outside.{Outside, ScriptedClient, outside_start, IsStep, outside_after_step, wake_of, outside_after_log}
use Rattle.af_outside.specs.TapeState.{TapeState, faultless_tape, TakesStep, TapeLeadsTo, Answered}
use Rattle.af_model.specs.State.{State, LinkState, opening_state, opening_device, opening_line, lines_of, links_of, outline, outline_with}
use Rattle.af_model.specs.Turn.{accept, turn, fits}
use Rattle.af_model.specs.Run.{wakes}
use Rattle.af_model.specs.NoLoss.{RunLosesNone, StateLosesNone}
use Rattle.af_model.specs.Script.{AnswersTo, ScriptLog, OneLog}
use Rattle.af_model.proofs.NoLossLemmas.{opening_loses_none}
use Rattle.af_model.proofs.RunLemmas.{TurnsTo, turns_end_state, log_of_parts, log_of_parts-more, turns_more, turns_run, answers_more, replayed_answers}
use Rattle.af_model.proofs.OpenLinkLemmas.{Agree}
use Rattle.af_model.proofs.WakeLemmas.{turn_lines}
use Rattle.af_isolation.proofs.LawsLemmas.{keeps_laws}
use Rattle.af_model.proofs.StepLemmas.{agree_start, line_of, step_fits}
use Rattle.af_model.proofs.OneLogLemmas.{turn_alike, one_log}
use Rattle.af_core.specs.Stands.{Kept, Stands, Turns, kept_lines, outline_of}
use Rattle.af_core.proofs.TurnLemmas.{same_lines}
use Rattle.af_script.specs.Run.{HasOneLog}

-- Those steps of a script that were taken have had their turns.
pub record Plays (config : List DeviceSpec) (steps : List Step) (kept : Kept) (tape : TapeState) : Type 0 where
  pub parts : List Log
  pub taken : List Step
  pub whole : steps ≡ taken ++ tape.left
  pub state : State
  pub told : tape.log ≡ Some (log_of_parts parts)
  pub turns : TurnsTo (opening_state config) parts state
  pub answers : AnswersTo (outside_start config) (log_of_parts parts) taken tape.outside
  pub stands : Stands kept state
  pub lossless : StateLosesNone state
  pub agree : Agree state tape.outside
  pub lines : lines_of state.devices ≡ map line_of config
  pub links : length kept.links ≡ most_links

-- a device has a line from the start exactly if it is stated to
opening_has_line : (line : Bool) → is_some (opening_line line) ≡ line
opening_has_line true = refl
opening_has_line false = refl

opening_lines : (config : List DeviceSpec) → lines_of (map opening_device config) ≡ map line_of config
opening_lines [] = refl
opening_lines (c ∷ config) = ap (λ b. b ∷ lines_of (map opening_device config)) (opening_has_line c.line) ∙ ap (λ bs. c.line ∷ bs) (opening_lines config)

map_length : {A B : Type 0} (f : A → B) (xs : List A) → length (map f xs) ≡ length xs
map_length f [] = refl
map_length f (x ∷ xs) = ap suc (map_length f xs)

pub plays_start : (config : List DeviceSpec) (steps : List Step) (kept : Kept) (tape : TapeState) → Stands kept (opening_state config) → tape ≡ faultless_tape config steps → Plays config steps kept tape
plays_start config steps kept tape stands e = subst (λ t. Plays config steps kept t) (sym e) (record {
  parts = [];
  taken = [];
  whole = refl;
  state = opening_state config;
  told = refl;
  turns = refl;
  answers = refl;
  stands = stands;
  lossless = opening_loses_none config;
  agree = agree_start config;
  lines = opening_lines config;
  links = ap length (sym stands.kept.links);
})

-- the step of a wake
pub record Stepped (tape : TapeState) (wake : Wake) (after : TapeState) : Type 0 where
  pub step : Step
  pub left : List Step
  pub next : tape.left ≡ step ∷ left
  pub is : wake ≡ wake_of tape.outside step
  pub becomes : after ≡ record tape { left = left; outside = outside_after_step tape.outside step }

stepped_at : (tape : TapeState) (steps : List Step) (wake : Wake) (after : TapeState) → tape.left ≡ steps → TakesStep tape steps (Some wake) after → Stepped tape wake after
stepped_at tape [] wake after e t = absurd t
stepped_at tape (s ∷ left) wake after e t = record { step = s; left = left; next = e; is = t.0; becomes = t.1 }

pub step_taken : (tape : TapeState) (wake : Wake) (after : TapeState) → TakesStep tape tape.left (Some wake) after → Stepped tape wake after
step_taken tape wake after t = stepped_at tape tape.left wake after refl t

-- the last of these steps may stand in the script
all_last : (P : Step → Type 0) (taken left : List Step) (step : Step) → All P (taken ++ step ∷ left) → P step
all_last P [] left step a = a 0 step (omega arith)
all_last P (x ∷ taken) left step a = all_last P taken left step (λ k d lt. a (suc k) d (omega arith))

pub wake_fits : (config : List DeviceSpec) (steps : List Step) (kept : Kept) (tape after : TapeState) (wake : Wake) → Plays config steps kept tape → TakesStep tape tape.left (Some wake) after →
    All (IsStep config) steps → fits (outline_of kept) wake ≡ true
wake_fits config steps kept tape after wake p t all =
    let s = step_taken tape wake after t in
    let whole : steps ≡ p.taken ++ s.step ∷ s.left = p.whole ∙ ap (λ l. p.taken ++ l) s.next in
    let allowed : IsStep config s.step = all_last (IsStep config) p.taken s.left s.step (subst (All (IsStep config)) whole all) in
    let clients : length tape.outside.clients ≡ most_links = sym (map_length {A = Option ScriptedClient} is_some tape.outside.clients) ∙ ap length p.agree ∙ map_length {A = Option LinkState} is_some (links_of p.state.slots) ∙ ap length p.stands.kept.links ∙ p.links in
    let fit = step_fits config p.state tape.outside s.step p.agree clients p.lines allowed in
    let same : outline p.state ≡ outline_of kept = ap (λ lines. outline_with lines (links_of p.state.slots)) (same_lines kept.devices p.state.devices p.stands.kept.devices) ∙ ap (λ l. outline_with (kept_lines kept.devices) l) p.stands.kept.links in
    subst (λ o. fits o wake ≡ true) same (subst (λ w. fits (outline p.state) w ≡ true) (sym s.is) fit)

-- an observable log extends one that was observable
told_appended : (before : Log) (part : Log) (after : Option Log) → is_some after ≡ true → Appended (Some before) part after → after ≡ Some (before ++ part)
told_appended before part None t g = absurd cc
told_appended before part (Some log) t g = ap (λ l. Some l) g

append_same : (xs ys zs : Log) → xs ++ ys ≡ xs ++ zs → ys ≡ zs
append_same [] ys zs e = e
append_same (x ∷ xs) ys zs e = let tail : xs ++ ys ≡ xs ++ zs = cc in append_same xs ys zs tail

-- what was added is what was replayed
replayed_part : (before : Log) (o : Outside) (part : Log) (after : Option Log) (o' : Outside) → is_some after ≡ true → Appended (Some before) part after → Answered (Some before) o after o' → outside_after_log o part ≡ Some o'
replayed_part before o part None o' t g a = absurd cc
replayed_part before o part (Some log) o' t g a =
    let same : part ≡ a.0 = append_same before part a.0 (sym g ∙ a.1) in subst (λ p. outside_after_log o p ≡ Some o') (sym same) a.2

-- a part that begins with a step's wake and is replayed after it is answered as the step states
part_answered : (o o' : Outside) (step : Step) (part rest : Log) → part ≡ Woke (wake_of o step) ∷ rest → wakes rest ≡ 0 → outside_after_log (outside_after_step o step) part ≡ Some o' → AnswersTo o part (step ∷ []) o'
part_answered o o' step part rest e w r =
    let wake_after : outside_after_log (outside_after_step o step) rest ≡ Some o' = subst (λ p. outside_after_log (outside_after_step o step) p ≡ Some o') e r in
    subst (λ p. AnswersTo o p (step ∷ []) o') (sym e) (refl, replayed_answers (outside_after_step o step) o' rest w wake_after)

-- after a turn the same links are open inside and outside
agree_turn : (s next : State) (o o' : Outside) (step : Step) (part : Log) → Agree s o → ((more : Log) → turn s (part ++ more) ≡ accept next more) → AnswersTo o part (step ∷ []) o' → Agree next o'
agree_turn s next o o' step part at is answers =
    let goes : turn s part ≡ accept next [] = subst (λ p. turn s p ≡ accept next []) (append-nil part) (is []) in
    let a = turn_alike s o step [] part part (record { state = next; log = [] }) (record { state = next; log = [] }) o' o' at goes goes answers answers in
    subst (λ x. Agree next x) (sym a.first) a.stands

pub plays_more : (config : List DeviceSpec) (steps : List Step) (kept kept' : Kept) (tape mid after : TapeState) (wake : Wake) → Plays config steps kept tape → TakesStep tape tape.left (Some wake) mid →
    Turns mid.log after.log wake kept kept' → TapeLeadsTo mid after → is_some after.log ≡ true → Plays config steps kept' after
plays_more config steps kept kept' tape mid after wake p t turns leads told =
    let s = step_taken tape wake mid t in
    let mid_log : mid.log ≡ Some (log_of_parts p.parts) = ap (λ (x : TapeState). x.log) s.becomes ∙ p.told in
    let mid_outside : mid.outside ≡ outside_after_step tape.outside s.step = ap (λ (x : TapeState). x.outside) s.becomes in
    let mid_left : mid.left ≡ s.left = ap (λ (x : TapeState). x.left) s.becomes in
    let appended : Appended (Some (log_of_parts p.parts)) turns.part after.log = subst (λ l. Appended l turns.part after.log) mid_log turns.told in
    let given : Answered (Some (log_of_parts p.parts)) mid.outside after.log after.outside = subst (λ l. Answered l mid.outside after.log after.outside) mid_log leads.answered in
    let replays : outside_after_log (outside_after_step tape.outside s.step) turns.part ≡ Some after.outside =
    subst (λ o. outside_after_log o turns.part ≡ Some after.outside) mid_outside (replayed_part (log_of_parts p.parts) mid.outside turns.part after.log after.outside told appended given) in
    let begins : turns.part ≡ Woke (wake_of tape.outside s.step) ∷ turns.rest = turns.begins ∙ ap (λ w. Woke w ∷ turns.rest) s.is in
    let answers = part_answered tape.outside after.outside s.step turns.part turns.rest begins turns.only replays in
    let from = turns.each p.state p.stands in
    let only = turns.only in
    let one : wakes turns.part ≡ 1 = ap wakes turns.begins ∙ omega (arith, only) in
    record {
      parts = p.parts ++ turns.part ∷ [];
      taken = p.taken ++ s.step ∷ [];
      whole = p.whole ∙ ap (λ l. p.taken ++ l) (s.next ∙ ap (λ l. s.step ∷ l) (sym (leads.left ∙ mid_left))) ∙ sym (append_assoc p.taken (s.step ∷ []) after.left);
      state = from.next;
      told = told_appended (log_of_parts p.parts) turns.part after.log told appended ∙ ap (λ l. Some l) (sym (log_of_parts-more p.parts turns.part));
      turns = turns_more (opening_state config) p.state from.next p.parts turns.part p.turns (record { is_turn = from.is_turn; one = one });
      answers = subst (λ l. AnswersTo (outside_start config) l (p.taken ++ s.step ∷ []) after.outside) (sym (log_of_parts-more p.parts turns.part)) (answers_more (outside_start config) tape.outside after.outside (log_of_parts p.parts) turns.part p.taken (s.step ∷ []) p.answers answers);
      stands = from.stands;
      lossless = from.lossless;
      agree = agree_turn p.state from.next tape.outside after.outside s.step turns.part p.agree from.is_turn answers;
      lines = turn_lines p.state (turns.part ++ []) (record { state = from.next; log = [] }) (from.is_turn []) ∙ p.lines;
      links = turns.links ∙ p.links;
    }

pub fewer_left : (tape mid after : TapeState) (wake : Wake) → TakesStep tape tape.left (Some wake) mid → TapeLeadsTo mid after → length after.left < length tape.left
fewer_left tape mid after wake t leads =
    let s = step_taken tape wake mid t in
    let mid_left : mid.left ≡ s.left = ap (λ (x : TapeState). x.left) s.becomes in
    let a = ap length (leads.left ∙ mid_left) in
    let b = ap length s.next in
    omega (arith, a, b)

none_left : (tape : TapeState) (steps : List Step) (after : TapeState) → TakesStep tape steps None after → (steps ≡ []) × (after ≡ tape)
none_left tape [] after t = (refl, t)
none_left tape (s ∷ left) after t = absurd t

-- if no step is left, the log is the one that the script has
pub plays_end : (config : List DeviceSpec) (steps : List Step) (kept : Kept) (tape after : TapeState) → Plays config steps kept tape → TakesStep tape tape.left None after → HasOneLog config steps after.log
plays_end config steps kept tape after p t =
    let none = none_left tape tape.left after t in
    let all : p.taken ≡ steps = sym (append-nil p.taken) ∙ ap (λ l. p.taken ++ l) (sym none.0) ∙ sym p.whole in
    let log = log_of_parts p.parts in
    let is_log : ScriptLog config steps log = record { is_run = turns_run config p.state p.parts p.turns; end = tape.outside; answers = subst (λ l. AnswersTo (outside_start config) log l tape.outside) all p.answers } in
    let one : OneLog config steps log = record { is_log = is_log; only = λ other o. one_log config steps other log o is_log } in
    let lossless : RunLosesNone config log = subst (λ o. IfSome o StateLosesNone) (sym (turns_end_state config p.state p.parts p.turns)) p.lossless in
    subst (λ l. HasOneLog config steps l) (sym (ap (λ (x : TapeState). x.log) none.1 ∙ p.told)) (record { one = one; laws = keeps_laws config log lossless })
