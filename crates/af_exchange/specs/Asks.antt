-- What a program that runs is offered and asked as the next change is asked for, and what comes of it.
use Rattle.std.specs.Prelude.{◌≡◌, ◌-◌, ℕ, nat_lt, Bool, true, false, not, is_some, if◌then◌else◌, List, [], ◌∷◌, length, option_map}
use Rattle.std.specs.declared.option.Option.{Option}
use Rattle.std.specs.declared.option.Option.TheVariants.{None, Some}
use Rattle.af_io.specs.Observed.{Appended}
use Rattle.af_phone.specs.declared.line.LineChange.{LineChange}
use Rattle.af_program.specs.declared.program.Gave.{Gave}
use Rattle.af_program.specs.declared.program.Gave.TheVariants as gives
use Rattle.af_program.specs.Acts.{ToldAct, captured, ended}
use Rattle.af_program.specs.Handing.{TakesInto, acts_if, given_acts}
use Rattle.af_exchange.specs.declared.line.Front.{Front}
use Rattle.af_exchange.specs.declared.line.Front.TheVariants as fronts
use Rattle.af_exchange.specs.declared.running.Running.{Running}
use Rattle.af_exchange.specs.Lines.{text_of}
use Rattle.af_exchange.specs.Dialogue.{DialogueState, PassesOver, after_take, is_over, most_bytes}
use Rattle.af_exchange.specs.Hook.{OffersOwed}

-- one take is made, with all the room
pub record TakesMore (before after : DialogueState) (acts acts' : Option (List ToldAct)) : Type 0 where
  pub came : Gave
  pub takes : TakesInto most_bytes came before.left after.left acts acts'
  pub heard : after.running ≡ option_map (after_take came) before.running

-- Comments are skipped in what is left of what the program gave. If it stops in a part of a line then, the program is asked for
-- more in one take, with all the room; NotYet also stands for no take, as it changes nothing.
pub record AsksFor (front : Front) (before after : DialogueState) (acts acts' : Option (List ToldAct)) : Type 0 where
  pub rest : List ℕ
  pub skips : PassesOver before.left rest
  pub is_asked : Bool
  pub asks : front ≡ fronts.Part → is_asked ≡ nat_lt (length rest) most_bytes
  pub came : Gave
  pub silent : is_asked ≡ false → came ≡ gives.NotYet
  pub heard : after.running ≡ option_map (after_take came) before.running
  pub bytes : List ℕ
  pub told : Appended acts (acts_if is_asked (given_acts (most_bytes - length rest) came bytes)) acts'

-- the change that stands first is given, and no other
abbrev pub GivesFirst : Front → Option LineChange → Type 0
GivesFirst (fronts.Comment count) change = ⊥
GivesFirst (fronts.Change first count) change = change ≡ Some first
GivesFirst fronts.Fault change = change ≡ None
GivesFirst fronts.Part change = change ≡ None

-- whether a program goes on: a change is given; or none of its lines is malformed, and it gives and takes more
abbrev pub goes_on : Front → Option Running → Bool
goes_on (fronts.Comment count) running = true
goes_on (fronts.Change first count) running = true
goes_on fronts.Fault running = false
goes_on fronts.Part running = not (is_over running)

-- the change that is given, or the end of the program, if it is ended
abbrev pub last_acts : Option LineChange → Bool → ℕ → List ToldAct
last_acts (Some change) runs at = captured (text_of change) ∷ []
last_acts None runs at = if runs then [] else ended at ∷ []

-- A program is offered what it is owed. If no change is left of what it gave, it is asked for more. It is ended exactly if it
-- gives no change and does not go on. No other act is added.
pub record AsksProgram (at : ℕ) (change : Option LineChange) (before after : DialogueState) (acts acts' : Option (List ToldAct)) :
    Type 0 where
  pub mid : DialogueState
  pub offered : Option (List ToldAct)
  pub offers : OffersOwed before mid acts offered
  pub front : Front
  pub seen : DialogueState
  pub asked : Option (List ToldAct)
  pub asks : AsksFor front mid seen offered asked
  pub gives : GivesFirst front change
  pub ends : is_some after.running ≡ goes_on front seen.running
  pub last : Appended asked (last_acts change (is_some after.running) at) acts'
