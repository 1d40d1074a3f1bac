-- A device that has a program for itself, as a server has it: only the acts of the program are kept.
use Rattle.std.specs.Prelude.{◌≡◌, ◌≢◌, ⊤, ℕ, ◌*◌, ◌/◌, ◌-◌, ◌^◌, min, max, true, false, is_some, List, [], ◌∷◌, length, MatchOption}
use Rattle.std.specs.declared.option.Option.{Option}
use Rattle.std.specs.declared.option.Option.TheVariants.{None, Some}
use Rattle.af_sample.specs.SampleTypes.{frame_bytes}
use Rattle.af_io.specs.declared.flow.Put.{Put}
use Rattle.af_io.specs.declared.flow.Put.TheVariants as put
use Rattle.af_io.specs.Observed.{Appended, Unchanged}
use Rattle.af_program.specs.declared.program.Launched.TheVariants as launch
use Rattle.af_program.specs.Acts.{ToldAct, captured, launched}
use Rattle.af_world.specs.declared.card_kind.CardKind.{CardKind}
use Rattle.af_world.specs.declared.card_kind.CardKind.TheVariants as card_kind
use Rattle.af_world.specs.declared.script.DeviceSpec.{DeviceSpec}
use Rattle.af_world.specs.Outside.{silent_byte}
use Rattle.af_clock.specs.Pacing.{PaceState, new_pace}
use Rattle.af_card.specs.declared.shape.Shape.{Shape}
use Rattle.af_card.specs.Between.{BetweenState, new_between, captured_of, is_over_of, running_since}
use Rattle.af_card.specs.Passing.{HandsOf, Meets, captured_between}
use Rattle.af_card.specs.Card.{CardState, DueOf, EmitsAndStarts, IsFed, StartsOnly, captures, emits}

-- the acts of its program, if they are observable; what stands between the two; the command line of each start; its pace by the
-- system's clock; and the latest moment
pub record CardUse : Type 0 where
  pub acts : Option (List ToldAct)
  pub between : BetweenState
  pub words : List (List ℕ)
  pub pace : PaceState
  pub at : ℕ

abbrev pub card_use : {P : Type 0} → (P → Option (List ToldAct)) → CardState P → CardUse
card_use acts card =
    record { acts = acts card.program; between = card.between; words = card.words; pace = card.pace; at = card.at }

-- if the acts are observable, what a card promises holds of them
abbrev pub IsFedUse : CardUse → Type 0
IsFedUse card = MatchOption card.acts ⊤ (λ told. IsFed card.between.shape card.between.starts.restarts told)

-- the kind of device, how often its program may be started, and its command line stay
pub record KeepsOrders (before after : CardUse) : Type 0 where
  pub shape : after.between.shape ≡ before.between.shape
  pub restarts : after.between.starts.restarts ≡ before.between.starts.restarts
  pub words : after.words ≡ before.words

-- the same, whatever went by
abbrev pub orders_of : Shape → ℕ → List (List ℕ) → CardUse
orders_of shape restarts words =
    record { acts = None; between = new_between shape restarts; words = words; pace = new_pace shape.rate; at = 0 }

abbrev pub card_orders : CardUse → CardUse
card_orders card = orders_of card.between.shape card.between.starts.restarts card.words

-- the shape of a device of this kind, whose frames have so many bytes
abbrev pub shape_of : CardKind → ℕ → DeviceSpec → Shape
shape_of kind width spec = record { kind = kind; frame_bytes = width; silence = silent_byte spec.ty; rate = spec.rate }

-- How many bytes may wait before the program of a device: before a card or an encoder those of a quarter of a second, and before
-- a loudspeaker as few as the system can have. The system rounds this up.
abbrev pub shortest_input : ℕ
shortest_input = 2304

abbrev pub input_bytes_of : CardKind → Shape → ℕ
input_bytes_of card_kind.Speaker shape = shortest_input
input_bytes_of card_kind.Microphone shape = shortest_input
input_bytes_of card_kind.Card shape = max (min (shape.rate / 4 * shape.frame_bytes) (2 ^ 32 - 1)) shortest_input
input_bytes_of card_kind.Encoder shape = max (min (shape.rate / 4 * shape.frame_bytes) (2 ^ 32 - 1)) shortest_input

-- It was just attached: its program was started once, by this command line, and runs.
pub record IsBegun (kind : CardKind) (restarts : ℕ) (words : List (List ℕ)) (spec : DeviceSpec) (card : CardUse) : Type 0 where
  pub shape : card.between.shape ≡ shape_of kind (frame_bytes spec.ty spec.channels) spec
  pub started_anew : card.between.starts.restarts ≡ restarts
  pub started_by : card.words ≡ words
  pub tried : card.between.starts.tried ≡ 1
  pub runs : is_some card.between.running ≡ true
  pub since : card.between.running ≡ Some (running_since card.at)
  pub launched_once : MatchOption card.acts ⊤ (λ acts. acts ≡ launched card.at words launch.Runs ∷ [])
  pub fed : IsFedUse card

-- It is asked at a moment, and so many frames are due: while its program runs, those that it gave or takes next, and else those
-- of the clock. An encoder has those of the clock throughout.
pub record AsksCard (at frames : ℕ) (before after : CardUse) : Type 0 where
  pub due : DueOf before.between.tick before.between.running at frames before.between after.between before.pace after.pace
  pub words : before.between.running ≡ None → StartsOnly at before.words before.between after.between before.acts after.acts
  pub meets : before.between.tick ≡ None → before.between.running ≢ None →
      Meets at before.between after.between before.acts after.acts
  pub over : before.between.tick ≡ None → frames ≡ 0 → is_over_of after.between.running after.between.shape.kind at ≡ false
  pub waits : before.between.tick ≢ None → Unchanged before.acts after.acts
  pub fed : IsFedUse after
  pub same : KeepsOrders before after
  pub now : after.at ≡ at

-- It captures what its program gave first, or silence. It fails exactly if it is dead, or if this is not the tick that is due.
pub record CardCaptures (answer : Put) (before : CardUse) (into : List ℕ) (after : CardUse) : Type 0 where
  pub answers : answer ≡ captures before.between (length into)
  pub sound : answer ≡ put.Done → into ≡ captured_of before.between.running before.between (length into)
  pub acts : answer ≡ put.Done → Appended before.acts (captured into ∷ []) after.acts
  pub state : answer ≡ put.Done → after.between ≡ captured_between (length into) before.between
  pub pace : after.pace ≡ before.pace
  pub fed : IsFedUse after
  pub same : KeepsOrders before after

-- It hands its sound to its program, as far as the program takes it. It fails exactly if it is dead, or if this is not the tick
-- that was captured.
pub record CardEmits (answer : Put) (before : CardUse) (sound : List ℕ) (after : CardUse) : Type 0 where
  pub answers : answer ≡ emits before.between (length sound)
  pub failed : answer ≡ put.Failed → after ≡ before
  pub words : answer ≡ put.Done → before.between.running ≡ None →
      EmitsAndStarts before.at sound before.words before.between after.between before.acts after.acts
  pub hands : answer ≡ put.Done → before.between.running ≢ None →
      HandsOf before.between.running before.at sound before.between after.between before.acts after.acts
  pub pace : after.pace ≡ before.pace
  pub fed : IsFedUse after
  pub same : KeepsOrders before after
