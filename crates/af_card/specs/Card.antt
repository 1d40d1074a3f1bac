-- A device whose sound goes to a program, comes from it, or both, as a caller has it.
use Rattle.std.specs.Prelude.{◌≡◌, ◌≢◌, ◌⊎◌, ⊤, [], ◌∷◌, ℕ, ◌+◌, ◌-◌, ◌%◌, Bool, not, is_none, nat_lt, true, false, ◌&&◌, ◌==◌, if◌then◌else◌, List, MatchOption}
use Rattle.std.specs.declared.option.Option.{Option}
use Rattle.std.specs.declared.option.Option.TheVariants.{None, Some}
use Rattle.af_io.specs.declared.flow.Put.{Put}
use Rattle.af_io.specs.declared.flow.Put.TheVariants as put
use Rattle.af_clock.specs.Pacing.{PaceState, new_pace, due_at, after_due}
use Rattle.af_io.specs.Observed.{Appended, Unchanged}
use Rattle.af_program.specs.declared.program.Launched.{Launched}
use Rattle.af_program.specs.Acts.{ToldAct, launched, emitted}
use Rattle.af_program.specs.Waits.{StartsFit, may_come}
use Rattle.af_world.specs.declared.card_kind.CardKind.{CardKind}
use Rattle.af_card.specs.declared.shape.Shape.{Shape}
use Rattle.af_card.specs.declared.running.Running.{Running}
use Rattle.af_card.specs.Ledger.{Run, ledger_of}
use Rattle.af_card.specs.Fed.{PastFits, RunFits}
use Rattle.af_card.specs.Between.{BetweenState, new_between, frames_of, goes_by_clock, is_dead, may_capture, may_emit}
use Rattle.af_card.specs.Passing.{HandsNone, begun_between}

-- a device: its program, what stands between the two, the command line of each start, its pace by the system's clock, and the
-- latest moment
pub record CardState (P : Type 0) : Type 0 where
  pub program : P
  pub between : BetweenState
  pub words : List (List ℕ)
  pub pace : PaceState
  pub at : ℕ

abbrev pub new_card : {P : Type 0} → P → Shape → ℕ → List (List ℕ) → CardState P
new_card program shape restarts words =
    record { program = program; between = new_between shape restarts; words = words; pace = new_pace shape.rate; at = 0 }

-- The promise

-- what went by while the program runs
abbrev pub RunIsFed : Shape → Option Run → Type 0
RunIsFed shape None = ⊤
RunIsFed shape (Some run) = (left : List ℕ) × (owed : List ℕ) × (tick : Option ℕ) × RunFits shape run left owed tick

-- This holds of all acts, at each moment. Captured: in ticks while a program ran, what it gave, in order and in whole frames,
-- each once; else silence. Handed: to each program what was emitted while it ran, in order, each sample at most once. A
-- loudspeaker loses none. A card or an encoder may lose the last frames of a tick. In step: in each tick as much is captured as
-- emitted.
-- Starts: at most one more than there are restarts, each after its wait.
pub record IsFed (shape : Shape) (restarts : ℕ) (acts : List ToldAct) : Type 0 where
  pub past : PastFits shape (ledger_of acts)
  pub now : RunIsFed shape (ledger_of acts).running
  pub starts : StartsFit restarts (ledger_of acts).starts

abbrev pub IsFedWhereTold : {P : Type 0} → (P → Option (List ToldAct)) → CardState P → Type 0
IsFedWhereTold acts card = MatchOption (acts card.program) ⊤ (λ told. IsFed card.between.shape card.between.starts.restarts told)

-- the kind of device, how often its program may be started, and its command line stay
pub record SameOrders {P : Type 0} (before after : CardState P) : Type 0 where
  pub shape : after.between.shape ≡ before.between.shape
  pub restarts : after.between.starts.restarts ≡ before.between.starts.restarts
  pub words : after.words ≡ before.words

-- Frames that are due

-- By a program: whole frames that it gave, or a piece once it is owed nothing. If the program is ended instead, no frame is due,
-- and the pace begins again at that moment.
abbrev pub DueByProgram : ℕ → ℕ → BetweenState → PaceState → PaceState → Type 0
DueByProgram at frames after pace pace' =
    MatchOption after.running ((frames ≡ 0) × (pace' ≡ after_due (new_pace after.shape.rate) at))
    (λ running. (frames ≡ frames_of after) × (pace' ≡ pace))

-- a moment, in whole hundredths of a second
abbrev pub hundredths_of : ℕ → ℕ
hundredths_of at = at - at % 10000000

-- While a program runs they are due by it, or by the clock. An encoder goes by the clock throughout: its pace never begins again.
-- While its program runs it reads the clock in hundredths of a second, so that the program is given pieces of that length.
abbrev pub DueWhileRuns : Bool → ℕ → ℕ → BetweenState → PaceState → PaceState → Type 0
DueWhileRuns true at frames after pace pace' =
    (frames ≡ due_at pace (hundredths_of at)) × (pace' ≡ after_due pace (hundredths_of at))
DueWhileRuns false at frames after pace pace' = DueByProgram at frames after pace pace'

abbrev pub DueOfKind : CardKind → ℕ → ℕ → BetweenState → PaceState → PaceState → Type 0
DueOfKind k at frames after pace pace' = DueWhileRuns (goes_by_clock k) at frames after pace pace'

-- By the clock, if no program runs: those of the pace. If none is due, a start is tried, if one may come.
pub record DueByClock (at frames : ℕ) (before after : BetweenState) (pace pace' : PaceState) : Type 0 where
  pub due : frames ≡ due_at pace at
  pub paced : pace' ≡ after_due pace at
  pub tried : after.starts.tried
      ≡ (if (frames == 0) && may_come before.starts at then before.starts.tried + 1 else before.starts.tried)
  pub begins : after.running ≢ None → frames ≡ 0

-- A start is tried as the sound of a tick is emitted, if no program runs, one may come, and by the clock no more frames are due.
-- A busy server finds no other moment.
abbrev pub begins_now : {P : Type 0} → CardState P → Bool
begins_now card = is_none card.between.running && may_come card.between.starts card.at
    && not (nat_lt 0 (due_at card.pace card.at))

-- If no program runs, nothing happens but one start, by this command line and at this moment.
abbrev pub StartsOnly : ℕ → List (List ℕ) → BetweenState → BetweenState → Option (List ToldAct) → Option (List ToldAct) → Type 0
StartsOnly at words before after acts acts' = ((after ≡ before) × Unchanged acts acts')
    ⊎ ((came : Launched) × (after ≡ begun_between came at before) × Appended acts (launched at words came ∷ []) acts')

-- the same after the sound of a tick is emitted, which nobody is handed
abbrev pub EmitsAndStarts : ℕ → List ℕ → List (List ℕ) → BetweenState → BetweenState → Option (List ToldAct) →
    Option (List ToldAct) → Type 0
EmitsAndStarts at sound words before after acts acts' = HandsNone sound before after acts acts'
    ⊎ ((came : Launched) × (after ≡ begun_between came at (record before { tick = None }))
    × Appended acts (emitted sound ∷ launched at words came ∷ []) acts')

-- No frame is due between the two calls of a tick.
abbrev pub DueOf : Option ℕ → Option Running → ℕ → ℕ → BetweenState → BetweenState → PaceState → PaceState → Type 0
DueOf (Some bytes) running at frames before after pace pace' = (frames ≡ 0) × (after ≡ before) × (pace' ≡ pace)
DueOf None None at frames before after pace pace' = DueByClock at frames before after pace pace'
DueOf None (Some running) at frames before after pace pace' = DueOfKind before.shape.kind at frames after pace pace'

-- Answers

-- Failed exactly if the device is dead, or it is not the tick that is due
abbrev pub captures : BetweenState → ℕ → Put
captures b bytes = if not (is_dead b) && may_capture b bytes then put.Done else put.Failed

abbrev pub emits : BetweenState → ℕ → Put
emits b bytes = if not (is_dead b) && may_emit b bytes then put.Done else put.Failed
