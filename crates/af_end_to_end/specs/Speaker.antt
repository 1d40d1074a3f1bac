-- From a device to its loudspeaker: what the program of a loudspeaker is given.
use Rattle.std.specs.Prelude.{◌≡◌, ◌⊎◌, ◌≤◌, ℕ, ◌==◌, ◌&&◌, if◌then◌else◌, Bool, true, List, [], ◌∷◌, ◌++◌, length, flat_map, slice_get}
use Rattle.std.specs.List.{All}
use Rattle.std.specs.declared.option.Option.TheVariants.{Some}
use Rattle.af_program.specs.Acts.{ToldAct, launched, asked, gave, offered, took, ended, captured, emitted}
use Rattle.af_program.specs.Ledger.{Ledger}
use Rattle.af_world.specs.declared.card_kind.CardKind.TheVariants as kind
use Rattle.af_world.specs.declared.happening.Happening.TheVariants.{Woke, Read, Wrote, Closed, Captured, Emitted, Hooked}
use Rattle.af_world.specs.Log.{Log}
use Rattle.af_card.specs.declared.shape.Shape.{Shape}
use Rattle.af_card.specs.Ledger.{Run, ledger_of}
use Rattle.af_card.specs.Fed.{piece_of}
use Rattle.af_card.specs.Card.{IsFed}
use Rattle.af_model.specs.State.{DeviceState}
use Rattle.af_tools.specs.Play.{gained_samples}
use Rattle.af_end_to_end.specs.Aplay.{DoneJob, EmitsSound, HasNoOther, SoundsAt, blocks_of, frames_of}

-- What a device emits

-- a sound that a device emitted comes before others
abbrev pub sound_if : Bool → List ℕ → List (List ℕ) → List (List ℕ)
sound_if is_its sound sounds = if is_its then sound ∷ sounds else sounds

-- the sounds that a device emitted in a log, in order, but one that it failed to emit
abbrev pub sounds_of : (d : ℕ) → Log → List (List ℕ)
sounds_of d [] = []
sounds_of d (Woke wake ∷ log) = sounds_of d log
sounds_of d (Read k got ∷ log) = sounds_of d log
sounds_of d (Wrote k n bytes ∷ log) = sounds_of d log
sounds_of d (Closed k why ∷ log) = sounds_of d log
sounds_of d (Captured e frames bytes ∷ log) = sounds_of d log
sounds_of d (Emitted e sound done ∷ log) = sound_if (done && e == d) sound (sounds_of d log)
sounds_of d (Hooked e off done ∷ log) = sounds_of d log

-- the sound that an act says was emitted, and those of all acts, in order
abbrev pub emitted_by : ToldAct → List (List ℕ)
emitted_by (launched at words outcome) = []
emitted_by (asked room came) = []
emitted_by (gave bytes) = []
emitted_by (offered bytes answer) = []
emitted_by (took bytes) = []
emitted_by (ended at) = []
emitted_by (captured sound) = []
emitted_by (emitted sound) = sound ∷ []

abbrev pub emitted_in : List ToldAct → List (List ℕ)
emitted_in acts = flat_map emitted_by acts

-- the log has an emit of this sound by a device
pub record IsEmittedIn (log : Log) (d : ℕ) (sound : List ℕ) : Type 0 where
  pub front : Log
  pub rest : Log
  pub is : log ≡ front ++ Emitted d sound true ∷ rest

-- What a program is given

-- a program ran so: it still runs, or it has ended
abbrev pub Ran : Ledger Run → Run → Type 0
Ran l run = (l.running ≡ Some run) ⊎ ((i : ℕ) × (slice_get l.past i ≡ Some run))

-- The program of a loudspeaker took the sounds that its device emitted while it ran, in order and none left out. It took them
-- from its standard input. What it is still owed is a hundredth of a second at most.
pub record IsHanded (log : Log) (d : ℕ) (shape : Shape) (run : Run) : Type 0 where
  pub earlier : List (List ℕ)
  pub during : List (List ℕ)
  pub later : List (List ℕ)
  pub are : sounds_of d log ≡ earlier ++ (during ++ later)
  pub each : All (IsEmittedIn log d) during
  pub owed : List ℕ
  pub took_all : flat_map (λ sound. sound) during ≡ run.taken ++ owed
  pub few : length owed ≤ piece_of shape

-- This holds of each loudspeaker, at each moment, if the acts of its program keep to what a card promises, and the sounds that
-- they say it emitted are those of the log.
abbrev pub SpeakersAreHanded : Type 0
SpeakersAreHanded = (log : Log) (d : ℕ) (shape : Shape) (restarts : ℕ) (acts : List ToldAct) → shape.kind ≡ kind.Speaker →
    IsFed shape restarts acts → emitted_in acts ≡ sounds_of d log →
    (run : Run) → Ran (ledger_of acts) run → IsHanded log d shape run

-- A job of aplay that sounds on a device: if nobody else plays at its times, each sound that the loudspeaker's program was given
-- has the samples of the source at their times.
abbrev pub JobsAreHanded : Type 0
JobsAreHanded = (log : Log) (device : DeviceState) (j : DoneJob) (whole : ℕ) (s : SoundsAt log device j whole) →
    HasNoOther j.device.channels whole (frames_of j) (length (blocks_of j)) s.place device.accepted →
    (shape : Shape) (run : Run) (h : IsHanded log j.job.device shape run) →
    All (EmitsSound j.device.channels whole (frames_of j) (gained_samples j.ty j.job.gain j.samples)) h.during
