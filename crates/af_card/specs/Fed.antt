-- What a device with a program promises of the sound between the two.
use Rattle.std.specs.Prelude.{◌≡◌, ⊤, ℕ, ◌*◌, ◌/◌, ◌≤◌, ◌<◌, min, List, [], ◌∷◌, ◌++◌, length, take, replicate, All}
use Rattle.std.specs.declared.option.Option.{Option}
use Rattle.std.specs.declared.option.Option.TheVariants.{None, Some}
use Rattle.af_limits.specs.Limits.{longest_tick}
use Rattle.af_program.specs.Ledger.{Ledger}
use Rattle.af_world.specs.declared.card_kind.CardKind.{CardKind}
use Rattle.af_world.specs.declared.card_kind.CardKind.TheVariants as kind
use Rattle.af_card.specs.declared.shape.Shape.{Shape}
use Rattle.af_card.specs.Ledger.{Run}

-- the frames of a piece, a hundredth of a second of sound, and its bytes
abbrev pub piece_frames : Shape → ℕ
piece_frames shape = min (shape.rate / 100) longest_tick

abbrev pub piece_of : Shape → ℕ
piece_of shape = piece_frames shape * shape.frame_bytes

-- sounds as one; the latest stands first
abbrev pub sound_of : List (List ℕ) → List ℕ
sound_of [] = []
sound_of (sound ∷ earlier) = sound_of earlier ++ sound

-- whole frames
abbrev pub HasWholeFrames : ℕ → List ℕ → Type 0
HasWholeFrames width sound = (frames : ℕ) × (length sound ≡ frames * width)

abbrev pub IsSilent : ℕ → List ℕ → Type 0
IsSilent silence sound = sound ≡ replicate (length sound) silence

-- Captured

-- What was captured is what the program gave, in order, each byte once and in whole frames. This much of it is left.
pub record CapturedOf (width : ℕ) (gave : List ℕ) (sounds : List (List ℕ)) (left : List ℕ) : Type 0 where
  pub given : gave ≡ sound_of sounds ++ left
  pub whole : All (HasWholeFrames width) sounds

-- the program of a loudspeaker gives nothing, and the device captures silence
pub record CapturedNone (silence : ℕ) (gave : List ℕ) (sounds : List (List ℕ)) (left : List ℕ) : Type 0 where
  pub given : gave ≡ []
  pub silent : All (IsSilent silence) sounds
  pub none : left ≡ []

-- the same of an encoder, in whole frames
pub record CapturedSilence (width silence : ℕ) (gave : List ℕ) (sounds : List (List ℕ)) (left : List ℕ) : Type 0 where
  pub silence_alone : CapturedNone silence gave sounds left
  pub whole : All (HasWholeFrames width) sounds

abbrev pub CapturedBy : CardKind → Shape → List ℕ → List (List ℕ) → List ℕ → Type 0
CapturedBy kind.Speaker shape gave sounds left = CapturedNone shape.silence gave sounds left
CapturedBy kind.Microphone shape gave sounds left = CapturedOf shape.frame_bytes gave sounds left
CapturedBy kind.Card shape gave sounds left = CapturedOf shape.frame_bytes gave sounds left
CapturedBy kind.Encoder shape gave sounds left = CapturedSilence shape.frame_bytes shape.silence gave sounds left

-- Handed

-- whole frames from the front of each sound are handed, and the rest is lost; the latest sound stands first
abbrev pub IsPassed : ℕ → List (List ℕ) → List ℕ → Type 0
IsPassed width [] passed = passed ≡ []
IsPassed width (sound ∷ earlier) passed =
    (before : List ℕ) × (frames : ℕ) × IsPassed width earlier before × (passed ≡ before ++ take (frames * width) sound)

-- A card is handed whole frames from the front of each sound, in order, except the part of a frame that it is owed. So is an
-- encoder.
pub record HandedPassed (width : ℕ) (sounds : List (List ℕ)) (took owed : List ℕ) : Type 0 where
  pub passed : IsPassed width sounds (took ++ owed)
  pub part : length owed < width

-- a loudspeaker is handed all sound, in order, except what it is owed, which is a piece at most
pub record HandedAll (piece : ℕ) (sounds : List (List ℕ)) (took owed : List ℕ) : Type 0 where
  pub all : sound_of sounds ≡ took ++ owed
  pub piece_at_most : length owed ≤ piece

-- a microphone is handed nothing
pub record HandedNone (took owed : List ℕ) : Type 0 where
  pub none : took ≡ []
  pub owes : owed ≡ []

abbrev pub HandedBy : CardKind → Shape → List (List ℕ) → List ℕ → List ℕ → Type 0
HandedBy kind.Speaker shape sounds took owed = HandedAll (piece_of shape) sounds took owed
HandedBy kind.Microphone shape sounds took owed = HandedNone took owed
HandedBy kind.Card shape sounds took owed = HandedPassed shape.frame_bytes sounds took owed
HandedBy kind.Encoder shape sounds took owed = HandedPassed shape.frame_bytes sounds took owed

-- In step

-- each sound has as many bytes as the other one of the same tick
abbrev pub AreAsLong : List (List ℕ) → List (List ℕ) → Type 0
AreAsLong [] [] = ⊤
AreAsLong [] (e ∷ es) = ⊥
AreAsLong (c ∷ cs) [] = ⊥
AreAsLong (c ∷ cs) (e ∷ es) = (length c ≡ length e) × AreAsLong cs es

-- In each tick as much was captured as was emitted. Between the two calls of a tick the latest was captured, and is still to be
-- emitted.
abbrev pub IsInStep : Option ℕ → List (List ℕ) → List (List ℕ) → Type 0
IsInStep None captured emitted = AreAsLong captured emitted
IsInStep (Some bytes) [] emitted = ⊥
IsInStep (Some bytes) (c ∷ cs) emitted = (length c ≡ bytes) × AreAsLong cs emitted

-- All

-- While a program runs: what it gave and was not captured, what it is owed, and the bytes of a tick that was captured and is
-- still to be emitted, if there is one.
pub record RunFits (shape : Shape) (run : Run) (left owed : List ℕ) (tick : Option ℕ) : Type 0 where
  pub captured : CapturedBy shape.kind shape run.given run.captured left
  pub handed : HandedBy shape.kind shape run.emitted run.taken owed
  pub in_step : IsInStep tick run.captured run.emitted

-- Once a program has ended, less than a frame of what it gave was not captured.
abbrev pub PastRunFits : Shape → Run → Type 0
PastRunFits shape run = (left : List ℕ) × (owed : List ℕ) × RunFits shape run left owed None × (length left < shape.frame_bytes)

-- All that was captured and emitted before now fits: each program that ran kept to this, and without one silence was captured. No
-- sound is handed to two programs, since each is handed what was emitted while it ran.
pub record PastFits (shape : Shape) (ledger : Ledger Run) : Type 0 where
  pub past : All (PastRunFits shape) ledger.past
  pub idle : All (IsSilent shape.silence) ledger.idle
