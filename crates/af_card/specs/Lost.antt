-- The frames of sound for which a card or an encoder had no room: how many there were, by the acts.
use Rattle.std.specs.Prelude.{◌≡◌, ⊤, ℕ, ◌+◌, ◌-◌, ◌/◌, min, List, [], ◌∷◌, length, MatchOption}
use Rattle.std.specs.declared.option.Option.{Option}
use Rattle.std.specs.declared.option.Option.TheVariants.{None, Some}
use Rattle.af_program.specs.declared.program.Took.{Took}
use Rattle.af_program.specs.declared.program.Took.TheVariants as takes
use Rattle.af_program.specs.Acts.{ToldAct}
use Rattle.af_program.specs.Ledger.{Ledger}
use Rattle.af_world.specs.declared.card_kind.CardKind.{CardKind}
use Rattle.af_world.specs.declared.card_kind.CardKind.TheVariants as kind
use Rattle.af_card.specs.declared.shape.Shape.{Shape}
use Rattle.af_card.specs.Ledger.{Run, ledger_of}
use Rattle.af_card.specs.Fed.{sound_of}

-- the highest count
abbrev pub most_lost : ℕ
most_lost = 18446744073709551615

-- While one program ran: how many whole frames were emitted to a card, or to an encoder, and not handed to its program. A frame
-- that was handed in part counts as handed. A loudspeaker loses none, and a microphone hands nothing.
abbrev pub lost_by : CardKind → ℕ → List (List ℕ) → List ℕ → ℕ
lost_by kind.Speaker width emitted taken = 0
lost_by kind.Microphone width emitted taken = 0
lost_by kind.Card width emitted taken = (length (sound_of emitted) - length taken) / width
lost_by kind.Encoder width emitted taken = (length (sound_of emitted) - length taken) / width

abbrev pub lost_in : Shape → Run → ℕ
lost_in shape run = lost_by shape.kind shape.frame_bytes run.emitted run.taken

abbrev pub lost_now : Shape → Option Run → ℕ
lost_now shape None = 0
lost_now shape (Some run) = lost_in shape run

abbrev pub lost_before : Shape → List Run → ℕ
lost_before shape [] = 0
lost_before shape (run ∷ earlier) = lost_before shape earlier + lost_in shape run

-- while all programs ran
abbrev pub lost_of : Shape → Ledger Run → ℕ
lost_of shape ledger = min (lost_before shape ledger.past + lost_now shape ledger.running) most_lost

-- a count is that of all acts, if these are observable
abbrev pub CountsLost : Shape → Option (List ToldAct) → ℕ → Type 0
CountsLost shape acts count = MatchOption acts ⊤ (λ told. count ≡ lost_of shape (ledger_of told))

-- Counting

-- the bytes of a sound that were not taken, and that the program is not owed
abbrev pub without_room : Took → ℕ → ℕ → ℕ
without_room (takes.Bytes n) sound owed = sound - n - owed
without_room takes.NoRoom sound owed = sound
without_room takes.Ended sound owed = sound

-- after so many more bytes found no room
abbrev pub lost_after : ℕ → ℕ → ℕ → ℕ
lost_after lost bytes width = min (lost + bytes / width) most_lost
