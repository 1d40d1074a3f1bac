-- What the first bytes of a file say of its sound.
use Rattle.std.specs.Prelude.{ℕ, suc, if◌then◌else◌, List, [], ◌∷◌}
use Rattle.af_sound.specs.declared.head.SoundForm.{SoundForm}
use Rattle.af_sound.specs.declared.head.HeadStep.{HeadStep}
use Rattle.af_sound.specs.declared.head_reader.Place.{Place}
use Rattle.af_sound.specs.Reading.{place_after_byte, is_inside, start, step_at}

-- The answer after the first bytes: Head or Bad after the bytes that decide it, or More after all, if they end within a header.
pub record Front : Type 0 where
  pub says : HeadStep
  pub size : ℕ

-- from a place on, once so many bytes were taken
abbrev pub front_from : Place → ℕ → List ℕ → Front
front_from place taken [] = record { says = step_at place; size = taken }
front_from place taken (byte ∷ rest) =
    if is_inside place then front_from (place_after_byte place byte) (suc taken) rest
    else record { says = step_at place; size = taken }

unfoldable pub front_of : SoundForm → List ℕ → Front
front_of form bytes = front_from (start form) 0 bytes
