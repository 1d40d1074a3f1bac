-- The sound file of a piece: its header, its samples, and the byte that makes the sound of a WAVE file even.
use Rattle.std.specs.Prelude.{ℕ, ◌*◌, ◌%◌, ◌==◌, nat_lt, if◌then◌else◌, List, [], ◌∷◌, Option, None, Some}
use Rattle.std.specs.Option.{option_map_or}
use Rattle.af_sound.specs.declared.head.Coding.{Coding}
use Rattle.af_sound.specs.declared.head.SoundForm.{SoundForm}
use Rattle.af_sound.specs.declared.head.SoundForm.TheVariants.{Au, Wave}
use Rattle.af_sound.specs.declared.head.SoundHead.{SoundHead}
use Rattle.af_sound.specs.Fields.{unknown_length}
use Rattle.af_sound.specs.Served.{filed_bytes}
use Rattle.af_sound.specs.Written.{written_head}
use Rattle.af_logger.specs.declared.plan.Plan.{Plan}
use Rattle.af_logger.specs.Plans.{coding_in, frame_size}

-- samples as they are written: as a file codes them, or as they came
abbrev pub as_filed : Option Coding → List ℕ → List ℕ
as_filed coding bytes = option_map_or (λ c. filed_bytes c bytes) coding bytes

-- the bytes of the sound of a whole piece
abbrev pub sound_size : Plan → ℕ
sound_size plan = plan.frames * frame_size plan

-- the length that the header states: that of the whole piece, if the header can state it
abbrev pub stated_length : Plan → Option ℕ
stated_length plan = if nat_lt (sound_size plan) unknown_length then Some (sound_size plan) else None

-- the header
abbrev pub head_in : SoundForm → Plan → SoundHead
head_in form plan = record {
  coding = coding_in form plan.ty;
  rate = plan.rate;
  channels = plan.channels;
  length = stated_length plan;
}

unfoldable pub head_of : Plan → List ℕ
head_of plan = option_map_or (λ form. written_head form (head_in form plan)) plan.form []

-- after the whole sound of a WAVE file: a byte that makes it even
abbrev pub pad_by : Option SoundForm → (size : ℕ) → List ℕ
pad_by (Some Wave) size = if size % 2 == 1 then 0 ∷ [] else []
pad_by (Some Au) size = []
pad_by None size = []

abbrev pub pad_of : Plan → List ℕ
pad_of plan = pad_by plan.form (sound_size plan)
