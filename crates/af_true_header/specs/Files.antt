-- A sound file that is being written, and the header that it has.
use Rattle.std.specs.Prelude.{◌≡◌, ◌+◌, ◌-◌, ◌^◌, ◌&&◌, ℕ, Bool, IsTrue, true, false, nat_lt, nat_le, if◌then◌else◌, Option, Some, None, List, ◌++◌, length, drop}
use Rattle.af_io.specs.declared.flow.Put.{Put}
use Rattle.af_io.specs.declared.flow.Put.TheVariants as put
use Rattle.af_sound.specs.declared.head.SoundForm.{SoundForm}
use Rattle.af_sound.specs.declared.head.SoundHead.{SoundHead}
use Rattle.af_sound.specs.Fields.{has_shape}
use Rattle.af_sound.specs.Written.{head_size, is_written, written_head}
use Rattle.af_true_header.specs.declared.extent.Extent.{Extent}
use Rattle.af_true_header.specs.declared.sound_file.SoundFile.{SoundFile}
use Rattle.af_true_header.specs.Headers.{is_pad, second_bytes, true_header}

-- a header can be written in a form with any length
pub record IsShaped (form : SoundForm) (head : SoundHead) : Type 0 where
  pub shape : IsTrue (has_shape head.channels)
  pub coding : IsTrue (is_written form head.coding)

-- the file of a header that was just written
abbrev pub begun_file : SoundForm → SoundHead → SoundFile
begun_file form head = record {
  form = form;
  head = head;
  extent = record { bytes = 0; padded = false };
  stated = None;
  unbroken = true;
}

-- a file after a write that was done
abbrev pub file_with : SoundFile → List ℕ → SoundFile
file_with file piece =
    if nat_lt (file.extent.bytes + length piece) (2 ^ 64) then record (file) {
      extent = record {
        bytes = file.extent.bytes + length piece;
        padded = is_pad file.form file.head file.extent piece;
      };
    } else record (file) { unbroken = false }

-- the file after a write of this piece; one that failed is not counted, and nothing is from then on
abbrev pub file_after : SoundFile → List ℕ → Put → SoundFile
file_after file piece put.Failed = record (file) { unbroken = false }
file_after file piece put.Done = if file.unbroken then file_with file piece else file

-- a second of sound was written since the header was made true to something, if it was
abbrev pub is_second_more : SoundHead → Extent → Option Extent → Bool
is_second_more head extent None = true
is_second_more head extent (Some stated) = nat_le (second_bytes head) (extent.bytes - stated.bytes)

-- the header is to be corrected
abbrev pub is_due : SoundFile → Bool
is_due file = file.unbroken && is_second_more file.head file.extent file.stated

-- the file after a correction
abbrev pub stating : Put → SoundFile → SoundFile
stating put.Done file = record (file) { stated = Some file.extent }
stating put.Failed file = file

-- the header of a file as it was written, and as it is
abbrev pub first_header : SoundFile → List ℕ
first_header file = written_head file.form file.head

abbrev pub header_stating : SoundFile → Option Extent → List ℕ
header_stating file None = first_header file
header_stating file (Some extent) = true_header file.form file.head extent

abbrev pub header_now : SoundFile → List ℕ
header_now file = header_stating file file.stated

-- what was written, by what a sink holds: the header as it was written, and all that is after it
abbrev pub written_file : SoundFile → (held : List ℕ) → List ℕ
written_file file held = first_header file ++ drop (head_size file.form) held

-- A sink holds the header that is true to what the file states, and then what was written after it.
pub record HoldsFile (file : SoundFile) (held : List ℕ) : Type 0 where
  pub is : held ≡ header_now file ++ drop (head_size file.form) held
  pub size : file.unbroken ≡ true → length held ≡ head_size file.form + file.extent.bytes

-- the headers of a file have their size, and can be written
pub record IsFile (file : SoundFile) : Type 0 where
  pub shaped : IsShaped file.form file.head
  pub first : length (first_header file) ≡ head_size file.form
  pub now : length (header_now file) ≡ head_size file.form
