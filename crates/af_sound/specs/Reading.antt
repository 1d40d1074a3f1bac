-- Which bytes a reader of headers has taken.
use Rattle.std.specs.Prelude.{◌≡◌, ℕ, ◌+◌, ◌-◌, ◌%◌, ◌==◌, ◌&&◌, nat_lt, Bool, true, false, IsTrue, if◌then◌else◌, Option, Some, None, Result, Ok, Err, List, [], ◌∷◌, codes, slice_index}
use Rattle.std.specs.Int.{w16, w32, from_be_bytes, from_le_bytes}
use Rattle.std.specs.Str.{bytes_eq}
use Rattle.af_sound.specs.declared.head.Coding.{Coding}
use Rattle.af_sound.specs.declared.head.SoundForm.{SoundForm}
use Rattle.af_sound.specs.declared.head.SoundForm.TheVariants as form
use Rattle.af_sound.specs.declared.head.SoundHead.{SoundHead}
use Rattle.af_sound.specs.declared.head.SoundFault.{SoundFault}
use Rattle.af_sound.specs.declared.head.SoundFault.TheVariants.{BadMagic, BadHead, BadCoding, BadShape}
use Rattle.af_sound.specs.declared.head.HeadStep.{HeadStep}
use Rattle.af_sound.specs.declared.head.HeadStep.TheVariants as step
use Rattle.af_sound.specs.declared.head_reader.HeadReader.{HeadReader}
use Rattle.af_sound.specs.declared.head_reader.Place.{Place}
use Rattle.af_sound.specs.declared.head_reader.Place.TheVariants.{Field, Annotation, Chunk, Head, Bad}
use Rattle.af_sound.specs.declared.head_reader.Field.TheVariants as field
use Rattle.af_sound.specs.declared.head_reader.Field as fields
use Rattle.af_sound.specs.declared.head_reader.Part.{Part}
use Rattle.af_sound.specs.declared.head_reader.Part.TheVariants.{Nothing, One, Two, Three}
use Rattle.af_sound.specs.declared.au.AuField.{AuField}
use Rattle.af_sound.specs.declared.au.AuField.TheVariants as au
use Rattle.af_sound.specs.declared.au.AuNumbers.{AuNumbers}
use Rattle.af_sound.specs.declared.wave.WaveField.{WaveField}
use Rattle.af_sound.specs.declared.wave.WaveField.TheVariants as wave
use Rattle.af_sound.specs.declared.wave.ChunkKind.{ChunkKind}
use Rattle.af_sound.specs.declared.wave.ChunkKind.TheVariants as kind
use Rattle.af_sound.specs.declared.wave.Format.{Format}
use Rattle.af_sound.specs.declared.wave.FormatFields.{FormatFields}
use Rattle.af_sound.specs.Fields.{has_shape, length_of}
use Rattle.af_sound.specs.Au.{au_coding}
use Rattle.af_sound.specs.Wave.{wave_coding}

-- before a field
abbrev pub field_start : fields.Field → Place
field_start of = Field of Nothing

-- what six numbers of an .au file say
abbrev pub au_shaped : AuNumbers → ℕ → Coding → Result SoundHead SoundFault
au_shaped numbers channels coding =
    if has_shape channels
    then Ok (record { coding = coding; rate = numbers.rate; channels = channels; length = length_of numbers.size })
    else Err (BadShape numbers.rate channels)

abbrev pub au_coded : AuNumbers → ℕ → Option Coding → Result SoundHead SoundFault
au_coded numbers channels (Some coding) = au_shaped numbers channels coding
au_coded numbers channels None = Err (BadCoding numbers.encoding 0)

abbrev pub au_head : AuNumbers → ℕ → Result SoundHead SoundFault
au_head numbers channels =
    if nat_lt numbers.offset 24 then Err BadHead else au_coded numbers channels (au_coding numbers.encoding)

abbrev pub au_end : AuNumbers → Result SoundHead SoundFault → Place
au_end numbers (Ok head) = if nat_lt 24 numbers.offset then Annotation (numbers.offset - 24) head else Head head
au_end numbers (Err fault) = Bad fault

abbrev pub au_name : Bool → Place
au_name true = field_start (field.Au au.Offset)
au_name false = Bad BadMagic

-- after a field of an .au file
abbrev pub au_number : AuField → ℕ → Place
au_number au.Name number = Bad BadMagic
au_number au.Offset number = field_start (field.Au (au.Size number))
au_number (au.Size offset) number = field_start (field.Au (au.Encoding offset number))
au_number (au.Encoding offset size) number = field_start (field.Au (au.Rate offset size number))
au_number (au.Rate offset size encoding) number =
    field_start (field.Au (au.Channels (record { offset = offset; size = size; encoding = encoding; rate = number })))
au_number (au.Channels numbers) number = au_end numbers (au_head numbers number)

abbrev pub au_after : AuField → List ℕ → Place
au_after au.Name bytes = au_name (bytes_eq bytes (codes ".snd"))
au_after of bytes = au_number of (from_be_bytes w32 bytes)

-- the kind of a chunk, by its name
abbrev pub chunk_kind : List ℕ → ChunkKind
chunk_kind name =
    if bytes_eq name (codes "fmt ") then kind.Format else if bytes_eq name (codes "data") then kind.Data else kind.Other

abbrev pub after_name : ChunkKind → Option Format → Place
after_name kind.Format None = field_start (field.Wave wave.FormatSize)
after_name kind.Format (Some format) = Bad BadHead
after_name kind.Data None = Bad BadHead
after_name kind.Data (Some format) = field_start (field.Wave (wave.DataSize format))
after_name kind.Other format = field_start (field.Wave (wave.ChunkSize format))

-- before so many bytes of a chunk and its pad byte
abbrev pub before_rest : ℕ → Option Format → Place
before_rest left format = if left == 0 then field_start (field.Wave (wave.ChunkName format)) else Chunk left format

abbrev pub chunk_start : ℕ → Option Format → Place
chunk_start count format = before_rest (count + count % 2) format

-- what `fmt ` says
abbrev pub format_shaped : FormatFields → Coding → Result Format SoundFault
format_shaped fields coding =
    if has_shape fields.channels
    then Ok (record { coding = coding; rate = fields.rate; channels = fields.channels })
    else Err (BadShape fields.rate fields.channels)

abbrev pub format_coded : FormatFields → ℕ → Option Coding → Result Format SoundFault
format_coded fields bits (Some coding) = format_shaped fields coding
format_coded fields bits None = Err (BadCoding fields.tag bits)

abbrev pub format_of : FormatFields → ℕ → Result Format SoundFault
format_of fields bits = format_coded fields bits (wave_coding fields.tag bits)

abbrev pub format_end : FormatFields → Result Format SoundFault → Place
format_end fields (Ok format) = chunk_start fields.more (Some format)
format_end fields (Err fault) = Bad fault

abbrev pub head_with : Format → ℕ → SoundHead
head_with format size = record { coding = format.coding; rate = format.rate; channels = format.channels; length = length_of size }

abbrev pub wave_name : Bool → Place
wave_name true = field_start (field.Wave (wave.ChunkName None))
wave_name false = Bad BadMagic

-- the number that the first two of four bytes spell
abbrev pub low_half : List ℕ → ℕ
low_half bytes = from_le_bytes w16 (slice_index bytes 0 ∷ slice_index bytes 1 ∷ [])

abbrev pub high_half : List ℕ → ℕ
high_half bytes = from_le_bytes w16 (slice_index bytes 2 ∷ slice_index bytes 3 ∷ [])

abbrev pub format_size : ℕ → Place
format_size size = if nat_lt size 16 then Bad BadHead else field_start (field.Wave (wave.FormatTag (size - 16)))

-- after four bytes of a WAVE file
abbrev pub wave_after : WaveField → List ℕ → Place
wave_after wave.Riff bytes = field_start (field.Wave (wave.RiffSize (bytes_eq bytes (codes "RIFF"))))
wave_after (wave.RiffSize riff) bytes = field_start (field.Wave (wave.Wave riff))
wave_after (wave.Wave riff) bytes = wave_name (riff && bytes_eq bytes (codes "WAVE"))
wave_after (wave.ChunkName format) bytes = after_name (chunk_kind bytes) format
wave_after (wave.ChunkSize format) bytes = chunk_start (from_le_bytes w32 bytes) format
wave_after wave.FormatSize bytes = format_size (from_le_bytes w32 bytes)
wave_after (wave.FormatTag more) bytes = field_start (field.Wave (wave.FormatRate more (low_half bytes) (high_half bytes)))
wave_after (wave.FormatRate more tag channels) bytes =
    field_start
    (field.Wave (wave.FormatIgnored (record { more = more; tag = tag; channels = channels; rate = from_le_bytes w32 bytes })))
wave_after (wave.FormatIgnored fields) bytes = field_start (field.Wave (wave.FormatBits fields))
wave_after (wave.FormatBits fields) bytes = format_end fields (format_of fields (high_half bytes))
wave_after (wave.DataSize format) bytes = Head (head_with format (from_le_bytes w32 bytes))

abbrev pub after_field : fields.Field → List ℕ → Place
after_field (field.Au of) bytes = au_after of bytes
after_field (field.Wave of) bytes = wave_after of bytes

-- a field with one more byte
abbrev pub field_after_byte : fields.Field → Part → ℕ → Place
field_after_byte of Nothing byte = Field of (One byte)
field_after_byte of (One a) byte = Field of (Two a byte)
field_after_byte of (Two a b) byte = Field of (Three a b byte)
field_after_byte of (Three a b c) byte = after_field of (a ∷ b ∷ c ∷ byte ∷ [])

-- the place after a byte
abbrev pub place_after_byte : Place → ℕ → Place
place_after_byte (Field of part) byte = field_after_byte of part byte
place_after_byte (Annotation left head) byte = if nat_lt 1 left then Annotation (left - 1) head else Head head
place_after_byte (Chunk left format) byte = if nat_lt 1 left then Chunk (left - 1) format
    else field_start (field.Wave (wave.ChunkName format))
place_after_byte (Head head) byte = Head head
place_after_byte (Bad fault) byte = Bad fault

-- what a reader says at a place
abbrev pub step_at : Place → HeadStep
step_at (Field of part) = step.More
step_at (Annotation left head) = step.More
step_at (Chunk left format) = step.More
step_at (Head head) = step.Head head
step_at (Bad fault) = step.Bad fault

-- whether a place is within a header
abbrev pub is_inside : Place → Bool
is_inside (Field of part) = true
is_inside (Annotation left head) = true
is_inside (Chunk left format) = true
is_inside (Head head) = false
is_inside (Bad fault) = false

abbrev pub start : SoundForm → Place
start form.Au = field_start (field.Au au.Name)
start form.Wave = field_start (field.Wave wave.Riff)

-- the place after some bytes, if all of them can be taken
abbrev pub place_after_bytes : Place → List ℕ → Option Place
place_after_bytes place [] = Some place
place_after_bytes place (byte ∷ rest) = if is_inside place then place_after_bytes (place_after_byte place byte) rest else None

-- each answer of a reader was More
abbrev pub IsOpen : HeadReader → Type 0
IsOpen reader = IsTrue (is_inside reader.place)

-- a reader of a form has taken these bytes, one after the other
unfoldable pub HasTaken : HeadReader → SoundForm → List ℕ → Type 0
HasTaken reader form bytes = place_after_bytes (start form) bytes ≡ Some reader.place
