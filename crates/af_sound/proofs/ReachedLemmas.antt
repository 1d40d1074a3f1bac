-- Places that a reader reaches: byte by byte, and field by field.
use Rattle.std.proofs.Common.{◌≡◌, ◌≢◌, ℕ, Bool, true, false, Option, Some, None, List, [], ◌∷◌, ◌++◌, length, refl, sym, ap, ◌∙◌, subst, arith}
use Rattle.std.specs.Prelude.{if◌then◌else◌}
use Rattle.std.specs.Str.{bytes_eq}
use Rattle.std.specs.Cmp.Lexicographic.{same_text}
use Rattle.af_sound.specs.declared.head.SoundForm.{SoundForm}
use Rattle.af_sound.specs.declared.head.SoundHead.{SoundHead}
use Rattle.af_sound.specs.declared.head.SoundFault.{SoundFault}
use Rattle.af_sound.specs.declared.head.HeadStep.TheVariants as step
use Rattle.af_sound.specs.declared.head_reader.Place.{Place}
use Rattle.af_sound.specs.declared.head_reader.Place.TheVariants.{Field, Annotation, Chunk, Head, Bad}
use Rattle.af_sound.specs.declared.head_reader.Field as fields
use Rattle.af_sound.specs.Heads.{IsHead, HasFault}
use Rattle.af_sound.specs.Reading.{field_start, place_after_byte, after_field, is_inside, place_after_bytes, step_at}

-- what a place says of the bytes that lead to it
abbrev pub Says : SoundForm → List ℕ → Place → Type 0
Says form bytes (Head head) = IsHead form bytes head
Says form bytes (Bad fault) = HasFault form bytes fault
Says form bytes (Field of part) = Unit {0}
Says form bytes (Annotation left head) = Unit {0}
Says form bytes (Chunk left format) = Unit {0}

pub opened : (t : Bool) (x : Option Place) (place : Place) → (if t then x else None) ≡ Some place → t ≡ true
opened true x place e = refl
opened false x place e = absurd cc

-- two lists that differ are told apart
pub different : (xs ys : List ℕ) → xs ≢ ys → bytes_eq xs ys ≡ false
different xs ys other = by (bytes_eq xs ys) refl where
  by : (t : Bool) → bytes_eq xs ys ≡ t → t ≡ false
  by true test = absurd (other (same_text xs ys (sym test)))
  by false test = refl

-- a byte at the front
pub reached_first : (place : Place) (byte : ℕ) (rest : List ℕ) → is_inside place ≡ true → place_after_bytes place (byte ∷ rest) ≡ place_after_bytes (place_after_byte place byte) rest
reached_first place byte rest inside = ap (λ (t : Bool). if t then place_after_bytes (place_after_byte place byte) rest else None) inside

-- what is reached from the front of some bytes goes on with the rest
pub reached_more : (bytes rest : List ℕ) (first place : Place) → place_after_bytes first bytes ≡ Some place → place_after_bytes first (bytes ++ rest) ≡ place_after_bytes place rest
reached_more [] rest first place e = let same : first ≡ place = cc in ap (λ (p : Place). place_after_bytes p rest) same
reached_more (b ∷ bytes) rest first place e =
    let open_first : is_inside first ≡ true = opened (is_inside first) (place_after_bytes (place_after_byte first b) bytes) place e in
    let later : place_after_bytes (place_after_byte first b) bytes ≡ Some place = sym (reached_first first b bytes open_first) ∙ e in
    reached_first first b (bytes ++ rest) open_first ∙ reached_more bytes rest (place_after_byte first b) place later

-- a byte at the end
pub reached_last : (bytes : List ℕ) (first place : Place) (byte : ℕ) → place_after_bytes first bytes ≡ Some place → is_inside place ≡ true →
    place_after_bytes first (bytes ++ (byte ∷ [])) ≡ Some (place_after_byte place byte)
reached_last bytes first place byte e inside = reached_more bytes (byte ∷ []) first place e ∙ reached_first place byte [] inside

-- after a fault and after a header no byte is taken
pub bad_ends : (fault : SoundFault) (more : List ℕ) (place : Place) → place_after_bytes (Bad fault) more ≡ Some place → (more ≡ []) × (Bad fault ≡ place)
bad_ends fault [] place e = (refl, cc)
bad_ends fault (b ∷ rest) place e = absurd cc

pub head_ends : (head : SoundHead) (more : List ℕ) (place : Place) → place_after_bytes (Head head) more ≡ Some place → (more ≡ []) × (Head head ≡ place)
head_ends head [] place e = (refl, cc)
head_ends head (b ∷ rest) place e = absurd cc

pub inside_says : (form : SoundForm) (bytes : List ℕ) (place : Place) → is_inside place ≡ true → Says form bytes place
inside_says form bytes (Head head) inside = absurd cc
inside_says form bytes (Bad fault) inside = absurd cc
inside_says form bytes (Field of part) inside = tt
inside_says form bytes (Annotation left head) inside = tt
inside_says form bytes (Chunk left format) inside = tt

-- within a header nothing is reported
pub unsaid : (form : SoundForm) (bytes : List ℕ) (inner place : Place) → Some inner ≡ Some place → is_inside inner ≡ true → Says form bytes place
unsaid form bytes inner place e inside =
    let same : inner ≡ place = cc in
    subst (λ (p : Place). Says form bytes p) same (inside_says form bytes inner inside)

-- four bytes are a field
pub field_read : (of : fields.Field) (field rest : List ℕ) → length field ≡ 4 → place_after_bytes (field_start of) (field ++ rest) ≡ place_after_bytes (after_field of field) rest
field_read of (a ∷ b ∷ c ∷ d ∷ []) rest four = refl
field_read of _ rest four = absurd (omega arith)

pub head_said : (place : Place) (head : SoundHead) → step_at place ≡ step.Head head → place ≡ Head head
head_said (Head h) head e = cc
head_said (Bad fault) head e = absurd cc
head_said (Field of part) head e = absurd cc
head_said (Annotation left h) head e = absurd cc
head_said (Chunk left format) head e = absurd cc

pub bad_said : (place : Place) (fault : SoundFault) → step_at place ≡ step.Bad fault → place ≡ Bad fault
bad_said (Head h) fault e = absurd cc
bad_said (Bad f) fault e = cc
bad_said (Field of part) fault e = absurd cc
bad_said (Annotation left h) fault e = absurd cc
bad_said (Chunk left format) fault e = absurd cc
