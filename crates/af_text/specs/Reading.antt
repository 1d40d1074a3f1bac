-- Reading a text line by line.
use Rattle.std.specs.Prelude.{◌≡◌, ℕ, suc, ◌≤◌, Bool, List, [], ◌∷◌, length, Option, Some, None, Result, Ok, Err, IsOk, IsSome, if◌then◌else◌}
use Rattle.af_text.specs.Lines.{with_first}
use Rattle.af_text.specs.declared.reading.LineFault.{LineFault}
use Rattle.af_text.specs.declared.reading.LineFault.TheVariants as fault

-- a line that is not skipped: its number in the text, and what it holds
pub record Entry (A : Type 0) : Type 0 where
  pub number : ℕ
  pub said : A

-- the lines that are not skipped; the first of all lines has this number
abbrev pub entries_of : {A : Type 0} → (List ℕ → Bool) → (List ℕ → A) → ℕ → List (List ℕ) → List (Entry A)
entries_of is_over said n [] = []
entries_of is_over said n (line ∷ rest) =
    if is_over line then entries_of is_over said (suc n) rest else record { number = n; said = said line }
    ∷ entries_of is_over said (suc n) rest

-- what each of these lines says, or the number of the first that says nothing
abbrev pub each_says : {A B : Type 0} → (A → Option B) → List (Entry A) → Result (List B) ℕ
each_says says [] = Ok []
each_says says (e ∷ es) = with_first e.number (says e.said) (each_says says es)

-- reading goes on if the line was allowed
abbrev pub go_on : {S : Type 0} → (S → Result S ℕ) → ℕ → Option S → Result S ℕ
go_on f n None = Err n
go_on f n (Some s) = f s

-- What was read so far, and then these lines, which are numbered from this number on. The result is the value, if each line was
-- allowed. Else it is the number of the first line that is not, or the number after the last line, if something is still missing
-- then.
abbrev pub read_on : {S : Type 0} → (S → List ℕ → Option S) → (S → Bool) → S → ℕ → List (List ℕ) → Result S ℕ
read_on with_line wants s n [] = if wants s then Err n else Ok s
read_on with_line wants s n (line ∷ rest) = go_on (λ t. read_on with_line wants t (suc n) rest) n (with_line s line)

-- reading meets its first fault in this line
abbrev pub MeetsFault : {S : Type 0} → Result S ℕ → LineFault → Type 0
MeetsFault read (fault.Line n) = read ≡ Err n
MeetsFault read fault.OutOfMemory = Unit {0}

-- A text that is good in every way: its source is observable before and after, it can be read, and it has at most so many bytes.
pub record IsGoodText {A : Type 0} (read : List ℕ → Result A ℕ) (most : ℕ) (left left' : Option (List ℕ)) : Type 0 where
  pub text : List ℕ
  pub told : left ≡ Some text
  pub tells : IsSome left'
  pub means : IsOk (read text)
  pub within : length text ≤ most
