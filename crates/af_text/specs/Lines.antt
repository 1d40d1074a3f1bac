-- A text is a list of lines, and a line is a list of words.
use Rattle.std.specs.Prelude.{ℕ, ◌==◌, Bool, true, false, not, ◌||◌, List, [], ◌∷◌, filter, Option, Some, None, Result, Ok, Err, if◌then◌else◌}

-- a byte in front of the first of some parts
abbrev pub put_in_front : ℕ → List (List ℕ) → List (List ℕ)
put_in_front b [] = (b ∷ []) ∷ []
put_in_front b (part ∷ parts) = (b ∷ part) ∷ parts

-- the lines of a text, each without the LF that ends it; the last may end with the text
abbrev pub lines : List ℕ → List (List ℕ)
lines [] = []
lines (b ∷ text) = if b == 10 then [] ∷ lines text else put_in_front b (lines text)

-- the parts of a line before, between and after its spaces
abbrev pub parts : List ℕ → List (List ℕ)
parts [] = [] ∷ []
parts (b ∷ line) = if b == 32 then [] ∷ parts line else put_in_front b (parts line)

-- a list of nothing
abbrev pub is_nil : {A : Type 0} → List A → Bool
is_nil [] = true
is_nil (x ∷ xs) = false

-- the words of a line: its parts that are not empty
abbrev pub words : List ℕ → List (List ℕ)
words line = filter (λ part. not (is_nil part)) (parts line)

-- a comment begins with `#`
abbrev pub is_comment : List ℕ → Bool
is_comment [] = false
is_comment (b ∷ line) = b == 35

-- comments are skipped, and so are lines without words
abbrev pub is_passed_over : List ℕ → Bool
is_passed_over line = is_comment line || is_nil (words line)

-- a value before those of the later lines, if each line has one; or else the number of the first line that has none
abbrev pub with_first : {A : Type 0} → ℕ → Option A → Result (List A) ℕ → Result (List A) ℕ
with_first number None rest = Err number
with_first number (Some x) (Ok xs) = Ok (x ∷ xs)
with_first number (Some x) (Err n) = Err n
