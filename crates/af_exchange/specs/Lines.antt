-- Which changes of the line a program writes, and what it is handed of the hook.
use Rattle.std.specs.Prelude.{◌≡◌, ⊤, ℕ, ◌==◌, nat_lt, nat_le, ◌&&◌, Bool, true, false, if◌then◌else◌, List, [], ◌∷◌, ◌++◌, length, take, drop, codes, bytes_eq}
use Rattle.std.specs.List.{fold}
use Rattle.std.specs.declared.option.Option.{Option}
use Rattle.std.specs.declared.option.Option.TheVariants.{None, Some}
use Rattle.af_text.specs.Lines.{is_comment}
use Rattle.af_phone.specs.declared.line.LineChange.{LineChange}
use Rattle.af_phone.specs.declared.line.LineChange.TheVariants.{Ring, Current, Digit}
use Rattle.af_phone.specs.Lines.{is_change, is_digit}
use Rattle.af_exchange.specs.declared.line.Said.{Said}
use Rattle.af_exchange.specs.declared.line.Said.TheVariants as says

-- a line has at most so many bytes, without its LF
abbrev pub longest_line : ℕ
longest_line = 64

-- a single digit
abbrev pub digit_in : List ℕ → Option LineChange
digit_in [] = None
digit_in (code ∷ []) = if is_digit code then Some (Digit code) else None
digit_in (code ∷ (more ∷ rest)) = None

-- the change that a line says
abbrev pub change_of : List ℕ → Option LineChange
change_of line =
    if bytes_eq line (codes "ring on") then Some (Ring true)
    else if bytes_eq line (codes "ring off") then Some (Ring false)
    else if bytes_eq line (codes "loop on") then Some (Current true)
    else if bytes_eq line (codes "loop off") then Some (Current false)
    else if nat_le 6 (length line) && bytes_eq (take 6 line) (codes "digit ") then digit_in (drop 6 line)
    else None

abbrev pub said_by : Option LineChange → Said
said_by None = says.Fault
said_by (Some change) = says.Change change

-- what a line says, without its LF: one that begins with `#` says nothing; any other line without a change is malformed
abbrev pub said_of : List ℕ → Said
said_of line = if is_comment line then says.Comment else said_by (change_of line)

abbrev pub IsPossible : Said → Type 0
IsPossible says.Comment = ⊤
IsPossible (says.Change change) = is_change change ≡ true
IsPossible says.Fault = ⊤

-- the line that says a change, without its LF
abbrev pub text_of : LineChange → List ℕ
text_of (Ring true) = codes "ring on"
text_of (Ring false) = codes "ring off"
text_of (Current true) = codes "loop on"
text_of (Current false) = codes "loop off"
text_of (Digit code) = codes "digit " ++ (code ∷ [])

-- the line for the hook, off or on
abbrev pub hook_text : Bool → List ℕ
hook_text true = codes "offhook\n"
hook_text false = codes "onhook\n"

-- What bytes come to: the changes that they say, the line that has begun, and whether a line is malformed. No line after that
-- says anything.
pub record Reading : Type 0 where
  pub changes : List LineChange
  pub line : List ℕ
  pub is_fault : Bool

-- between two lines, after these changes
abbrev pub at_line : List LineChange → List ℕ → Reading
at_line changes line = record { changes = changes; line = line; is_fault = false }

abbrev pub at_fault : Reading → Reading
at_fault r = record r { is_fault = true }

-- a line has ended
abbrev pub after_line : Said → Reading → Reading
after_line says.Comment r = at_line r.changes []
after_line (says.Change change) r = at_line (r.changes ++ change ∷ []) []
after_line says.Fault r = at_fault r

-- one byte more of a line
abbrev pub after_part : ℕ → Reading → Reading
after_part byte r = if nat_lt (length r.line) longest_line then record r { line = r.line ++ byte ∷ [] } else at_fault r

abbrev pub after_byte : Reading → ℕ → Reading
after_byte r byte = if r.is_fault then r else if byte == 10 then after_line (said_of r.line) r else after_part byte r

-- all that a program wrote so far
abbrev pub changes_of : List ℕ → Reading
changes_of bytes = fold after_byte (at_line [] []) bytes

-- these changes, and perhaps more after them
abbrev pub IsFront : List LineChange → List LineChange → Type 0
IsFront front changes = (more : List LineChange) × (changes ≡ front ++ more)
