-- What stands first in the bytes of a program.
use Rattle.std.specs.Prelude.{◌≡◌, ⊤, ℕ, ◌≤◌, Bool, true, false, List, [], ◌∷◌, ◌++◌, length, take}
use Rattle.std.specs.List.{fold}
use Rattle.af_phone.specs.declared.line.LineChange.{LineChange}
use Rattle.af_phone.specs.Lines.{is_change}
use Rattle.af_exchange.specs.declared.line.Front.{Front}
use Rattle.af_exchange.specs.declared.line.Front.TheVariants as fronts
use Rattle.af_exchange.specs.Lines.{at_line, after_byte}

-- so many bytes are a whole line, which says this much more
abbrev pub SaysMore : List LineChange → ℕ → List ℕ → Type 0
SaysMore more count bytes =
    (1 ≤ count) × (count ≤ length bytes)
    × ((changes : List LineChange) → fold after_byte (at_line changes []) (take count bytes) ≡ at_line (changes ++ more) [])

-- no change is in them, and they are malformed or not
abbrev pub SaysNoMore : Bool → List ℕ → Type 0
SaysNoMore is_fault bytes = (changes : List LineChange) →
    ((fold after_byte (at_line changes []) bytes).changes ≡ changes)
    × ((fold after_byte (at_line changes []) bytes).is_fault ≡ is_fault)

abbrev pub FrontOf : Front → List ℕ → Type 0
FrontOf (fronts.Comment count) bytes = SaysMore [] count bytes
FrontOf (fronts.Change change count) bytes = SaysMore (change ∷ []) count bytes × (is_change change ≡ true)
FrontOf fronts.Fault bytes = SaysNoMore true bytes
FrontOf fronts.Part bytes = SaysNoMore false bytes

abbrev pub NoComment : Front → Type 0
NoComment (fronts.Comment count) = ⊥
NoComment (fronts.Change change count) = ⊤
NoComment fronts.Fault = ⊤
NoComment fronts.Part = ⊤
