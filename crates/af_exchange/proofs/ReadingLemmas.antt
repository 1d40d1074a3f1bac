-- What the bytes of a program come to, line by line.
use Rattle.std.proofs.Common.{◌≡◌, ℕ, ◌+◌, ◌≤◌, ◌<◌, ◌==◌, suc, Bool, true, false, not, cond, if◌then◌else◌, nat_lt, List, [], ◌∷◌, ◌++◌, length, take, refl, sym, ap, ◌∙◌, subst, arith, append_assoc, append-nil, drop}
use Rattle.std.proofs.lemmas.List.{take-append-drop, length_push}
use Rattle.std.proofs.lemmas.List.Sums.{fold-append}
use Rattle.std.specs.List.{fold, position_or_len}
use Rattle.std.proofs.lemmas.Bool.{ltb-true, ltb-false}
use Rattle.af_phone.specs.declared.line.LineChange.{LineChange}
use Rattle.af_exchange.specs.declared.line.Said.{Said}
use Rattle.af_exchange.specs.declared.line.Said.TheVariants as says
use Rattle.af_exchange.specs.Lines.{Reading, at_line, at_fault, after_line, after_part, after_byte, said_of, longest_line, IsFront}
use Rattle.af_exchange.specs.Fronts.{SaysMore, SaysNoMore}

abbrev pub before_end : List ℕ → ℕ
before_end bytes = position_or_len (λ b. b == 10) bytes

-- one byte more, of so many

one-more : (n : ℕ) → 1 + n ≡ suc n
one-more n = grind arith

more-one : (n : ℕ) → suc n ≡ n + 1
more-one n = grind arith

longer : (line : List ℕ) (byte n m : ℕ) → m ≡ 1 + n → length line + m ≤ 64 → length (line ++ byte ∷ []) + n ≤ 64
longer line byte n m is short = let long = length_push line byte in grind arith

too-long-still : (line : List ℕ) (byte n m : ℕ) → m ≡ 1 + n → 64 < length line + m → 64 < length (line ++ byte ∷ []) + n
too-long-still line byte n m is most = let long = length_push line byte in grind arith

one-longer : (line : List ℕ) (byte : ℕ) → length line < 64 → length (line ++ byte ∷ []) ≤ 64
one-longer line byte short = let long = length_push line byte in grind arith

shorter : (k n m : ℕ) → m ≡ 1 + n → k + m ≤ 64 → k < 64
shorter k n m is short = grind arith

within-rest : (n m k : ℕ) → m ≡ 1 + n → m < 1 + k → n < k
within-rest n m k is within = grind arith

-- a malformed line is the last that says anything
pub stays-at-fault : (r : Reading) (bytes : List ℕ) → r.is_fault ≡ true → fold after_byte r bytes ≡ r
stays-at-fault r [] fault = refl
stays-at-fault r (byte ∷ bytes) fault =
    let same : after_byte r byte ≡ r = ap (λ x. if x then r else if byte == 10 then after_line (said_of r.line) r else after_part byte r) fault in
    subst (λ x. fold after_byte x bytes ≡ r) (sym same) (stays-at-fault r bytes fault)

-- a part of a line that is short enough
part-on : (changes : List LineChange) (line : List ℕ) (byte : ℕ) → length line < 64 → after_part byte (at_line changes line) ≡ at_line changes (line ++ byte ∷ [])
part-on changes line byte short =
    let is : nat_lt (length line) 64 ≡ true = grind arith in
    ap (λ x. if x then at_line changes (line ++ byte ∷ []) else at_fault (at_line changes line)) is

part-over : (changes : List LineChange) (line : List ℕ) (byte : ℕ) → 64 ≤ length line → after_part byte (at_line changes line) ≡ at_fault (at_line changes line)
part-over changes line byte long =
    let is : nat_lt (length line) 64 ≡ false = grind arith in
    ap (λ x. if x then at_line changes (line ++ byte ∷ []) else at_fault (at_line changes line)) is

-- a whole line is read, and a part of it was read before
pub reads-line : (changes : List LineChange) (bytes line : List ℕ) → before_end bytes < length bytes → length line + before_end bytes ≤ 64 →
    fold after_byte (at_line changes line) (take (suc (before_end bytes)) bytes) ≡
    after_line (said_of (line ++ take (before_end bytes) bytes)) (at_line changes (line ++ take (before_end bytes) bytes))
reads-line changes [] line within short = grind arith
reads-line changes (byte ∷ bytes) line within short = by_case (reads-line changes bytes (line ++ byte ∷ [])) (byte == 10) refl where
  by_case : (before_end bytes < length bytes → length (line ++ byte ∷ []) + before_end bytes ≤ 64 →
      fold after_byte (at_line changes (line ++ byte ∷ [])) (take (suc (before_end bytes)) bytes) ≡
      after_line (said_of ((line ++ byte ∷ []) ++ take (before_end bytes) bytes)) (at_line changes ((line ++ byte ∷ []) ++ take (before_end bytes) bytes))) →
      (is : Bool) → (byte == 10) ≡ is →
      fold after_byte (at_line changes line) (take (suc (before_end (byte ∷ bytes))) (byte ∷ bytes)) ≡
      after_line (said_of (line ++ take (before_end (byte ∷ bytes)) (byte ∷ bytes))) (at_line changes (line ++ take (before_end (byte ∷ bytes)) (byte ∷ bytes)))
  by_case more true is =
      let first : before_end (byte ∷ bytes) ≡ 0 = ap (λ x. cond (not x) (1 + before_end bytes) 0) is in
      let ends : after_byte (at_line changes line) byte ≡ after_line (said_of line) (at_line changes line) =
      ap (λ x. if x then after_line (said_of line) (at_line changes line) else after_part byte (at_line changes line)) is in
      subst (λ n. fold after_byte (at_line changes line) (take (suc n) (byte ∷ bytes)) ≡
      after_line (said_of (line ++ take n (byte ∷ bytes))) (at_line changes (line ++ take n (byte ∷ bytes)))) (sym first)
      (subst (λ l. after_byte (at_line changes line) byte ≡ after_line (said_of l) (at_line changes l)) (sym (append-nil line)) ends)
  by_case more false is =
      let first : before_end (byte ∷ bytes) ≡ 1 + before_end bytes = ap (λ x. cond (not x) (1 + before_end bytes) 0) is in
      let goes : after_byte (at_line changes line) byte ≡ after_part byte (at_line changes line) =
      ap (λ x. if x then after_line (said_of line) (at_line changes line) else after_part byte (at_line changes line)) is in
      let on : after_byte (at_line changes line) byte ≡ at_line changes (line ++ byte ∷ []) = goes ∙ part-on changes line byte (shorter (length line) (before_end bytes) (before_end (byte ∷ bytes)) first short) in
      let rest = more (within-rest (before_end bytes) (before_end (byte ∷ bytes)) (length bytes) first (grind arith))
      (longer line byte (before_end bytes) (before_end (byte ∷ bytes)) first short) in
      let one = append_assoc line (byte ∷ []) (take (before_end bytes) bytes) in
      subst (λ n. fold after_byte (at_line changes line) (take (suc n) (byte ∷ bytes)) ≡
      after_line (said_of (line ++ take n (byte ∷ bytes))) (at_line changes (line ++ take n (byte ∷ bytes)))) (sym (first ∙ one-more (before_end bytes)))
      (ap (λ r. fold after_byte r (take (suc (before_end bytes)) bytes)) on ∙ rest ∙ ap (λ l. after_line (said_of l) (at_line changes l)) one)

-- a line that is too long says nothing, and is malformed
pub too-long : (changes : List LineChange) (bytes line : List ℕ) → length line ≤ 64 → 64 < length line + before_end bytes →
    ((fold after_byte (at_line changes line) bytes).changes ≡ changes) × ((fold after_byte (at_line changes line) bytes).is_fault ≡ true)
too-long changes [] line short long = grind arith
too-long changes (byte ∷ bytes) line short long = by_case (too-long changes bytes (line ++ byte ∷ [])) (byte == 10) refl where
  at_length : (length (line ++ byte ∷ []) ≤ 64 → 64 < length (line ++ byte ∷ []) + before_end bytes →
      ((fold after_byte (at_line changes (line ++ byte ∷ [])) bytes).changes ≡ changes) × ((fold after_byte (at_line changes (line ++ byte ∷ [])) bytes).is_fault ≡ true)) →
      (shorter : Bool) → nat_lt (length line) 64 ≡ shorter → before_end (byte ∷ bytes) ≡ 1 + before_end bytes →
      ((fold after_byte (after_part byte (at_line changes line)) bytes).changes ≡ changes) × ((fold after_byte (after_part byte (at_line changes line)) bytes).is_fault ≡ true)
  at_length more true is first =
      subst (λ r. ((fold after_byte r bytes).changes ≡ changes) × ((fold after_byte r bytes).is_fault ≡ true)) (sym (part-on changes line byte (ltb-true (length line) 64 is)))
      (more (one-longer line byte (ltb-true (length line) 64 is)) (too-long-still line byte (before_end bytes) (before_end (byte ∷ bytes)) first long))
  at_length more false is first =
      let over = part-over changes line byte (ltb-false (length line) 64 is) in
      let same = stays-at-fault (at_fault (at_line changes line)) bytes refl in
      subst (λ r. ((fold after_byte r bytes).changes ≡ changes) × ((fold after_byte r bytes).is_fault ≡ true)) (sym over)
      (ap (λ (r : Reading). r.changes) same, ap (λ (r : Reading). r.is_fault) same)

  by_case : (length (line ++ byte ∷ []) ≤ 64 → 64 < length (line ++ byte ∷ []) + before_end bytes →
      ((fold after_byte (at_line changes (line ++ byte ∷ [])) bytes).changes ≡ changes) × ((fold after_byte (at_line changes (line ++ byte ∷ [])) bytes).is_fault ≡ true)) →
      (is : Bool) → (byte == 10) ≡ is →
      ((fold after_byte (at_line changes line) (byte ∷ bytes)).changes ≡ changes) × ((fold after_byte (at_line changes line) (byte ∷ bytes)).is_fault ≡ true)
  by_case more true is = let first : before_end (byte ∷ bytes) ≡ 0 = ap (λ x. cond (not x) (1 + before_end bytes) 0) is in grind arith
  by_case more false is =
      let first : before_end (byte ∷ bytes) ≡ 1 + before_end bytes = ap (λ x. cond (not x) (1 + before_end bytes) 0) is in
      let goes : after_byte (at_line changes line) byte ≡ after_part byte (at_line changes line) =
      ap (λ x. if x then after_line (said_of line) (at_line changes line) else after_part byte (at_line changes line)) is in
      subst (λ r. ((fold after_byte r bytes).changes ≡ changes) × ((fold after_byte r bytes).is_fault ≡ true)) (sym goes) (at_length more (nat_lt (length line) 64) refl first)

-- a part of a line says nothing so far
pub only-part : (changes : List LineChange) (bytes line : List ℕ) → before_end bytes ≡ length bytes → length line + length bytes ≤ 64 →
    fold after_byte (at_line changes line) bytes ≡ at_line changes (line ++ bytes)
only-part changes [] line none short = ap (λ l. at_line changes l) (sym (append-nil line))
only-part changes (byte ∷ bytes) line none short = by_case (only-part changes bytes (line ++ byte ∷ [])) (byte == 10) refl where
  by_case : (before_end bytes ≡ length bytes → length (line ++ byte ∷ []) + length bytes ≤ 64 →
      fold after_byte (at_line changes (line ++ byte ∷ [])) bytes ≡ at_line changes ((line ++ byte ∷ []) ++ bytes)) → (is : Bool) → (byte == 10) ≡ is → fold after_byte (at_line changes line) (byte ∷ bytes) ≡ at_line changes (line ++ byte ∷ bytes)
  by_case more true is = let first : before_end (byte ∷ bytes) ≡ 0 = ap (λ x. cond (not x) (1 + before_end bytes) 0) is in grind arith
  by_case more false is =
      let first : before_end (byte ∷ bytes) ≡ 1 + before_end bytes = ap (λ x. cond (not x) (1 + before_end bytes) 0) is in
      let goes : after_byte (at_line changes line) byte ≡ after_part byte (at_line changes line) =
      ap (λ x. if x then after_line (said_of line) (at_line changes line) else after_part byte (at_line changes line)) is in
      let on : after_byte (at_line changes line) byte ≡ at_line changes (line ++ byte ∷ []) = goes ∙ part-on changes line byte (shorter (length line) (length bytes) (length (byte ∷ bytes)) (sym (one-more (length bytes))) short) in
      let rest = more (let all = first in grind arith) (longer line byte (length bytes) (length (byte ∷ bytes)) (sym (one-more (length bytes))) short) in
      ap (λ r. fold after_byte r bytes) on ∙ rest ∙ ap (λ l. at_line changes l) (append_assoc line (byte ∷ []) bytes)

-- the line that stands first, with its LF

front-nothing : (bytes : List ℕ) → before_end bytes < length bytes → before_end bytes ≤ 64 → says.Comment ≡ said_of (take (before_end bytes) bytes) → SaysMore [] (suc (before_end bytes)) bytes
front-nothing bytes within short said = (
  grind arith,
  grind arith,
  λ changes. reads-line changes bytes [] within (grind arith) ∙ ap (λ s. after_line s (at_line changes (take (before_end bytes) bytes))) (sym said)
      ∙ ap (λ l. at_line l []) (sym (append-nil changes)),
)

front-change : (bytes : List ℕ) (change : LineChange) → before_end bytes < length bytes → before_end bytes ≤ 64 → says.Change change ≡ said_of (take (before_end bytes) bytes) →
    SaysMore (change ∷ []) (suc (before_end bytes)) bytes
front-change bytes change within short said = (
  grind arith,
  grind arith,
  λ changes. reads-line changes bytes [] within (grind arith) ∙ ap (λ s. after_line s (at_line changes (take (before_end bytes) bytes))) (sym said),
)

front-fault : (bytes : List ℕ) → before_end bytes < length bytes → before_end bytes ≤ 64 → says.Fault ≡ said_of (take (before_end bytes) bytes) → SaysNoMore true bytes
front-fault bytes within short said changes =
    let line = take (before_end bytes) bytes in
    let first : fold after_byte (at_line changes []) (take (suc (before_end bytes)) bytes) ≡ at_fault (at_line changes line) =
    reads-line changes bytes [] within (grind arith) ∙ ap (λ s. after_line s (at_line changes line)) (sym said) in
    let all : fold after_byte (at_line changes []) bytes ≡ at_fault (at_line changes line) =
    ap (λ xs. fold after_byte (at_line changes []) xs) (sym (take-append-drop (suc (before_end bytes)) bytes))
    ∙ fold-append after_byte (at_line changes []) (take (suc (before_end bytes)) bytes) (drop (suc (before_end bytes)) bytes)
    ∙ ap (λ r. fold after_byte r (drop (suc (before_end bytes)) bytes)) first
    ∙ stays-at-fault (at_fault (at_line changes line)) (drop (suc (before_end bytes)) bytes) refl in
    (ap (λ (r : Reading). r.changes) all, ap (λ (r : Reading). r.is_fault) all)

pub says-too-much : (bytes : List ℕ) → 64 < before_end bytes → SaysNoMore true bytes
says-too-much bytes long changes = too-long changes bytes [] (grind arith) (grind arith)

pub says-part : (bytes : List ℕ) → before_end bytes ≡ length bytes → before_end bytes ≤ 64 → SaysNoMore false bytes
says-part bytes none short changes =
    let all = only-part changes bytes [] none (grind arith) in
    (ap (λ (r : Reading). r.changes) all, ap (λ (r : Reading). r.is_fault) all)

-- the same, if the end of the line was counted

pub says-nothing : (bytes : List ℕ) (end : ℕ) → end ≡ before_end bytes → end < length bytes → end ≤ 64 → says.Comment ≡ said_of (take end bytes) → SaysMore [] (end + 1) bytes
says-nothing bytes end is within short said =
    subst (λ n. SaysMore [] n bytes) (ap suc (sym is) ∙ more-one end)
    (front-nothing bytes (grind arith) (grind arith) (subst (λ n. says.Comment ≡ said_of (take n bytes)) is said))

pub says-change : (bytes : List ℕ) (end : ℕ) (change : LineChange) → end ≡ before_end bytes → end < length bytes → end ≤ 64 → says.Change change ≡ said_of (take end bytes) →
    SaysMore (change ∷ []) (end + 1) bytes
says-change bytes end change is within short said =
    subst (λ n. SaysMore (change ∷ []) n bytes) (ap suc (sym is) ∙ more-one end)
    (front-change bytes change (grind arith) (grind arith) (subst (λ n. says.Change change ≡ said_of (take n bytes)) is said))

pub says-fault : (bytes : List ℕ) (end : ℕ) → end ≡ before_end bytes → end < length bytes → end ≤ 64 → says.Fault ≡ said_of (take end bytes) → SaysNoMore true bytes
says-fault bytes end is within short said = front-fault bytes (grind arith) (grind arith) (subst (λ n. says.Fault ≡ said_of (take n bytes)) is said)

-- What was said stays

front-line : (said : Said) (r : Reading) → IsFront r.changes (after_line said r).changes
front-line says.Comment r = ([], sym (append-nil r.changes))
front-line (says.Change change) r = (change ∷ [], refl)
front-line says.Fault r = ([], sym (append-nil r.changes))

front-part : (short : Bool) (byte : ℕ) (r : Reading) → IsFront r.changes (if short then record r { line = r.line ++ byte ∷ [] } else at_fault r).changes
front-part true byte r = ([], sym (append-nil r.changes))
front-part false byte r = ([], sym (append-nil r.changes))

front-byte : (fault ends : Bool) (byte : ℕ) (r : Reading) →
    IsFront r.changes (if fault then r else if ends then after_line (said_of r.line) r else after_part byte r).changes
front-byte true ends byte r = ([], sym (append-nil r.changes))
front-byte false true byte r = front-line (said_of r.line) r
front-byte false false byte r = front-part (nat_lt (length r.line) longest_line) byte r

pub front-more : (r : Reading) (bytes : List ℕ) → IsFront r.changes (fold after_byte r bytes).changes
front-more r [] = ([], sym (append-nil r.changes))
front-more r (byte ∷ bytes) =
    let one = front-byte r.is_fault (byte == 10) byte r in
    let rest = front-more (after_byte r byte) bytes in
    (one.0 ++ rest.0, rest.1 ∙ ap (λ x. x ++ rest.0) one.1 ∙ append_assoc r.changes one.0 rest.0)
