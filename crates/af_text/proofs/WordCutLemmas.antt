-- A text is cut at its spaces into texts.
use Rattle.std.proofs.Common.{◌≡◌, ℕ, suc, ◌+◌, ◌-◌, ◌<◌, ◌≤◌, true, false, cond, not, List, [], ◌∷◌, length, take, drop, get_or, refl, sym, subst, arith}
use Rattle.std.specs.Prelude.{nat_eq}
use Rattle.std.specs.List.{position_or_len}
use Rattle.std.specs.Str.{IsUtf8, IsCharBoundary}
use Rattle.std.proofs.lemmas.List.{take_rest}
use Rattle.std.proofs.lemmas.List.Sums.{prefix_len-le-length, passes_at_first}
use Rattle.std.proofs.lemmas.Str.{IsUtf8-take, IsUtf8-drop, IsCharBoundary-after_ascii, IsCharBoundary-before_ascii, IsCharBoundary-end}
use Rattle.std.proofs.lemmas.Bool.Decides.{nat_tests}
use Rattle.af_text.proofs.LineSplitLemmas.{length_before}

-- a text without the spaces at its front is a text
skipped_text : (line : List ℕ) → IsUtf8 line → IsUtf8 (drop (position_or_len (λ b. not (nat_eq b 32)) line) line)
skipped_text [] u = u
skipped_text (b ∷ rest) u =
    let line = b ∷ rest in
    let n = position_or_len (λ b. not (nat_eq b 32)) rest in
    let one : 1 + n ≡ suc n = omega arith in
    elim (nat_eq b 32) as (λ t. nat_eq b 32 ≡ t → IsUtf8 (drop (cond (not (not t)) (1 + n) 0) line)) [
      | true ↦ λ e.
          let ascii : b < 128 = grind (arith, nat_tests) in
          let tail : IsUtf8 rest = IsUtf8-drop line 1 u (IsCharBoundary-after_ascii line 0 u (omega arith) ascii) in
          subst (λ m. IsUtf8 (drop m line)) (sym one) (skipped_text rest tail)
      | false ↦ λ e. u
    ] refl

-- a text may be cut before its first space
space_cuts : (line : List ℕ) → IsCharBoundary line (length_before 32 line)
space_cuts line =
    let le : length_before 32 line ≤ length line = prefix_len-le-length (λ b. not (nat_eq b 32)) line in
    elim (nat_eq (length_before 32 line) (length line)) as (λ t. nat_eq (length_before 32 line) (length line) ≡ t → IsCharBoundary line (length_before 32 line)) [
      | true ↦ λ e. let whole : length line ≡ length_before 32 line = grind (arith, nat_tests) in subst (IsCharBoundary line) whole (IsCharBoundary-end line)
      | false ↦ λ e.
          let inside : length_before 32 line < length line = grind (arith, nat_tests) in
          let space : nat_eq (get_or line (length_before 32 line) 0) 32 ≡ true = passes_at_first (λ b. nat_eq b 32) line 0 inside in
          IsCharBoundary-before_ascii line (length_before 32 line) inside (grind (arith, nat_tests))
    ] refl

-- the first word of a text, and the text after it
pub word_text : (line : List ℕ) (s e : ℕ) (word rest : List ℕ) → s ≡ position_or_len (λ b. not (nat_eq b 32)) line → e ≡ length_before 32 (take (length line - s) (drop s line)) → word ≡ take e (take (length line - s) (drop s line)) → rest ≡ drop e (take (length line - s) (drop s line)) → IsUtf8 line → IsUtf8 word × IsUtf8 rest
word_text line s e word rest at end is_word is_rest u =
    let from = take (length line - s) (drop s line) in
    let text : IsUtf8 from = subst IsUtf8 (sym (take_rest line s)) (subst (λ n. IsUtf8 (drop n line)) (sym at) (skipped_text line u)) in
    let cut : IsCharBoundary from e = subst (IsCharBoundary from) (sym end) (space_cuts from) in
    (subst IsUtf8 (sym is_word) (IsUtf8-take from e text cut), subst IsUtf8 (sym is_rest) (IsUtf8-drop from e text cut))
