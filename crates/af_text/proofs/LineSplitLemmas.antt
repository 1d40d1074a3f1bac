-- Where the first line of a text ends, and the first word of a line.
use Rattle.std.proofs.Common.{◌≡◌, ℕ, zero, suc, ◌+◌, ◌-◌, ◌<◌, Bool, true, false, cond, not, List, [], ◌∷◌, length, take, drop, filter, refl, sym, ap, ◌∙◌, subst, arith}
use Rattle.std.specs.Prelude.{Option, Some, None, unwrap_or, nat_lt, nat_eq}
use Rattle.std.specs.List.{position_or_len}
use Rattle.std.proofs.lemmas.List.Sums.{prefix_len-le-length}
use Rattle.std.proofs.lemmas.List.{take_rest}
use Rattle.std.proofs.lemmas.Bool.Decides.{nat_tests}
use Rattle.af_text.specs.Lines.{lines, words, parts, put_in_front, is_nil}

-- the place that `position` gives, or the length
pub unwrap_or-position : (p : ℕ → Bool) (xs : List ℕ) (r : Option ℕ) → r ≡ cond (nat_lt (position_or_len p xs) (length xs)) (Some (position_or_len p xs)) None → unwrap_or r (length xs) ≡ position_or_len p xs
unwrap_or-position p xs r e =
    let le = prefix_len-le-length (λ x. not (p x)) xs in
    let whole : unwrap_or (cond (nat_lt (position_or_len p xs) (length xs)) (Some (position_or_len p xs)) None) (length xs) ≡ position_or_len p xs = grind (arith, nat_tests) in
    ap (λ o. unwrap_or o (length xs)) e ∙ whole

-- how far it is to the first byte that is this one
abbrev pub length_before : ℕ → List ℕ → ℕ
length_before stop bytes = position_or_len (λ b. nat_eq b stop) bytes

length_before-cons : (stop b : ℕ) (rest : List ℕ) → length_before stop (b ∷ rest) ≡ cond (nat_eq b stop) 0 (suc (length_before stop rest))
length_before-cons stop b rest = elim (nat_eq b stop) as (λ t. cond (not t) (1 + length_before stop rest) 0 ≡ cond t 0 (suc (length_before stop rest))) [ true ↦ refl | false ↦ omega arith ]

-- the first line ends before the first LF
pub lines_first : (text : List ℕ) → 0 < length text → lines text ≡ take (length_before 10 text) text ∷ lines (drop (suc (length_before 10 text)) text)
lines_first [] h = absurd (omega arith)
lines_first (b ∷ []) h =
    elim (nat_eq b 10) as (λ t. cond t ([] ∷ []) ((b ∷ []) ∷ []) ≡ take (cond (not t) 1 0) (b ∷ []) ∷ lines (drop (suc (cond (not t) 1 0)) (b ∷ []))) [ true ↦ refl | false ↦ refl ]
lines_first (b ∷ c ∷ rest) h =
    let text = b ∷ c ∷ rest in
    subst (λ n. lines text ≡ take n text ∷ lines (drop (suc n) text)) (sym (length_before-cons 10 b (c ∷ rest)))
    (elim (nat_eq b 10) as (λ t. cond t ([] ∷ lines (c ∷ rest)) (put_in_front b (lines (c ∷ rest))) ≡ take (cond t 0 (suc (length_before 10 (c ∷ rest)))) text ∷ lines (drop (suc (cond t 0 (suc (length_before 10 (c ∷ rest))))) text))
    [ true ↦ refl | false ↦ ap (put_in_front b) (lines_first (c ∷ rest) (omega arith)) ])

-- the parts after the first space
abbrev parts_after : List ℕ → List (List ℕ)
parts_after [] = []
parts_after (b ∷ rest) = parts rest

abbrev filled_parts : List (List ℕ) → List (List ℕ)
filled_parts ps = filter (λ part. not (is_nil part)) ps

-- the first part ends before the first space
parts_first : (line : List ℕ) → parts line ≡ take (length_before 32 line) line ∷ parts_after (drop (length_before 32 line) line)
parts_first [] = refl
parts_first (b ∷ rest) =
    let n = length_before 32 rest in
    subst (λ n'. parts (b ∷ rest) ≡ take n' (b ∷ rest) ∷ parts_after (drop n' (b ∷ rest))) (sym (length_before-cons 32 b rest))
    (elim (nat_eq b 32) as (λ t. cond t ([] ∷ parts rest) (put_in_front b (parts rest)) ≡ take (cond t 0 (suc n)) (b ∷ rest) ∷ parts_after (drop (cond t 0 (suc n)) (b ∷ rest)))
    [ true ↦ refl | false ↦ ap (put_in_front b) (parts_first rest) ])

-- what comes after the first part has the words of the later parts
words_after : (line : List ℕ) → words (drop (length_before 32 line) line) ≡ filled_parts (parts_after (drop (length_before 32 line) line))
words_after [] = refl
words_after (b ∷ rest) =
    subst (λ n. words (drop n (b ∷ rest)) ≡ filled_parts (parts_after (drop n (b ∷ rest)))) (sym (length_before-cons 32 b rest))
    (elim (nat_eq b 32) as (λ t. nat_eq b 32 ≡ t → words (drop (cond t 0 (suc (length_before 32 rest))) (b ∷ rest)) ≡ filled_parts (parts_after (drop (cond t 0 (suc (length_before 32 rest))) (b ∷ rest)))) [
      | true ↦ λ e. ap (λ t. filled_parts (cond t ([] ∷ parts rest) (put_in_front b (parts rest)))) e
      | false ↦ λ e. words_after rest
    ] refl)

first_kept : (b : ℕ) (rest : List ℕ) (n : ℕ) → 0 < n → filled_parts (take n (b ∷ rest) ∷ parts_after (drop n (b ∷ rest))) ≡ take n (b ∷ rest) ∷ filled_parts (parts_after (drop n (b ∷ rest)))
first_kept b rest zero h = absurd (omega arith)
first_kept b rest (suc n) h = refl

-- the first word of a line that does not begin with a space
pub words_first : (line : List ℕ) → 0 < length_before 32 line → 0 < length line → words line ≡ take (length_before 32 line) line ∷ words (drop (length_before 32 line) line)
words_first [] h some = absurd (omega arith)
words_first (b ∷ rest) h some =
    let line = b ∷ rest in
    ap filled_parts (parts_first line) ∙ first_kept b rest (length_before 32 line) h ∙ ap (λ ws. take (length_before 32 line) line ∷ ws) (sym (words_after line))

-- spaces in front of a line are no words
pub words_skip : (line : List ℕ) → words line ≡ words (drop (position_or_len (λ b. not (nat_eq b 32)) line) line)
words_skip [] = refl
words_skip (b ∷ rest) =
    let line = b ∷ rest in
    let n = position_or_len (λ b. not (nat_eq b 32)) rest in
    let one : 1 + n ≡ suc n = omega arith in
    elim (nat_eq b 32) as (λ t. nat_eq b 32 ≡ t → words line ≡ words (drop (cond (not (not t)) (1 + n) 0) line)) [
      | true ↦ λ e. ap (λ t. filled_parts (cond t ([] ∷ parts rest) (put_in_front b (parts rest)))) e ∙ words_skip rest ∙ ap (λ m. words (drop m line)) (sym one)
      | false ↦ λ e. refl
    ] refl

-- after them comes no space
pub before_skipped : (line : List ℕ) → 0 < length (drop (position_or_len (λ b. not (nat_eq b 32)) line) line) → 0 < length_before 32 (drop (position_or_len (λ b. not (nat_eq b 32)) line) line)
before_skipped [] h = absurd (omega arith)
before_skipped (b ∷ rest) h =
    let line = b ∷ rest in
    let n = position_or_len (λ b. not (nat_eq b 32)) rest in
    let one : 1 + n ≡ suc n = omega arith in
    elim (nat_eq b 32) as (λ t. nat_eq b 32 ≡ t → 0 < length (drop (cond (not (not t)) (1 + n) 0) line) → 0 < length_before 32 (drop (cond (not (not t)) (1 + n) 0) line)) [
      | true ↦ λ e. subst (λ m. 0 < length (drop m line) → 0 < length_before 32 (drop m line)) (sym one) (before_skipped rest)
      | false ↦ λ e h. subst (λ t. 0 < cond (not t) (1 + length_before 32 rest) 0) (sym e) (omega arith)
    ] refl h

no_words : (line : List ℕ) → length line ≡ 0 → words line ≡ []
no_words [] h = refl
no_words (b ∷ rest) h = absurd (omega arith)

-- a line of only so many spaces
pub words_none : (line : List ℕ) (s : ℕ) → s ≡ position_or_len (λ b. not (nat_eq b 32)) line → length (take (length line - s) (drop s line)) ≡ 0 → words line ≡ []
words_none line s at h =
    words_skip line ∙ ap (λ n. words (drop n line)) (sym at) ∙ no_words (drop s line) (sym (ap length (take_rest line s)) ∙ h)

-- a line of so many spaces, a word and a rest
pub words_some : (line : List ℕ) (s e : ℕ) (word rest : List ℕ) → s ≡ position_or_len (λ b. not (nat_eq b 32)) line → 0 < length (take (length line - s) (drop s line)) → e ≡ length_before 32 (take (length line - s) (drop s line)) → word ≡ take e (take (length line - s) (drop s line)) → rest ≡ drop e (take (length line - s) (drop s line)) → words line ≡ word ∷ words rest
words_some line s e word rest at some end is_word is_rest =
    let from = drop s line in
    let whole = take_rest line s in
    let some_left : 0 < length from = subst (λ l. 0 < length l) whole some in
    let ends : e ≡ length_before 32 from = end ∙ ap (length_before 32) whole in
    let some_word : 0 < length_before 32 from = subst (λ n. 0 < length (drop n line) → 0 < length_before 32 (drop n line)) (sym at) (before_skipped line) some_left in
    words_skip line ∙ ap (λ n. words (drop n line)) (sym at) ∙ words_first from some_word some_left
    ∙ ap (λ n. take n from ∷ words (drop n from)) (sym ends)
    ∙ ap (λ w. w ∷ words (drop e from)) (ap (take e) (sym whole) ∙ sym is_word)
    ∙ ap (λ r. word ∷ words r) (ap (drop e) (sym whole) ∙ sym is_rest)
