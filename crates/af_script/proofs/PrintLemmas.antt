-- What is printed in several pieces.
use Rattle.std.proofs.Common.{◌≡◌, ℕ, ◌+◌, ◌/◌, ◌%◌, ◌^◌, ◌<◌, true, false, List, [], ◌∷◌, ◌++◌, length, take, drop, refl, sym, ap, ◌∙◌, subst, arith, append_assoc, length-append}
use Rattle.std.proofs.lemmas.List.{take-append-drop, drop_more}
use Rattle.std.proofs.lemmas.Grind.{flat_map-append}
use Rattle.std.specs.Prelude.{Result, Ok, Err, IsErr, get_or, decimal, nat_lt}
use Rattle.std.proofs.lemmas.Fmt.{decimal_digit, decimal_step_wide}
use Rattle.std.proofs.lemmas.Bool.Decides.{nat_tests}
use Rattle.hex.specs.Hex.{encode_with, encode_lower, lower_digits}
use Rattle.af_io.proofs.AppendedLemmas.{appended_none, appended_on}
use Rattle.af_script.specs.Printing.{Printer, Added, CutOff, Prints}
use Rattle.af_script.specs.Transcript.{transcript, line_for}
use Rattle.af_world.specs.Log.{Log}
use Rattle.af_world.specs.declared.happening.Happening.{Happening}
use Rattle.af_script.specs.declared.print.Broken.{Broken}

-- a number has a digit
pub some_digit : (n : ℕ) → n < 2 ^ 128 → 0 < length (decimal n)
some_digit n h =
    let fits : n < 10 ^ 64 = omega arith in
    elim (nat_lt n 10) as (λ t. nat_lt n 10 ≡ t → 0 < length (decimal n)) [
      | true ↦ λ e. let one = ap length (decimal_digit n (grind (arith, nat_tests))) in omega (arith, one)
      | false ↦ λ e. let more = ap length (decimal_step_wide n (grind (arith, nat_tests)) fits) ∙ length-append (decimal (n / 10)) ((48 + n % 10) ∷ []) in omega (arith, more)
    ] refl

-- nothing was added
pub added_none : (before : Printer) → Added before [] before
added_none before = record { appended = appended_none before.held; count = omega arith }

-- one text, and then another
pub added_on : (a b c : Printer) (p q : List ℕ) → Added a p b → Added b q c → Added a (p ++ q) c
added_on a b c p q x y =
    let first = x.count in
    let later = y.count in
    record { appended = appended_on a.held b.held c.held p q x.appended y.appended; count = omega arith }

-- one text, and then a part of another
pub cut_on : (a b c : Printer) (p q : List ℕ) → Added a p b → CutOff b q c → CutOff a (p ++ q) c
cut_on a b c p q x y =
    let first = x.count in
    let later = y.count in
    let rose = y.rose in
    let g = y.appended in
    record {
      appended = record { front = p ++ g.front; rest = g.rest; whole = ap (λ l. p ++ l) g.whole ∙ sym (append_assoc p g.front g.rest); appended = appended_on a.held b.held c.held p g.front x.appended g.appended };
      count = omega arith;
      rose = omega arith;
    }

-- a part of a text is a part of a longer one
pub cut_more : (a b : Printer) (p q : List ℕ) → CutOff a p b → CutOff a (p ++ q) b
cut_more a b p q y =
    let g = y.appended in
    record {
      appended = record { front = g.front; rest = g.rest ++ q; whole = ap (λ l. l ++ q) g.whole ∙ append_assoc g.front g.rest q; appended = g.appended };
      count = y.count;
      rose = y.rose;
    }

-- hexadecimal of two lists of bytes
pub encode_append : (t xs ys : List ℕ) → encode_with t (xs ++ ys) ≡ encode_with t xs ++ encode_with t ys
unfolding encode_with
encode_append t [] ys = refl
encode_append t (x ∷ xs) ys = ap (λ l. get_or t (x / 16) 0 ∷ get_or t (x % 16) 0 ∷ l) (encode_append t xs ys)

-- the text of all before the rest was added
pub record PrintedFront (text_of : List ℕ → List ℕ) (whole rest : List ℕ) (before after : Printer) : Type 0 where
  pub front : List ℕ
  pub is_front : whole ≡ front ++ rest
  pub added : Added before (text_of front) after

-- a failure that is passed on
pub prints_failed : (r : Result (Unit {0}) Broken) (before : Printer) (text : List ℕ) (after : Printer) → IsErr r → CutOff before text after → Prints r before text after
prints_failed (Ok done) before text after e cut = cc e
prints_failed (Err broken) before text after e cut = cut

-- a text whose last piece was printed, or failed
pub prints_on : (r : Result (Unit {0}) Broken) (a b c : Printer) (p q : List ℕ) → Added a p b → Prints r b q c → Prints r a (p ++ q) c
prints_on (Ok done) a b c p q x y = added_on a b c p q x y
prints_on (Err broken) a b c p q x y = cut_on a b c p q x y

-- nothing is printed of the bytes yet
pub hex_start : (bytes : List ℕ) (before : Printer) → PrintedFront encode_lower bytes bytes before before
unfolding encode_with
hex_start bytes before = record { front = []; is_front = refl; added = added_none before }

-- one more chunk is printed
pub hex_more : (whole rest chunk beyond : List ℕ) (a b c : Printer) (n : ℕ) → PrintedFront encode_lower whole rest a b → chunk ≡ take n rest → beyond ≡ drop n rest → Added b (encode_lower chunk) c → PrintedFront encode_lower whole beyond a c
hex_more whole rest chunk beyond a b c n p is_chunk is_after x =
    let parts : rest ≡ chunk ++ beyond = sym (take-append-drop n rest) ∙ ap (λ l. l ++ drop n rest) (sym is_chunk) ∙ ap (λ l. chunk ++ l) (sym is_after) in
    record {
      front = p.front ++ chunk;
      is_front = p.is_front ∙ ap (λ l. p.front ++ l) parts ∙ sym (append_assoc p.front chunk beyond);
      added = subst (λ t. Added a t c) (sym (encode_append lower_digits p.front chunk)) (added_on a b c (encode_lower p.front) (encode_lower chunk) p.added x);
    }

-- a chunk is cut off
pub hex_cut : (whole rest chunk beyond : List ℕ) (a b c : Printer) (n : ℕ) → PrintedFront encode_lower whole rest a b → chunk ≡ take n rest → beyond ≡ drop n rest → CutOff b (encode_lower chunk) c → CutOff a (encode_lower whole) c
hex_cut whole rest chunk beyond a b c n p is_chunk is_after x =
    let parts : rest ≡ chunk ++ beyond = sym (take-append-drop n rest) ∙ ap (λ l. l ++ drop n rest) (sym is_chunk) ∙ ap (λ l. chunk ++ l) (sym is_after) in
    let is_whole : whole ≡ (p.front ++ chunk) ++ beyond = p.is_front ∙ ap (λ l. p.front ++ l) parts ∙ sym (append_assoc p.front chunk beyond) in
    let text : encode_lower whole ≡ (encode_lower p.front ++ encode_lower chunk) ++ encode_lower beyond =
    ap encode_lower is_whole ∙ encode_append lower_digits (p.front ++ chunk) beyond ∙ ap (λ l. l ++ encode_lower beyond) (encode_append lower_digits p.front chunk) in
    subst (λ t. CutOff a t c) (sym text)
    (cut_more a c (encode_lower p.front ++ encode_lower chunk) (encode_lower beyond) (cut_on a b c (encode_lower p.front) (encode_lower chunk) p.added x))

-- the line of a happening is cut off
pub log_cut : (log : Log) (i : ℕ) (h : Happening) (a b c : Printer) → i < length log → h ≡ get_or log i h → Added a (transcript (take i log)) b → CutOff b (line_for h) c → CutOff a (transcript log) c
log_cut log i h a b c within is x y =
    let rest = drop (i + 1) log in
    let parts : log ≡ take i log ++ h ∷ rest =
    sym (take-append-drop i log) ∙ ap (λ l. take i log ++ l) (drop_more log i h within) ∙ ap (λ g. take i log ++ g ∷ rest) (sym is) in
    let text : transcript log ≡ (transcript (take i log) ++ line_for h) ++ transcript rest =
    ap transcript parts ∙ flat_map-append line_for (take i log) (h ∷ rest) ∙ sym (append_assoc (transcript (take i log)) (line_for h) (transcript rest)) in
    subst (λ t. CutOff a t c) (sym text)
    (cut_more a c (transcript (take i log) ++ line_for h) (transcript rest) (cut_on a b c (transcript (take i log)) (line_for h) x y))
