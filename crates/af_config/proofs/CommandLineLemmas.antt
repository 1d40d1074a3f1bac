-- A command line, word by word.
use Rattle.std.proofs.Common.{◌≡◌, ℕ, ◌<◌, ◌≤◌, Bool, true, false, ◌&&◌, nat_le, List, [], ◌∷◌, ◌++◌, length, map, refl, sym, ap, ◌∙◌, arith, append_assoc, length-append}
use Rattle.std.specs.Prelude.{None}
use Rattle.std.proofs.lemmas.Bool.Decides.{nat_tests}
use Rattle.std.proofs.lemmas.List.{length-map, map-append}
use Rattle.std.proofs.Math.Bool.{and-false}
use Rattle.arrayvec.specs.ArrayVec.{ArrayVec}
use Rattle.arrayvec.specs.ArrayString.{ArrayString}
use Rattle.af_process.specs.Acts.{words_of}
use Rattle.af_text.specs.Words.{then_some, only_if}
use Rattle.af_config.specs.Stating.{are_short, is_command_line}

-- words are short if those before one, it, and those after it are
pub are_short-with : (longest : ℕ) (xs : List (List ℕ)) (word : List ℕ) (ys : List (List ℕ)) → are_short longest (xs ++ word ∷ ys) ≡ are_short longest xs && (nat_le (length word) longest && are_short longest ys)
are_short-with longest [] word ys = refl
are_short-with longest (x ∷ xs) word ys = ap (λ b. nat_le (length x) longest && b) (are_short-with longest xs word ys) ∙ sym (all (nat_le (length x) longest) (are_short longest xs) (nat_le (length word) longest && are_short longest ys))
  where
    all : (a b c : Bool) → (a && b) && c ≡ a && (b && c)
    all true b c = refl
    all false b c = refl

refused : (longest : ℕ) (words : List (List ℕ)) → is_command_line longest words ≡ false → only_if (is_command_line longest) words ≡ None
refused longest words bad = ap (λ t. then_some t words) bad

-- one of them is too long
pub long_refused : (longest : ℕ) (all xs : List (List ℕ)) (word : List ℕ) (ys : List (List ℕ)) → all ≡ xs ++ word ∷ ys → longest < length word → only_if (is_command_line longest) all ≡ None
long_refused longest all xs word ys is long =
    let test : nat_le (length word) longest ≡ false = grind (arith, nat_tests) in
    let short : are_short longest all ≡ false = ap (are_short longest) is ∙ are_short-with longest xs word ys ∙ ap (λ b. are_short longest xs && (b && are_short longest ys)) test ∙ and-false (are_short longest xs) in
    refused longest all (ap (λ b. nat_le 1 (length all) && nat_le (length all) 8 && b) short ∙ and-false (nat_le 1 (length all) && nat_le (length all) 8))

-- there are too many
pub many_refused : (longest : ℕ) (all : List (List ℕ)) (xs : ArrayVec ArrayString) (word : List ℕ) (ys : List (List ℕ)) → all ≡ words_of xs ++ word ∷ ys → 8 ≤ length xs.items → only_if (is_command_line longest) all ≡ None
many_refused longest all xs word ys is eight =
    let count = ap length is ∙ length-append (words_of xs) (word ∷ ys) in
    let same = length-map xs.items (λ (w : ArrayString). w.bytes) in
    let test : nat_le (length all) 8 ≡ false = grind (arith, nat_tests) in
    refused longest all (ap (λ b. nat_le 1 (length all) && b && are_short longest all) test ∙ ap (λ b. b && are_short longest all) (and-false (nat_le 1 (length all))))

-- with one more word
pub words_more : (old new : ArrayVec ArrayString) (copy : ArrayString) (word : List ℕ) → new.items ≡ old.items ++ copy ∷ [] → copy.bytes ≡ word → words_of new ≡ words_of old ++ word ∷ []
words_more old new copy word grown same =
    ap (map (λ (w : ArrayString). w.bytes)) grown ∙ map-append (λ (w : ArrayString). w.bytes) old.items (copy ∷ []) ∙ ap (λ w. words_of old ++ w ∷ []) same

pub short_more : (longest : ℕ) (words more : List (List ℕ)) (word : List ℕ) → more ≡ words ++ word ∷ [] → are_short longest words ≡ true → length word ≤ longest → are_short longest more ≡ true
short_more longest words more word grown short few =
    let test : nat_le (length word) longest ≡ true = grind (arith, nat_tests) in
    ap (are_short longest) grown ∙ are_short-with longest words word [] ∙ ap (λ b. b && (nat_le (length word) longest && true)) short ∙ ap (λ b. b && true) test

pub whole_more : (all words more : List (List ℕ)) (word : List ℕ) (rest : List (List ℕ)) → more ≡ words ++ word ∷ [] → all ≡ words ++ word ∷ rest → all ≡ more ++ rest
whole_more all words more word rest grown is = is ∙ sym (append_assoc words (word ∷ []) rest) ∙ ap (λ ws. ws ++ rest) (sym grown)
