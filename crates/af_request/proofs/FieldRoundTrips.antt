-- Fields that are written and read again.
use Rattle.std.proofs.Common.{◌≡◌, ◌+◌, ◌-◌, ◌*◌, ◌∙◌, ℕ, List, length, take, replicate, ap, arith}
use Rattle.std.proofs.Math.Seq.{take-append_seam}
use Rattle.std.proofs.lemmas.List.{length-append, length-replicate}
use Rattle.af_request.specs.Fields.{words_for, padded_bytes}

-- what a function gives at two equal values, and at three
pub ap_2 : {A B D : Type 0} (f : A → B → D) {a c : A} {b d : B} → a ≡ c → b ≡ d → f a b ≡ f c d
ap_2 f {a} {c} {b} {d} first second = ap (λ x. f x b) first ∙ ap (f c) second

pub ap_3 : {A B C D : Type 0} (f : A → B → C → D) {a d : A} {b e : B} {c g : C} → a ≡ d → b ≡ e → c ≡ g → f a b c ≡ f d e g
ap_3 f {a} {d} {b} {e} {c} {g} first second third = ap_2 (λ x y. f x y c) first second ∙ ap (f d e) third

pub length-padded_bytes : (bytes : List ℕ) → length (padded_bytes bytes) ≡ 4 * words_for (length bytes)
length-padded_bytes bytes =
    let zeros : ℕ = 4 * words_for (length bytes) - length bytes in
    let sum : length bytes + zeros ≡ 4 * words_for (length bytes) = omega arith in
    length-append bytes (replicate zeros 0) ∙ ap (λ n. length bytes + n) (length-replicate zeros 0) ∙ sum

pub take-padded_bytes : (bytes : List ℕ) → take (length bytes) (padded_bytes bytes) ≡ bytes
take-padded_bytes bytes = take-append_seam bytes (replicate (4 * words_for (length bytes) - length bytes) 0)
