use Rattle.std.proofs.Common.{◌≡◌, ◌<◌, ◌≤◌, ◌+◌, ◌*◌, ◌&&◌, ℕ, Bool, false, nat_le, List, [], ◌∷◌, drop, length, sym, ap, ◌∙◌, arith, if◌then◌else◌}
use Rattle.std.proofs.Math.Bool.{and-false}
use Rattle.std.proofs.lemmas.Bool.Decides.{nat_tests}
use Rattle.std.specs.Prelude.{Some, None}
use Rattle.std.specs.Char.{digit_value}
use Rattle.std.specs.Str.{all_ascii_digits}
use Rattle.std.specs.Str.Parse.{digits_value, digits_value_after}
use Rattle.af_cli.specs.Numbers.{number_in}
use Rattle.af_cli.proofs.number.number_in.Goals as goal

-- more digits never make a smaller number
after_grows : (n : ℕ) (digits : List ℕ) → n ≤ digits_value_after 10 n digits
after_grows n [] = omega arith
after_grows n (c ∷ digits) = let more = after_grows (n * 10 + digit_value c) digits in omega arith

too_great : (low high : ℕ) (text : List ℕ) → high < digits_value 10 text → None ≡ number_in low high text
too_great low high text beyond =
    let test : nat_le (digits_value 10 text) high ≡ false = grind (arith, nat_tests) in
    let all = nat_le 1 (length text) && all_ascii_digits text && nat_le low (digits_value 10 text) in
    sym (ap (λ (b : Bool). if all && b then Some (digits_value 10 text) else None) test ∙ ap (λ (b : Bool). if b then Some (digits_value 10 text) else None) (and-false all))

pub returns-then-value-from : goal.returns-then-value-from
returns-then-value-from c =
    let more = after_grows c.loop-digit.value (drop c.loop-digit.digit-index c.args.text.now) in
    let i = c.loop-digit.invariant in
    let whole = i.value in
    too_great c.args.low c.args.high c.args.text.now (omega arith)
