use Rattle.std.proofs.Common.{◌≡◌, ◌+◌, ◌-◌, ℕ, arith}
use Rattle.af_sample.specs.G711.{interval_of, mu_law_starts}
use Rattle.af_sample.proofs.LineLemmas.{least, least-zero, with_line}
use Rattle.af_sample.proofs.MuLawLemmas.{least_value}
use Rattle.af_sample.proofs.mu_law.interval_by_lines.Goals as goal

-- an interval is the least less 16
less : (r l i : ℕ) → r ≡ l → l ≡ i + 16 → r - 16 ≡ i
less r l i same more = omega arith

pub returns-clause-value : goal.returns-clause-value
returns-clause-value c =
    let a : ℕ = c.min-biased.result + 132 in
    let two : c.min.result ≡ least 3 a 1 = with_line 3 a 0 _ _ (least-zero 3 a) c.min.ensures in
    let three : c.min-2.result ≡ least 3 a 2 = with_line 3 a 1 _ _ two c.min-2.ensures in
    let four : c.min-3.result ≡ least 3 a 3 = with_line 3 a 2 _ _ three c.min-3.ensures in
    let five : c.min-4.result ≡ least 3 a 4 = with_line 3 a 3 _ _ four c.min-4.ensures in
    let six : c.min-5.result ≡ least 3 a 5 = with_line 3 a 4 _ _ five c.min-5.ensures in
    let seven : c.min-6.result ≡ least 3 a 6 = with_line 3 a 5 _ _ six c.min-6.ensures in
    let eight : c.min-least.result ≡ least 3 a 7 = with_line 3 a 6 _ _ seven c.min-least.ensures in
    less c.min-least.result (least 3 a 7) (interval_of mu_law_starts c.args.magnitude) eight
    (least_value c.args.magnitude c.min-biased.result c.min-biased.ensures)
