use Rattle.std.proofs.Common.{◌≡◌, ◌∙◌, ℕ}
use Rattle.af_sample.proofs.LineLemmas.{least, least-zero, with_line}
use Rattle.af_sample.proofs.AlawLemmas.{least_value}
use Rattle.af_sample.proofs.alaw.interval_by_lines.Goals as goal

pub returns-clause-value : goal.returns-clause-value
returns-clause-value c =
    let a : ℕ = c.args.magnitude in
    let two : c.min.result ≡ least 4 a 1 = with_line 4 a 0 _ _ (least-zero 4 a) c.min.ensures in
    let three : c.min-2.result ≡ least 4 a 2 = with_line 4 a 1 _ _ two c.min-2.ensures in
    let four : c.min-3.result ≡ least 4 a 3 = with_line 4 a 2 _ _ three c.min-3.ensures in
    let five : c.min-4.result ≡ least 4 a 4 = with_line 4 a 3 _ _ four c.min-4.ensures in
    let six : c.min-5.result ≡ least 4 a 5 = with_line 4 a 4 _ _ five c.min-5.ensures in
    with_line 4 a 5 _ _ six c.min-least.ensures ∙ least_value a c.requires
