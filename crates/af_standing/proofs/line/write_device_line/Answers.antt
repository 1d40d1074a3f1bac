use Rattle.std.proofs.Common.{◌++◌, List, ℕ, codes, ap, ◌∙◌}
use Rattle.af_standing.specs.List.{device_line, controls_report_words}
use Rattle.af_standing.proofs.line.write_device_line.Goals as goal

pub returns-clause-bytes : goal.returns-clause-bytes
unfolding device_line
returns-clause-bytes c =
    c.put.ensures.bytes
    ∙ ap (λ (l : List ℕ). l ++ codes "\n") (c.put_controls_report-at.ensures.bytes
    ∙ ap (λ (l : List ℕ). l ++ controls_report_words c.args.controls_report) c.write_front-at.ensures.bytes)
