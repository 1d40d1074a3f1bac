use Rattle.std.proofs.Common.{◌==◌, not, rules, tests, ◌∙◌}
use Rattle.std.proofs.lemmas.Iterator.{YieldsList-from_slice}
use Rattle.std.proofs.lemmas.Iterator.Search.{position_from_yields_List}
use Rattle.af_text.proofs.LineSplitLemmas.{unwrap_or-position}
use Rattle.af_text.proofs.lines.count_leading.Goals as goal

pub returns-clause-value : goal.returns-clause-value
returns-clause-value c =
    c.unwrap_or.ensures
    ∙ unwrap_or-position (λ b. not (b == c.args.skipped)) c.args.bytes.now c.position.result
    (position_from_yields_List (λ b. not (b == c.args.skipped)) _ _ _ c.position.ensures.ran (YieldsList-from_slice _ c.iter.ensures.rest) (λ x b q k. search (rules, tests)))
