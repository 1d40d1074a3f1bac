use Rattle.std.proofs.Common.{◌==◌, rules, tests, ◌∙◌}
use Rattle.std.proofs.lemmas.Iterator.{YieldsList-from_slice}
use Rattle.std.proofs.lemmas.Iterator.Search.{position_from_yields_List}
use Rattle.af_text.proofs.LineSplitLemmas.{unwrap_or-position}
use Rattle.af_exchange.proofs.line.count_before_end.Goals as goal

pub returns-clause-count : goal.returns-clause-count
returns-clause-count c =
    c.unwrap_or.ensures
    ∙ unwrap_or-position (λ b. b == 10) c.args.bytes.now c.position.result
    (position_from_yields_List (λ b. b == 10) _ _ _ c.position.ensures.ran (YieldsList-from_slice _ c.iter.ensures.rest) (λ x b q k. search (rules, tests)))
