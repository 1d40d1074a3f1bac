use Rattle.std.proofs.Common.{arith}
use Rattle.std.proofs.lemmas.Bool.Decides.{nat_tests}
use Rattle.af_text.proofs.LineSplitLemmas.{words_none, words_some}
use Rattle.af_text.proofs.WordCutLemmas.{word_text}
use Rattle.af_text.proofs.lines.next_word.Goals as goal

pub returns-then-is_empty-clause-split : goal.returns-then-is_empty-clause-split
returns-then-is_empty-clause-split c =
    words_none c.args.line.now c.count_leading-start.result c.count_leading-start.ensures.value (grind (arith, nat_tests))

pub returns-clause-split : goal.returns-clause-split
returns-clause-split c =
    words_some c.args.line.now c.count_leading-start.result c.count_before.result _ _ c.count_leading-start.ensures.value
    (grind (arith, nat_tests)) c.count_before.ensures.value c.split_at.ensures.front c.split_at.ensures.back

pub returns-clause-text : goal.returns-clause-text
returns-clause-text c =
    word_text c.args.line.now c.count_leading-start.result c.count_before.result _ _ c.count_leading-start.ensures.value
    c.count_before.ensures.value c.split_at.ensures.front c.split_at.ensures.back
