use Rattle.af_meter.proofs.IntervalLemmas.{level_is, levels_one, levels_two}
use Rattle.af_meter.proofs.interval.Tallies.levels.Goals as goal

pub returns-then-channels-eq2 : goal.returns-then-channels-eq2
returns-then-channels-eq2 c = λ blocks is.
    levels_two blocks c.if-channels-eq2.true
    (level_is is.first is.first_count c.level-first.ensures.peak c.level-first.ensures.mean)
    (level_is (is.second c.if-channels-eq2.true) is.second_count c.level-second.ensures.peak c.level-second.ensures.mean)

pub returns-else-channels-eq2 : goal.returns-else-channels-eq2
returns-else-channels-eq2 c = λ blocks is.
    levels_one blocks c.if-channels-eq2.false (level_is is.first is.first_count c.level-first.ensures.peak c.level-first.ensures.mean)
