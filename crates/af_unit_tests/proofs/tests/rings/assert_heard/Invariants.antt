use Rattle.std.proofs.Common.{◌≡◌}
use Rattle.af_unit_tests.proofs.tests.rings.assert_heard.Given as goal

abbrev pub invariant-loop-play : goal.invariant-loop-play
invariant-loop-play g l = l.buffer.channels ≡ 1

abbrev pub invariant-loop-sample : goal.invariant-loop-sample
invariant-loop-sample g l = l.buffer.channels ≡ 1

abbrev pub invariant-loop : goal.invariant-loop
invariant-loop g l = l.buffer.channels ≡ 1
