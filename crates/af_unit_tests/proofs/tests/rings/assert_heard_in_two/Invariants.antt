use Rattle.std.proofs.Common.{◌≡◌}
use Rattle.af_unit_tests.proofs.tests.rings.assert_heard_in_two.Given as goal

abbrev pub invariant-loop-play : goal.invariant-loop-play
invariant-loop-play g l = l.buffer.channels ≡ 2

abbrev pub invariant-loop-frame : goal.invariant-loop-frame
invariant-loop-frame g l = l.buffer.channels ≡ 2

abbrev pub invariant-loop : goal.invariant-loop
invariant-loop g l = l.buffer.channels ≡ 2
