use Rattle.std.proofs.Common.{◌≤◌, length}
use Rattle.af_logger.proofs.std_commands.write_within.Given as goal

abbrev pub invariant-loop : goal.invariant-loop
invariant-loop g l = l.taken ≤ length l.bytes
