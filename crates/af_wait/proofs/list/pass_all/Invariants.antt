use Rattle.std.proofs.Common.{◌≡◌, ◌++◌, map, take, drop}
use Rattle.af_wait.specs.Waits.{wait_after_frames}
use Rattle.af_wait.proofs.list.pass_all.Given as goal

abbrev pub invariant-loop-wait : goal.invariant-loop-wait
invariant-loop-wait l = l.waits ≡ map (wait_after_frames l.device l.n) (take l.wait-index l.fn.waits) ++ drop l.wait-index l.fn.waits
