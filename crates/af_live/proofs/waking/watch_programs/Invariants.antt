use Rattle.std.proofs.Common.{◌≡◌}
use Rattle.af_live.proofs.waking.watch_programs.Given as goal

abbrev pub invariant-loop-device : goal.invariant-loop-device
invariant-loop-device g l = l.sockets.streams ≡ l.initial.sockets.streams
