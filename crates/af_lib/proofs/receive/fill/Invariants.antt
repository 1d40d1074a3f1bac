use Rattle.std.proofs.Common.{◌≤◌, ◌-◌, length, take}
use Rattle.af_io.specs.Observed.{Consumed}
use Rattle.af_lib.specs.Observed.{OnlyRead}
use Rattle.af_lib.proofs.receive.fill.Given as goal

abbrev pub invariant-loop-filled : goal.invariant-loop-filled
invariant-loop-filled g l =
    (l.filled ≤ length l.into)
    × Consumed (g.L.Link.left l.initial.link) (take l.filled l.into) (g.L.Link.left l.link)
    × OnlyRead g.L.Link.left g.L.Link.sent g.L.Link.faults ⊥ l.initial.link l.link

abbrev pub decreases-loop-filled : goal.decreases-loop-filled
decreases-loop-filled g l = length l.into - l.filled
