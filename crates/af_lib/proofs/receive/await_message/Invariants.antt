use Rattle.std.proofs.Common.{◌≡◌}
use Rattle.af_limits.specs.Limits.{most_events}
use Rattle.af_lib.specs.Observed.{BothTold, OnlyRead}
use Rattle.af_lib.specs.Incoming.{awaited_message}
use Rattle.af_lib.specs.Ring.{Gained}
use Rattle.af_lib.proofs.receive.await_message.Given as goal

abbrev pub invariant-loop-allowed : goal.invariant-loop-allowed
invariant-loop-allowed g l =
    BothTold (g.L.Link.left l.initial.link) (g.L.Link.left l.link) (λ before now. awaited_message l.order most_events l.initial.ring before ≡ awaited_message l.order l.allowed l.ring now)
    × OnlyRead g.L.Link.left g.L.Link.sent g.L.Link.faults ⊥ l.initial.link l.link
    × Gained l.initial.ring l.ring

abbrev pub decreases-loop-allowed : goal.decreases-loop-allowed
decreases-loop-allowed g l = l.allowed
