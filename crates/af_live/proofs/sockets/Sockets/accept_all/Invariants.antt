use Rattle.std.proofs.Common.{◌≡◌}
use Rattle.af_live.specs.Polls.{TakesAll}
use Rattle.af_live.proofs.sockets.Sockets.accept_all.Given as goal

abbrev pub invariant-loop : goal.invariant-loop
invariant-loop l =
    TakesAll l.initial.self.streams l.initial.links l.self.streams l.links
    × (l.self.pause ≡ l.initial.self.pause) × (l.self.events ≡ l.initial.self.events)
