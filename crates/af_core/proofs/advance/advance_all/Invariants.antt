use Rattle.std.proofs.Common.{◌≡◌, ◌⊎◌, ◌<◌, ◌≤◌, length, IsTrue}
use Rattle.af_limits.specs.Limits.{most_links, event_limit}
use Rattle.af_state.specs.Deferrals.{has_waiting, OnlyQueues}
use Rattle.af_core.specs.Stands.{AdvancesOn}
use Rattle.af_core.proofs.advance.advance_all.Given as goal

abbrev pub invariant-loop-shared : goal.invariant-loop-shared
invariant-loop-shared l = record {
  number : l.number < most_links;
  answered : (l.link ≡ l.initial.link) ⊎ (length l.link.rest < length l.initial.link.rest);
  room : IsTrue (has_waiting l.shared.waits l.number) → length l.link.pending ≤ event_limit;
  only_queues : OnlyQueues l.number l.initial.shared.waits l.shared.waits;
  on : AdvancesOn l.number l.initial.shared l.initial.link l.shared l.link;
}

abbrev pub decreases-loop-shared : goal.decreases-loop-shared
decreases-loop-shared l = length l.link.rest
