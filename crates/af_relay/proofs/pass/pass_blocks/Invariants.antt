use Rattle.std.proofs.Common.{◌≡◌, ◌<◌, ◌≤◌, ◌+◌, ◌^◌, length, IsSome}
use Rattle.std.specs.declared.option.Option.TheVariants.{None}
use Rattle.af_toolkit.proofs.PartLemmas.{Reached}
use Rattle.af_relay.specs.Pass.{block_count, both, passes}
use Rattle.af_toolkit.specs.Trace.{refused}
use Rattle.af_toolkit.specs.ToolParts.{link_sight}
use Rattle.af_relay.specs.RelayParts.{relaying}
use Rattle.af_relay.proofs.pass.pass_blocks.Given as goal

abbrev pub invariant-loop-left : goal.invariant-loop-left
invariant-loop-left g l = record {
  usable_from : l.from.cause ≡ None;
  usable_to : l.to.cause ≡ None;
  tells_from : IsSome (g.L.Link.left l.initial.from.link) → IsSome (g.L.Link.left l.from.link);
  tells_to : IsSome (g.M.Link.left l.initial.to.link) → IsSome (g.M.Link.left l.to.link);
  count_from : g.L.Link.faults l.initial.from.link ≤ g.L.Link.faults l.from.link;
  count_to : g.M.Link.faults l.initial.to.link ≤ g.M.Link.faults l.to.link;
  size : length l.room ≡ length l.initial.room;
  few : l.passed.resynced + l.left < 2 ^ 64;
  passing : Reached (relaying refused) (passes (block_count l.plan.job.blocks) l.plan.job l.plan.pace l.initial.passed) (passes l.left l.plan.job l.plan.pace l.passed)
      (both (link_sight g.L.Link.left g.L.Link.sent l.initial.from) (link_sight g.M.Link.left g.M.Link.sent l.initial.to))
      (both (link_sight g.L.Link.left g.L.Link.sent l.from) (link_sight g.M.Link.left g.M.Link.sent l.to));
}

abbrev pub decreases-loop-left : goal.decreases-loop-left
decreases-loop-left g l = l.left
