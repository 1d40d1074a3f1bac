use Rattle.std.proofs.Common.{◌<◌}
use Rattle.af_limits.specs.Limits.{most_links}
use Rattle.af_model.specs.Turn.{write_phase}
use Rattle.af_state.specs.SharedState.{StandsForLink}
use Rattle.af_core.specs.Stands.{LinkServed, writes_left}
use Rattle.af_core.specs.Simulates.{Simulates}
use Rattle.af_core.proofs.serve.write_link.Given as goal

abbrev pub invariant-loop-shared : goal.invariant-loop-shared
invariant-loop-shared g l = record {
  number : l.number < most_links;
  link : LinkServed l.number l.initial.shared.waits l.shared.waits l.link;
  leads : g.W.World.leads_to l.initial.world l.world;
  simulates : Simulates (g.W.World.log l.initial.world) (g.W.World.log l.world) (StandsForLink l.initial.shared l.initial.link) (StandsForLink l.shared l.link) (write_phase l.number) (write_phase l.number);
}

abbrev pub decreases-loop-shared : goal.decreases-loop-shared
decreases-loop-shared g l = writes_left l.link
