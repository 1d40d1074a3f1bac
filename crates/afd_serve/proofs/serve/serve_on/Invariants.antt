use Rattle.std.proofs.Common.{List, ℕ}
use Rattle.af_world.specs.declared.script.DeviceSpec.{DeviceSpec}
use Rattle.af_model.specs.State.{opening_state}
use Rattle.af_core.specs.Stands.{Stands}
use Rattle.afd_serve.specs.Ends.{CountsFaults}
use Rattle.afd_serve.proofs.ServeRoundLemmas.{Runs}
use Rattle.afd_serve.proofs.serve.serve_on.Given as goal

abbrev pub invariant-loop : goal.invariant-loop
invariant-loop g l = record {
  runs : (config : List DeviceSpec) → Stands l.initial.core (opening_state config) → (n : ℕ) × Runs config l.core n (g.W.World.log l.initial.world) (g.W.World.log l.world) (g.W.Live.lifecycle l.initial.world) (g.W.Live.lifecycle l.world);
  world : CountsFaults g.W.World.link_faults g.W.World.device_faults g.W.Live.listen_faults g.W.Live.wait_faults (λ end. ⊥) l.initial.world l.world;
}
