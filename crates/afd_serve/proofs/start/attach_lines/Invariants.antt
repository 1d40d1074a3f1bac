use Rattle.std.proofs.Common.{take}
use Rattle.af_io.specs.Observed.{Appended, Unchanged}
use Rattle.afd_serve.specs.Ends.{CountsFaults}
use Rattle.afd_serve.specs.Serving.{all_lines}
use Rattle.afd_serve.proofs.start.attach_lines.Given as goal

abbrev pub invariant-loop-number : goal.invariant-loop-number
invariant-loop-number g l = record {
  log : Unchanged (g.W.World.log l.initial.world) (g.W.World.log l.world);
  below : Appended (g.W.Live.lifecycle l.initial.world) (take l.number (all_lines l.setting)) (g.W.Live.lifecycle l.world);
  world : CountsFaults g.W.World.link_faults g.W.World.device_faults g.W.Live.listen_faults g.W.Live.wait_faults (λ end. ⊥) l.initial.world l.world;
}
