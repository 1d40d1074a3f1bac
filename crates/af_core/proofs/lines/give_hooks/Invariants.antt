use Rattle.std.proofs.Common.{◌≡◌, ◌-◌, length, IsFalse}
use Rattle.af_model.specs.Turn.{hook_from}
use Rattle.af_core.specs.Stands.{IsBetweenPhases, StandsFor, kept_of}
use Rattle.af_core.specs.Simulates.{Simulates}
use Rattle.af_core.proofs.lines.give_hooks.Given as goal

abbrev pub invariant-loop-number : goal.invariant-loop-number
invariant-loop-number g l = record {
  kept : IsBetweenPhases (kept_of l.shared l.slots);
  count : length l.shared.devices ≡ length l.initial.shared.devices;
  same : IsFalse l.any → (l.shared ≡ l.initial.shared) × (l.slots ≡ l.initial.slots);
  leads : g.W.World.leads_to l.initial.world l.world;
  simulates : Simulates (g.W.World.log l.initial.world) (g.W.World.log l.world) (StandsFor (kept_of l.initial.shared l.initial.slots)) (StandsFor (kept_of l.shared l.slots)) (hook_from (length l.initial.shared.devices) 0) (hook_from (length l.initial.shared.devices - l.number) l.number);
}
