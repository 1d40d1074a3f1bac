use Rattle.std.proofs.Common.{◌≡◌, ◌-◌, ◌≤◌, length}
use Rattle.af_model.specs.Turn.{serve_from}
use Rattle.af_core.specs.Stands.{AreOrderly, NoneOpenFrom, StandsFor, WantsWithin, kept_of}
use Rattle.af_core.specs.Simulates.{Simulates}
use Rattle.af_core.proofs.FoundLemmas.{FoundBelow}
use Rattle.af_core.proofs.slot.serve_slots.Given as goal

abbrev pub invariant-loop-number : goal.invariant-loop-number
invariant-loop-number g l = record {
  kept : AreOrderly l.shared.waits l.slots;
  same : l.bounds.open_below ≡ l.fn.bounds.open_below;
  none_open : NoneOpenFrom l.fn.bounds.open_below l.slots;
  from : l.fn.bounds.wants_from ≤ l.number;
  wants : WantsWithin l.fn.bounds.wants_from l.fn.bounds.wants_below l.shared.waits l.slots;
  found : FoundBelow l.number l.bounds l.shared.waits l.slots;
  leads : g.W.World.leads_to l.initial.world l.world;
  simulates : Simulates (g.W.World.log l.initial.world) (g.W.World.log l.world) (StandsFor (kept_of l.initial.shared l.initial.slots)) (StandsFor (kept_of l.shared l.slots)) (serve_from (length l.initial.slots) 0) (serve_from (length l.initial.slots - l.number) l.number);
}
