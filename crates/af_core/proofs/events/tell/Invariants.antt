use Rattle.std.proofs.Common.{◌≡◌, ◌-◌, length}
use Rattle.af_model.specs.State.{State}
use Rattle.af_core.specs.Stands.{AreOrderly, StandsFor, kept_of}
use Rattle.af_core.proofs.EventLemmas.{TellsOn}
use Rattle.af_core.proofs.events.tell.Given as goal

abbrev pub invariant-loop-number : goal.invariant-loop-number
invariant-loop-number l = record {
  kept : AreOrderly l.shared.waits l.slots;
  devices : l.shared.devices ≡ l.initial.shared.devices;
  step : (s : State) → StandsFor (kept_of l.initial.shared l.initial.slots) s → TellsOn (kept_of l.shared l.slots) l.event (length l.initial.slots - l.number) l.number s;
}
