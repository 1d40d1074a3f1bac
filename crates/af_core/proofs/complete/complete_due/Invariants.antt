use Rattle.std.proofs.Common.{◌≡◌, false}
use Rattle.af_model.specs.State.{State}
use Rattle.af_state.proofs.DeferralLemmas.{dues}
use Rattle.af_core.specs.Stands.{IsCompleting, StandsFor, kept_of}
use Rattle.af_core.proofs.CompletionLemmas.{CompletesOn}
use Rattle.af_core.proofs.complete.complete_due.Given as goal

abbrev pub invariant-loop-completed : goal.invariant-loop-completed
invariant-loop-completed l = record {
  kept : IsCompleting l.device (kept_of l.shared l.slots);
  same : l.completed ≡ false → (l.shared ≡ l.initial.shared) × (l.slots ≡ l.initial.slots);
  step : (s : State) → StandsFor (kept_of l.initial.shared l.initial.slots) s → CompletesOn (kept_of l.shared l.slots) l.device s;
}

abbrev pub decreases-loop-completed : goal.decreases-loop-completed
decreases-loop-completed l = dues l.device l.shared.waits
