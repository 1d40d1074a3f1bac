-- Calls of a line: one is awaited, event by event; it is taken; and then the next.
use Rattle.std.proofs.Common.{◌≡◌, ℕ, zero, suc, ◌-◌, ◌<◌, ◌==◌, if◌then◌else◌, arith, refl}
use Rattle.af_wire.specs.declared.event.Event.{Event}
use Rattle.af_toolkit.specs.Parts.{goes_on, has_value, stops}
use Rattle.af_answer.specs.declared.child.ChildEnd.{ChildEnd}
use Rattle.af_answer.specs.declared.job.AnswerJob.{AnswerJob}
use Rattle.af_answer.specs.declared.tally.Tally.{Tally}
use Rattle.af_answer.specs.Acts.{rings_after, tally_after}
use Rattle.af_answer.specs.AnswerTrace.{MachinePart, attends, awaits_call, awaits_event, child_starved, doing, most_for_a_call, takes_call}
use Rattle.af_answer.specs.Children.{is_starved}

-- what follows an event: the call is taken, or awaited on
abbrev pub after_ring : (n : ℕ) → AnswerJob → (rings : ℕ) → Event → MachinePart (Unit {0})
after_ring n job rings e = if rings_after job rings e == job.rings then has_value doing tt else awaits_call n job (rings_after job rings e)

pub awaits_next : (n : ℕ) (job : AnswerJob) (rings : ℕ) → 0 < n → awaits_call n job rings ≡ goes_on doing awaits_event (after_ring (n - 1) job rings)
unfolding awaits_call
awaits_next zero job rings some = absurd (omega (arith, some))
awaits_next (suc n) job rings some = let less : suc n - 1 ≡ n = omega arith in rw less refl

-- what follows a call, by how it ended
abbrev pub after_call : (n : ℕ) → AnswerJob → Tally → ChildEnd → MachinePart Tally
after_call n job t how = if is_starved how then stops doing child_starved else attends n job (tally_after how t)

pub attends_next : (n : ℕ) (job : AnswerJob) (t : Tally) → 0 < n →
    attends n job t ≡ goes_on doing (awaits_call most_for_a_call job 0) (λ _. goes_on doing (takes_call job) (after_call (n - 1) job t))
unfolding attends
attends_next zero job t some = absurd (omega (arith, some))
attends_next (suc n) job t some = let less : suc n - 1 ≡ n = omega arith in rw less refl
