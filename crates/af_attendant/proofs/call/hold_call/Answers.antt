use Rattle.std.proofs.Common.{rules, refl, true, false}
use Rattle.af_attendant.specs.AttendantTrace.{holds_call, off_hook_fault, on_hook_fault}
use Rattle.af_attendant.proofs.AttendantPartLemmas.{went_stop, went_through, went_value}
use Rattle.af_attendant.proofs.AttendantStepLemmas.{hook_mark, requested_went}
use Rattle.af_attendant.proofs.HeldOffLemmas.{held_kept, took_off}
use Rattle.af_attendant.proofs.call.hold_call.Goals as goal

pub returns-in_err-hook-clause-goes : goal.returns-in_err-hook-clause-goes
unfolding holds_call
returns-in_err-hook-clause-goes g c held = went_stop _ (search rules) (requested_went off_hook_fault (λ f. refl) (hook_mark true) c.in_err-hook.ensures c.requires.usable held)

pub run_commands-requires-clause-off_hook : goal.run_commands-requires-clause-off_hook
run_commands-requires-clause-off_hook g c = held_kept c.hear_all.ensures.holds (took_off c.in_ok-hook.ensures c.requires.usable)

pub returns-in_err-runs-clause-goes : goal.returns-in_err-runs-clause-goes
unfolding holds_call
returns-in_err-runs-clause-goes g c held =
    went_through _ (requested_went off_hook_fault (λ f. refl) (hook_mark true) c.in_ok-hook.ensures c.requires.usable held)
    (went_through _ (c.hear_all.ensures.goes held) (went_stop _ (search rules) (c.in_err-runs.ensures.goes held)))

pub returns-in_err-hook-2-clause-goes : goal.returns-in_err-hook-2-clause-goes
unfolding holds_call
returns-in_err-hook-2-clause-goes g c held =
    went_through _ (requested_went off_hook_fault (λ f. refl) (hook_mark true) c.in_ok-hook.ensures c.requires.usable held)
    (went_through _ (c.hear_all.ensures.goes held)
    (went_through _ (c.in_ok-runs.ensures.goes held)
    (went_stop _ (search rules) (requested_went on_hook_fault (λ f. refl) (hook_mark false) c.in_err-hook-2.ensures (c.in_ok-runs.ensures.holds.keeps.usable refl) held))))

pub returns-clause-goes : goal.returns-clause-goes
unfolding holds_call
returns-clause-goes g c held =
    went_through _ (requested_went off_hook_fault (λ f. refl) (hook_mark true) c.in_ok-hook.ensures c.requires.usable held)
    (went_through _ (c.hear_all.ensures.goes held)
    (went_through _ (c.in_ok-runs.ensures.goes held)
    (went_through _ (requested_went on_hook_fault (λ f. refl) (hook_mark false) c.in_ok-hook-2.ensures (c.in_ok-runs.ensures.holds.keeps.usable refl) held) (went_value _))))
