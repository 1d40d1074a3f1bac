use Rattle.std.proofs.Common.{ap, ◌∙◌}
use Rattle.af_live.specs.Readings.{pause_of}
use Rattle.af_live.proofs.waking.pause_after.Goals as goal

pub returns : goal.returns
returns g c = (
  c.is_urgent-urgent.result,
  c.went_on-goes_on.result,
  c.is_urgent-urgent.ensures,
  c.went_on-goes_on.ensures,
  c.pause.ensures ∙ ap (λ b. pause_of c.is_urgent-urgent.result c.went_on-goes_on.result c.args.step.now.is_late b) c.some_cut.ensures,
)
