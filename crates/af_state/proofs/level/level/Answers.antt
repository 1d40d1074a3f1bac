use Rattle.std.proofs.Common.{◌∙◌, ap, sym, map}
use Rattle.af_model.specs.Controls.{through_control}
use Rattle.af_state.proofs.PlayLemmas.{silenced}
use Rattle.af_state.proofs.level.level.Goals as goal

pub returns-then-is_on : goal.returns-then-is_on
returns-then-is_on c = c.gain_run.ensures ∙ ap (λ b. map (through_control b c.args.gain) c.args.samples.now) (sym c.if-is_on.true)

pub returns-else-is_on : goal.returns-else-is_on
returns-else-is_on c = c.silence.ensures ∙ silenced c.args.gain c.args.samples.now ∙ ap (λ b. map (through_control b c.args.gain) c.args.samples.now) (sym c.if-is_on.false)
