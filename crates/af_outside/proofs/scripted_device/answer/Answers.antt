use Rattle.std.proofs.Common.{◌∙◌, sym, ap, refl, false}
use Rattle.af_outside.specs.Tape.{is_failing, with_failing}
use Rattle.af_outside.proofs.ScriptedDeviceLemmas.{outside_of-changed}
use Rattle.af_outside.proofs.scripted_device.answer.Goals as goal

pub returns-then-is_failing : goal.returns-then-is_failing
returns-then-is_failing c = λ links steps. record {
  stated = ap (is_failing c.args.call) (sym (c.scripted_at-scripted.ensures steps)) ∙ sym (c.is_failing.ensures steps) ∙ c.if-is_failing.true;
  changed = outside_of-changed links steps c.args.devices.now _ c.args.device c.scripted_at-scripted.result _ (with_failing c.args.call false) c.put_scripted.ensures (c.with_failing.ensures steps) (c.scripted_at-scripted.ensures steps);
}

pub returns : goal.returns
returns c = λ links steps. record { stated = ap (is_failing c.args.call) (sym (c.scripted_at-scripted.ensures steps)) ∙ sym (c.is_failing.ensures steps) ∙ c.if-is_failing.false; changed = refl }
