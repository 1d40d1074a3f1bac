use Rattle.af_random.proofs.GeneratedScriptLemmas.{made, made_fit}
use Rattle.af_random.proofs.generate.make_script.Goals as goal

pub returns-clause-script : goal.returns-clause-script
returns-clause-script c = made c.args.seed c.args.turns c.device.result.items c.in_ok-steps.steps.items c.of.result c.device.ensures c.of.ensures c.in_ok-steps.ensures.value

pub returns-clause-steps : goal.returns-clause-steps
returns-clause-steps c = made_fit c.device.result.items c.in_ok-steps.steps.items c.of.result c.device.ensures c.of.ensures c.in_ok-steps.ensures.fits
