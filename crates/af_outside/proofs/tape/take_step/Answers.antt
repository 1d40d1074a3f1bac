use Rattle.std.proofs.Common.{◌∙◌}
use Rattle.af_outside.specs.Tape.{devices_of}
use Rattle.af_outside.proofs.ScriptedLinkLemmas.{outside_after_step-sends, outside_after_step-takes, outside_after_step-fails}
use Rattle.af_outside.proofs.tape.take_step.Goals as goal

pub returns-in-Send-clause-outside : goal.returns-in-Send-clause-outside
returns-in-Send-clause-outside c = λ steps at.
    c.adjust-in-Send.ensures.outside (devices_of steps c.args.devices.now) ∙ outside_after_step-sends _ c.in-Send.link c.args.step.now c.in-Send.is

pub returns-in-Room-clause-outside : goal.returns-in-Room-clause-outside
returns-in-Room-clause-outside c = λ steps at.
    c.adjust.ensures.outside (devices_of steps c.args.devices.now) ∙ outside_after_step-takes _ c.in-Room.link c.in-Room.field-1 c.args.step.now c.in-Room.is

pub returns-in-FailRead-clause-outside : goal.returns-in-FailRead-clause-outside
returns-in-FailRead-clause-outside c = λ steps at.
    c.adjust-in-FailRead.ensures.outside (devices_of steps c.args.devices.now) ∙ outside_after_step-fails _ c.in-FailRead.link c.args.step.now c.in-FailRead.is
