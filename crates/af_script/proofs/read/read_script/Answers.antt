use Rattle.std.proofs.Common.{◌≡◌, inl, List, sym, ap, ◌∙◌, subst}
use Rattle.std.specs.Prelude.{Ok}
use Rattle.af_world.specs.declared.script.Step.{Step}
use Rattle.af_text.specs.Reading.{MeetsFault}
use Rattle.af_script.specs.Script.{StatedScript}
use Rattle.af_script.proofs.LineByLine.{read_start}
use Rattle.af_script.proofs.StatementLemmas.{script_sound}
use Rattle.af_script.proofs.read.read_script.Goals as goal

pub returns-in-Ok-clause-script : goal.returns-in-Ok-clause-script
returns-in-Ok-clause-script c =
    let start = read_start c.args.text.now (record { config = c.new.result.items; steps = c.new-2.result.items }) c.new.ensures c.new-2.ensures.items in
    let stated : StatedScript = record { config = c.draft.inside.config.items; steps = c.of.result } in
    let same : c.read_lines.new.read ≡ stated = sym c.draft.view_is ∙ ap (λ (steps : List Step). record { config = c.draft.inside.config.items; steps = steps }) (sym c.of.ensures) in
    sym start ∙ c.in-Ok.ensures.whole ∙ ap Ok same

pub returns-in-Ok-clause-found : goal.returns-in-Ok-clause-found
returns-in-Ok-clause-found c =
    let start = read_start c.args.text.now (record { config = c.new.result.items; steps = c.new-2.result.items }) c.new.ensures c.new-2.ensures.items in
    let whole = c.in-Ok.ensures.whole in
    λ n e. absurd (cc)

pub returns-in-Ok-clause-devices : goal.returns-in-Ok-clause-devices
returns-in-Ok-clause-devices c =
    let sound = script_sound c.args.text.now (record { config = c.draft.inside.config.items; steps = c.of.result }) (returns-in-Ok-clause-script c) in
    (sound.some, sound.few)

pub returns-in-Ok-clause-rates : goal.returns-in-Ok-clause-rates
returns-in-Ok-clause-rates c = (script_sound c.args.text.now (record { config = c.draft.inside.config.items; steps = c.of.result }) (returns-in-Ok-clause-script c)).rates

pub returns-in-Ok-clause-channels : goal.returns-in-Ok-clause-channels
returns-in-Ok-clause-channels c = (script_sound c.args.text.now (record { config = c.draft.inside.config.items; steps = c.of.result }) (returns-in-Ok-clause-script c)).channels

pub returns-in-Ok-clause-steps : goal.returns-in-Ok-clause-steps
returns-in-Ok-clause-steps c = (script_sound c.args.text.now (record { config = c.draft.inside.config.items; steps = c.of.result }) (returns-in-Ok-clause-script c)).steps

pub returns-in-Err-Line-clause-fault : goal.returns-in-Err-Line-clause-fault
returns-in-Err-Line-clause-fault c =
    let start = read_start c.args.text.now (record { config = c.new.result.items; steps = c.new-2.result.items }) c.new.ensures c.new-2.ensures.items in
    sym start ∙ subst (MeetsFault _) c.in-Err-Line.field-0-is c.in-Err-Line.ensures.fault

pub returns-in-Err-Line-clause-found : goal.returns-in-Err-Line-clause-found
returns-in-Err-Line-clause-found c =
    let start = read_start c.args.text.now (record { config = c.new.result.items; steps = c.new-2.result.items }) c.new.ensures c.new-2.ensures.items in
    let at = subst (MeetsFault _) c.in-Err-Line.field-0-is c.in-Err-Line.ensures.fault in
    λ n e. inl (cc)
