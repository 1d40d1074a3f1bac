use Rattle.std.proofs.Common.{inl, sym, ap, ◌∙◌, subst}
use Rattle.std.specs.Prelude.{Err}
use Rattle.af_text.specs.Reading.{MeetsFault}
use Rattle.af_config.specs.declared.fault.ConfigFault.TheVariants as fault
use Rattle.af_config.proofs.LineByLine.{read_start, some_device, one_fault}
use Rattle.af_config.proofs.SoundLemmas.{none_sound, few_programs}
use Rattle.af_config.proofs.read.read_config.Goals as goal

pub returns-in-Ok-clause-setting : goal.returns-in-Ok-clause-setting
returns-in-Ok-clause-setting c = sym (read_start c.args.text.now c.new-setting.result c.new-setting.ensures.config c.new-setting.ensures.kinds c.new-setting.ensures.phones) ∙ c.in-Ok.ensures.whole

pub returns-in-Ok-clause-found : goal.returns-in-Ok-clause-found
returns-in-Ok-clause-found c =
    let start = read_start c.args.text.now c.new-setting.result c.new-setting.ensures.config c.new-setting.ensures.kinds c.new-setting.ensures.phones in
    let whole = c.in-Ok.ensures.whole in
    λ n e. absurd (cc)

pub returns-in-Ok-clause-devices : goal.returns-in-Ok-clause-devices
returns-in-Ok-clause-devices c =
    let sound = c.in-Ok.ensures.kept (none_sound c.new-setting.result c.new-setting.ensures.config c.new-setting.ensures.kinds c.new-setting.ensures.phones) in
    (some_device c.read_lines.new.read c.in-Ok.ensures.done, sound.few)

pub returns-in-Ok-clause-kinds : goal.returns-in-Ok-clause-kinds
returns-in-Ok-clause-kinds c = (c.in-Ok.ensures.kept (none_sound c.new-setting.result c.new-setting.ensures.config c.new-setting.ensures.kinds c.new-setting.ensures.phones)).kinds

pub returns-in-Ok-clause-rates : goal.returns-in-Ok-clause-rates
returns-in-Ok-clause-rates c = (c.in-Ok.ensures.kept (none_sound c.new-setting.result c.new-setting.ensures.config c.new-setting.ensures.kinds c.new-setting.ensures.phones)).rates

pub returns-in-Ok-clause-channels : goal.returns-in-Ok-clause-channels
returns-in-Ok-clause-channels c = (c.in-Ok.ensures.kept (none_sound c.new-setting.result c.new-setting.ensures.config c.new-setting.ensures.kinds c.new-setting.ensures.phones)).channels

pub returns-in-Ok-clause-phones : goal.returns-in-Ok-clause-phones
returns-in-Ok-clause-phones c = few_programs c.read_lines.new.read (c.in-Ok.ensures.kept (none_sound c.new-setting.result c.new-setting.ensures.config c.new-setting.ensures.kinds c.new-setting.ensures.phones))

pub returns-in-Ok-clause-lines : goal.returns-in-Ok-clause-lines
returns-in-Ok-clause-lines c = (c.in-Ok.ensures.kept (none_sound c.new-setting.result c.new-setting.ensures.config c.new-setting.ensures.kinds c.new-setting.ensures.phones)).lines

pub returns-in-Err-Line-clause-fault : goal.returns-in-Err-Line-clause-fault
returns-in-Err-Line-clause-fault c =
    let start = read_start c.args.text.now c.new-setting.result c.new-setting.ensures.config c.new-setting.ensures.kinds c.new-setting.ensures.phones in
    let at = subst (MeetsFault _) c.in-Err-Line.field-0-is c.in-Err-Line.ensures.fault in
    sym start ∙ at ∙ ap Err (sym c.in-Err-Line.line-is)

pub returns-in-Err-Line-clause-found : goal.returns-in-Err-Line-clause-found
returns-in-Err-Line-clause-found c =
    λ n e. inl (ap (λ line. Err (fault.Line line)) (one_fault _ _ _ (returns-in-Err-Line-clause-fault c) e))
