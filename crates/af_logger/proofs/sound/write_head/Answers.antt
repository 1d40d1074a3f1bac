use Rattle.std.proofs.Common.{rules, ap, ◌∙◌}
use Rattle.af_sound.specs.Written.{written_head}
use Rattle.af_sound.specs.declared.head.SoundHead.{SoundHead}
use Rattle.af_logger.proofs.SoundLemmas.{form_or_coding, head_none, head_some}
use Rattle.af_logger.proofs.sound.write_head.Goals as goal

pub returns-in-Some-Some-clause-bytes : goal.returns-in-Some-Some-clause-bytes
returns-in-Some-Some-clause-bytes c =
    c.write_sound_head.ensures.bytes
    ∙ ap (λ (head : SoundHead). written_head c.in-Some-Some.form head) c.head_in.ensures.value
    ∙ head_some c.args.plan.now c.in-Some-Some.form (search rules)

pub returns-in_default-2-clause-bytes : goal.returns-in_default-2-clause-bytes
returns-in_default-2-clause-bytes c =
    head_none c.args.plan.now (form_or_coding c.args.plan.now c.requires.plan (λ form coding is also. (search rules)))
