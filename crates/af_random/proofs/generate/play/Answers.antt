use Rattle.std.proofs.Common.{◌+◌, ◌%◌, ◌^◌, ap, ◌∙◌}
use Rattle.af_random.proofs.GeneratedScriptLemmas.{play_is}
use Rattle.af_random.proofs.generate.play.Goals as goal

pub returns-clause-value : goal.returns-clause-value
returns-clause-value c =
    play_is c.args.y c.args.time.0 c.after-2.result.0 c.args.samples.now
    (c.after-2.ensures ∙ ap (λ t. (t + c.args.y % 36000) % 2 ^ 32) c.after.ensures) c.requires.samples
