use Rattle.std.proofs.Common.{◌∙◌}
use Rattle.af_config.proofs.Utf8Lemmas.{passes_text}
use Rattle.af_config.proofs.device.is_text.Goals as goal

pub returns : goal.returns
returns c = c.is_ok.ensures.value ∙ passes_text _ _ c.args.line.now c.from_utf8.result c.from_utf8.ensures.cases
