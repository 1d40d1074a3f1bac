use Rattle.afd_serve.proofs.StartLemmas.{devices_until, lines_ended}
use Rattle.afd_serve.proofs.start.attach_all.Goals as goal

pub returns-in-Err-clause-some : goal.returns-in-Err-clause-some
returns-in-Err-clause-some g c = devices_until c.in-Err.end c.args.setting.now _ _ c.in-Err.ensures.some

pub returns-in-Ok-clause-some : goal.returns-in-Ok-clause-some
returns-in-Ok-clause-some g c = lines_ended c.attach_lines.result c.args.setting.now _ _ _ c.in-Ok.ensures.all c.attach_lines.ensures.some
