use Rattle.afd_serve.proofs.StartLemmas.{listened_alone, started_until}
use Rattle.afd_serve.proofs.start.start.Goals as goal

pub returns-in_default-clause-part : goal.returns-in_default-clause-part
returns-in_default-clause-part g c = listened_alone c.args.address.now c.args.setting.now _ _ c.in-Done.ensures.lifecycle

pub returns-in-Err-clause-part : goal.returns-in-Err-clause-part
returns-in-Err-clause-part g c = started_until c.args.address.now c.args.setting.now _ _ c.in-Done.ensures.lifecycle c.in-Err.end _ c.in-Err.ensures.some
