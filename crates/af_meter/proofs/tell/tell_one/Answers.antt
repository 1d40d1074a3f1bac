use Rattle.std.proofs.Common.{rules, ◌≡◌, None}
use Rattle.af_meter.proofs.TellLemmas.{silent_goes}
use Rattle.af_meter.proofs.tell.tell_one.Goals as goal

pub returns-in-None-clause-goes : goal.returns-in-None-clause-goes
returns-in-None-clause-goes g c link =
    let none : c.args.line ≡ None = search rules in
    rw none (silent_goes g.K.Sink.held c.args.at.0 c.args.left c.args.levels.now c.args.sink.now link)
