use Rattle.std.proofs.Common.{rules, ◌≡◌, ◌∙◌, None, Some, List, ap}
use Rattle.af_request.specs.declared.reply.DeviceInfo.{DeviceInfo}
use Rattle.af_events.specs.Spans.{span_of}
use Rattle.af_events.proofs.DuringLemmas.{by_lasting}
use Rattle.af_events.proofs.teller.tell_by.Goals as goal

pub returns-in-Some-clause-goes : goal.returns-in-Some-clause-goes
returns-in-Some-clause-goes g c =
    let job = c.args.job.now in
    let timed : job.lasting ≡ Some c.in-Some.milliseconds = search rules in
    let span = c.span_of-span.ensures.value ∙ ap (λ (all : List DeviceInfo). span_of c.in-Some.milliseconds job.devices all) c.devices.ensures.value in
    by_lasting job c.args.conn.now.devices timed (rw span at c.tell_for.ensures.goes)

pub returns-in-None-clause-goes : goal.returns-in-None-clause-goes
returns-in-None-clause-goes g c =
    let untimed : c.args.job.now.lasting ≡ None = search rules in
    by_lasting c.args.job.now c.args.conn.now.devices untimed (rw c.count.ensures at c.tell.ensures.goes)
