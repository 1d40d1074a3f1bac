use Rattle.std.proofs.Common.{length, refl, sym}
use Rattle.af_io.specs.declared.flow.Put.TheVariants as puts
use Rattle.af_answer.specs.declared.end.AnswerEnd.TheVariants as end
use Rattle.af_answer.specs.AnswerTrace.{line_at}
use Rattle.af_answer.proofs.MachineLemmas.{calls_end, has_device, lacking_ends, lacking_ran, lacks_device, line_of_calls, line_there, reported_ran, stopped_ran}
use Rattle.af_answer.proofs.machine.answer.Goals as goal

pub returns-in-Some-clause-ran : goal.returns-in-Some-clause-ran
returns-in-Some-clause-ran g c input told = lacking_ran _ _ _ (sym c.in-Some.ensures)

pub returns-in-Some-clause-no_device : goal.returns-in-Some-clause-no_device
returns-in-Some-clause-no_device g c = lacks_device c.args.job.now c.args.conn.now.devices c.in-Some.end (sym c.in-Some.ensures)

pub returns-in-Some-clause-end : goal.returns-in-Some-clause-end
returns-in-Some-clause-end g c = lacking_ends c.args.job.now (line_at c.args.job.now c.args.conn.now.devices) (length c.args.conn.now.devices) (sym c.in-Some.ensures)

pub returns-in-Err-clause-end : goal.returns-in-Err-clause-end
returns-in-Err-clause-end g c = calls_end c.in-Err.end c.in-Err.ensures.end

pub returns-in-Done-clause-ran : goal.returns-in-Done-clause-ran
returns-in-Done-clause-ran g c input told =
    let line = line_there c.args.job.now (line_at c.args.job.now c.args.conn.now.devices) (length c.args.conn.now.devices) (sym c.in-None.ensures) in
    reported_ran c.args.job.now c.args.conn.now.devices c.requires.range.calls.0 line told puts.Done (c.in-Ok.ensures.goes _) c.in-Done.ensures.wrote

pub returns-in-Failed-clause-ran : goal.returns-in-Failed-clause-ran
returns-in-Failed-clause-ran g c input told =
    let line = line_there c.args.job.now (line_at c.args.job.now c.args.conn.now.devices) (length c.args.conn.now.devices) (sym c.in-None.ensures) in
    reported_ran c.args.job.now c.args.conn.now.devices c.requires.range.calls.0 line told puts.Failed (c.in-Ok.ensures.goes _) c.in-Failed.ensures.wrote

pub returns-in-Done-clause-no_device : goal.returns-in-Done-clause-no_device
returns-in-Done-clause-no_device g c = has_device c.args.job.now c.args.conn.now.devices end.Done (line_there c.args.job.now _ _ (sym c.in-None.ensures)) refl

pub returns-in-Failed-clause-no_device : goal.returns-in-Failed-clause-no_device
returns-in-Failed-clause-no_device g c = has_device c.args.job.now c.args.conn.now.devices end.SinkFault (line_there c.args.job.now _ _ (sym c.in-None.ensures)) refl

pub returns-in-Err-clause-ran : goal.returns-in-Err-clause-ran
returns-in-Err-clause-ran g c input told =
    let line = line_there c.args.job.now (line_at c.args.job.now c.args.conn.now.devices) (length c.args.conn.now.devices) (sym c.in-None.ensures) in
    stopped_ran c.args.job.now c.args.conn.now.devices c.requires.range.calls.0 line told c.in-Err.ensures.end (c.in-Err.ensures.goes _)

pub returns-in-Err-clause-no_device : goal.returns-in-Err-clause-no_device
returns-in-Err-clause-no_device g c = has_device c.args.job.now c.args.conn.now.devices c.in-Err.end (line_there c.args.job.now _ _ (sym c.in-None.ensures)) (line_of_calls c.in-Err.end c.in-Err.ensures.end)
