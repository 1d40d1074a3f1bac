use Rattle.std.proofs.Common.{◌≡◌, ◌∙◌, length, refl, sym, Some, true}
use Rattle.af_answer.specs.declared.end.AnswerEnd.TheVariants as end
use Rattle.af_answer.proofs.MachineLemmas.{has_device, lacks_device}
use Rattle.af_attendant.specs.AttendantTrace.{line_at}
use Rattle.af_attendant.proofs.MachineLemmas.{done_ran, failed_ran, lacking_by, line_there, same_missing, stopped_ran, taking_line}
use Rattle.af_attendant.proofs.attendant.attend_line.Goals as goal

pub returns-in-Some-clause-ran : goal.returns-in-Some-clause-ran
returns-in-Some-clause-ran g c input told = lacking_by c.args.job.now c.args.conn.now.devices (line_at c.args.job.now c.args.conn.now.devices) refl _ (sym c.in-Some.ensures)

pub returns-in-Some-clause-no_device : goal.returns-in-Some-clause-no_device
returns-in-Some-clause-no_device g c =
    lacks_device c.args.job.now.answer c.args.conn.now.devices c.in-Some.end (sym (same_missing c.args.job.now (line_at c.args.job.now c.args.conn.now.devices) (length c.args.conn.now.devices)) ∙ sym c.in-Some.ensures)

pub returns-in-Done-clause-ran : goal.returns-in-Done-clause-ran
returns-in-Done-clause-ran g c input told =
    let line : line_at c.args.job.now c.args.conn.now.devices ≡ Some true = line_there c.args.job.now _ (length c.args.conn.now.devices) (sym c.in-None.ensures) in
    done_ran c.args.job.now c.args.conn.now.devices line told refl c.in-Ok.ensures.goes.1 c.in-Done.ensures.wrote

pub returns-in-Failed-clause-ran : goal.returns-in-Failed-clause-ran
returns-in-Failed-clause-ran g c input told =
    let line : line_at c.args.job.now c.args.conn.now.devices ≡ Some true = line_there c.args.job.now _ (length c.args.conn.now.devices) (sym c.in-None.ensures) in
    failed_ran c.args.job.now c.args.conn.now.devices line told refl c.in-Ok.ensures.goes.1 c.in-Failed.ensures.wrote

pub returns-in-Err-clause-ran : goal.returns-in-Err-clause-ran
returns-in-Err-clause-ran g c input told =
    let line : line_at c.args.job.now c.args.conn.now.devices ≡ Some true = line_there c.args.job.now _ (length c.args.conn.now.devices) (sym c.in-None.ensures) in
    stopped_ran c.args.job.now c.args.conn.now.devices line told refl c.in-Err.ensures.goes.1

pub returns-in-Done-clause-no_device : goal.returns-in-Done-clause-no_device
returns-in-Done-clause-no_device g c =
    let line : line_at c.args.job.now c.args.conn.now.devices ≡ Some true = line_there c.args.job.now _ (length c.args.conn.now.devices) (sym c.in-None.ensures) in
    has_device c.args.job.now.answer c.args.conn.now.devices end.Done line refl

pub returns-in-Failed-clause-no_device : goal.returns-in-Failed-clause-no_device
returns-in-Failed-clause-no_device g c =
    let line : line_at c.args.job.now c.args.conn.now.devices ≡ Some true = line_there c.args.job.now _ (length c.args.conn.now.devices) (sym c.in-None.ensures) in
    has_device c.args.job.now.answer c.args.conn.now.devices end.SinkFault line refl

pub returns-in-Err-clause-no_device : goal.returns-in-Err-clause-no_device
returns-in-Err-clause-no_device g c =
    let line : line_at c.args.job.now c.args.conn.now.devices ≡ Some true = line_there c.args.job.now _ (length c.args.conn.now.devices) (sym c.in-None.ensures) in
    has_device c.args.job.now.answer c.args.conn.now.devices c.in-Err.end line (taking_line c.in-Err.end c.in-Err.ensures.end)
