use Rattle.std.proofs.Common.{refl}
use Rattle.af_toolkit.specs.declared.end.ToolEnd.TheVariants as end
use Rattle.af_toolkit.specs.Trace.{refused}
use Rattle.af_toolkit.specs.Ends.{client_of, is_of_link, is_of_report}
use Rattle.af_tools.proofs.HavingRun.{aset_on, missing_ran, there_ran}
use Rattle.af_tools.proofs.DeviceChoiceLemmas.{is_missing, is_there, missing_iff, there_iff}
use Rattle.af_tools.proofs.EndLemmas.{never}
use Rattle.af_toolkit.proofs.ToolPartLemmas.{trace_goes_on, trace_stops}
use Rattle.af_tools.proofs.setter.aset.Goals as goal

pub returns-in-Err-clause-ran : goal.returns-in-Err-clause-ran
returns-in-Err-clause-ran g c input told =
    missing_ran _ _ _ _ _ (aset_on c.args.job.now c.args.conn.now.devices (client_of c.args.conn.now input)) _ _ _ (is_missing _ _ _ c.in-Err.ensures.value)

pub returns-in-Err-clause-no_device : goal.returns-in-Err-clause-no_device
returns-in-Err-clause-no_device g c n = missing_iff _ _ _ (is_missing _ _ _ c.in-Err.ensures.value) n

pub returns-in-Ok-set_on-clause-ran : goal.returns-in-Ok-set_on-clause-ran
returns-in-Ok-set_on-clause-ran g c input told =
    let w = client_of c.args.conn.now input in
    there_ran _ _ _ _ _ (aset_on c.args.job.now c.args.conn.now.devices w) c.in-Ok.device _ _ _ _ _ (is_there _ _ _ c.in-Ok.ensures.value)
    (trace_goes_on refused _ (input, told, refl) (c.in-Ok-set_on.ensures.goes (g.K.Sink.held c.args.sink.now)) (c.report.ensures.followed _))

pub returns-in-Ok-set_on-clause-no_device : goal.returns-in-Ok-set_on-clause-no_device
returns-in-Ok-set_on-clause-no_device g c n = there_iff _ _ _ _ (is_there _ _ c.in-Ok.device c.in-Ok.ensures.value) (λ k. never is_of_report _ (end.NoDevice k) c.report.ensures.end refl) n

pub returns-in-Err-set_on-clause-ran : goal.returns-in-Err-set_on-clause-ran
returns-in-Err-set_on-clause-ran g c input told =
    let w = client_of c.args.conn.now input in
    there_ran _ _ _ _ _ (aset_on c.args.job.now c.args.conn.now.devices w) c.in-Ok.device _ _ _ _ _ (is_there _ _ _ c.in-Ok.ensures.value)
    (trace_stops refused _ (input, told, refl) (c.in-Err-set_on.ensures.goes (g.K.Sink.held c.args.sink.now)))

pub returns-in-Err-set_on-clause-no_device : goal.returns-in-Err-set_on-clause-no_device
returns-in-Err-set_on-clause-no_device g c n = there_iff _ _ _ _ (is_there _ _ c.in-Ok.device c.in-Ok.ensures.value) (λ k. never is_of_link _ (end.NoDevice k) c.in-Err-set_on.ensures.end refl) n
