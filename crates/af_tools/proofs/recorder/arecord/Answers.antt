use Rattle.std.proofs.Common.{◌≡◌, ◌∙◌, [], inl, Bool, true, length, ap, refl, sym}
use Rattle.af_toolkit.specs.declared.end.ToolEnd.TheVariants as end
use Rattle.af_lib.specs.Calls.{channels_or_one}
use Rattle.af_toolkit.specs.Trace.{Trace, ends, refused}
use Rattle.af_toolkit.specs.Ends.{client_of, has_done_all, is_of_link_or_sink}
use Rattle.af_toolkit.specs.Lost.{finish_by}
use Rattle.af_tools.specs.declared.record.Recording.{Recording}
use Rattle.af_tools.proofs.FiledLemmas.{is_recorded}
use Rattle.af_toolkit.proofs.ToolPartLemmas.{followed_end, trace_goes_on, trace_stops}
use Rattle.af_tools.proofs.HavingRun.{arecord_on, missing_ran, there_ran}
use Rattle.af_tools.proofs.DeviceChoiceLemmas.{is_missing, is_there, missing_iff, there_iff}
use Rattle.af_tools.proofs.EndLemmas.{all_by, never, not_all}
use Rattle.af_io.proofs.AppendedLemmas.{appended_none}
use Rattle.af_tools.proofs.WriteStepLemmas.{records_for}
use Rattle.af_tools.proofs.recorder.arecord.Goals as goal

-- how arecord ends once it has recorded
abbrev ending : (strict : Bool) → Recording → Trace
ending strict recording = ends (finish_by strict recording.lost)

pub returns-in-Err-clause-ran : goal.returns-in-Err-clause-ran
returns-in-Err-clause-ran g c input told =
    missing_ran _ _ _ _ _ (arecord_on c.args.job.now c.args.conn.now.devices (client_of c.args.conn.now input)) _ _ _ (is_missing _ _ _ c.in-Err.ensures.value)

pub returns-in-Err-clause-no_device : goal.returns-in-Err-clause-no_device
returns-in-Err-clause-no_device g c n = missing_iff _ _ _ (is_missing _ _ _ c.in-Err.ensures.value) n

pub returns-in-Ok-record_on-clause-ran : goal.returns-in-Ok-record_on-clause-ran
returns-in-Ok-record_on-clause-ran g c input told =
    let w = client_of c.args.conn.now input in
    there_ran _ _ _ _ _ (arecord_on c.args.job.now c.args.conn.now.devices w) c.in-Ok.device _ _ _ _ _ (is_there _ _ _ c.in-Ok.ensures.value)
    (trace_goes_on refused (ending c.args.job.now.strict) (input, told, refl) (rw c.at_rate.ensures at c.in-Ok-record_on.ensures.goes) (followed_end (finish_by c.args.job.now.strict c.in-Ok-record_on.recording.lost) c.end_by.ensures.value))

pub returns-in-Ok-record_on-clause-no_device : goal.returns-in-Ok-record_on-clause-no_device
returns-in-Ok-record_on-clause-no_device g c n = there_iff _ _ _ _ (is_there _ _ c.in-Ok.device c.in-Ok.ensures.value) (λ k. never has_done_all _ (end.NoDevice k) (all_by c.args.job.now.strict c.in-Ok-record_on.recording.lost c.end_by.ensures.value) refl) n

pub returns-in-Err-record_on-clause-ran : goal.returns-in-Err-record_on-clause-ran
returns-in-Err-record_on-clause-ran g c input told =
    let w = client_of c.args.conn.now input in
    there_ran _ _ _ _ _ (arecord_on c.args.job.now c.args.conn.now.devices w) c.in-Ok.device _ _ _ _ _ (is_there _ _ _ c.in-Ok.ensures.value)
    (trace_stops refused (ending c.args.job.now.strict) (input, told, refl) (rw c.at_rate.ensures at c.in-Err-record_on.ensures.goes))

pub returns-in-Err-record_on-clause-no_device : goal.returns-in-Err-record_on-clause-no_device
returns-in-Err-record_on-clause-no_device g c n = there_iff _ _ _ _ (is_there _ _ c.in-Ok.device c.in-Ok.ensures.value) (λ k. never is_of_link_or_sink _ (end.NoDevice k) c.in-Err-record_on.ensures.end refl) n

pub returns-in-Err-clause-recorded : goal.returns-in-Err-clause-recorded
returns-in-Err-clause-recorded g c input told way =
    let missing = is_missing c.args.conn.now.devices c.args.job.now.device c.in-Err.end c.in-Err.ensures.value in
    let bad : has_done_all (end.NoDevice (length c.args.conn.now.devices)) ≡ true = ap has_done_all (sym missing.way) ∙ way in
    absurd (cc bad)

pub returns-in-Ok-record_on-clause-recorded : goal.returns-in-Ok-record_on-clause-recorded
returns-in-Ok-record_on-clause-recorded g c input told way =
    is_recorded c.args.job.now c.args.conn.now.devices (client_of c.args.conn.now input) c.end_by.result _ _ _ _ (returns-in-Ok-record_on-clause-ran g c input told).followed way

pub returns-in-Err-record_on-clause-recorded : goal.returns-in-Err-record_on-clause-recorded
returns-in-Err-record_on-clause-recorded g c input told way =
    absurd (not_all is_of_link_or_sink _ c.in-Err-record_on.ensures.end refl refl way)

pub record_on-requires-clause-channels : goal.record_on-requires-clause-channels
record_on-requires-clause-channels g c =
    let there = is_there c.args.conn.now.devices c.args.job.now.device c.in-Ok.device c.in-Ok.ensures.value in
    rw c.at_rate.ensures (ap channels_or_one there.get)

pub returns-in-Err-clause-step : goal.returns-in-Err-clause-step
returns-in-Err-clause-step g c input told device there = inl (record { front = []; rest = _; whole = refl; appended = appended_none _ })

pub returns-in-Ok-record_on-clause-step : goal.returns-in-Ok-record_on-clause-step
returns-in-Ok-record_on-clause-step g c input told device there =
    let t = is_there c.args.conn.now.devices c.args.job.now.device c.in-Ok.device c.in-Ok.ensures.value in
    records_for c.args.job.now (sym t.get ∙ there) (λ bad. cc bad) (rw c.at_rate.ensures at (c.in-Ok-record_on.ensures.step input told))

pub returns-in-Err-record_on-clause-step : goal.returns-in-Err-record_on-clause-step
returns-in-Err-record_on-clause-step g c input told device there =
    let t = is_there c.args.conn.now.devices c.args.job.now.device c.in-Ok.device c.in-Ok.ensures.value in
    records_for c.args.job.now (sym t.get ∙ there) (λ bad. cc bad) (rw c.at_rate.ensures at (c.in-Err-record_on.ensures.step input told))
