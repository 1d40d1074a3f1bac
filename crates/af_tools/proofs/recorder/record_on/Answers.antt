use Rattle.std.proofs.Common.{rules, ◌≡◌, ℕ, List, Option, ◌++◌, ◌∙◌, sym, inl, inr, refl, subst, Ok, Err}
use Rattle.af_io.specs.Flow.{AppendedPrefix}
use Rattle.af_request.specs.Asked.{free_ac, get_time}
use Rattle.af_request.specs.Requests.{request_bytes}
use Rattle.af_toolkit.specs.declared.end.ToolEnd.TheVariants as end
use Rattle.af_toolkit.specs.Ends.{client_of}
use Rattle.af_tools.specs.Record.{record_context}
use Rattle.af_toolkit.proofs.PartLemmas.{goes_stop, goes_through, goes_value}
use Rattle.af_tools.proofs.DeviceChoiceLemmas.{context_asked}
use Rattle.af_toolkit.proofs.ToolPartLemmas.{is_tool}
use Rattle.af_tools.proofs.BegunLemmas.{sent_request, told_some}
use Rattle.af_tools.proofs.WriteStepLemmas.{begin_sent, begun_wrote, last_wrote, ok_no_fault, sink_failed, wrote_by}
use Rattle.af_tools.proofs.recorder.record_on.Goals as goal

pub returns-in_err-now-clause-goes : goal.returns-in_err-now-clause-goes
returns-in_err-now-clause-goes g c =
    let context = c.context_of-context.ensures in
    let asked = context_asked c.args.conn.now.devices c.context_of-context.result context.device c.requires.channels context.asked in
    goes_stop is_tool _ (search rules) (rw (asked, context.device) at (c.in_err-now.ensures.goes (g.K.Sink.held c.args.sink.now)))

pub returns-in_err-recording-clause-goes : goal.returns-in_err-recording-clause-goes
returns-in_err-recording-clause-goes g c =
    let context = c.context_of-context.ensures in
    let asked = context_asked c.args.conn.now.devices c.context_of-context.result context.device c.requires.channels context.asked in
    goes_through is_tool _ (rw (asked, context.device) at (c.in_ok-now.ensures.goes (g.K.Sink.held c.args.sink.now)))
    (goes_stop is_tool _ (search rules) (rw c.start_of-start.ensures at c.in_err-recording.ensures.goes))

pub returns-in_err-finish-clause-goes : goal.returns-in_err-finish-clause-goes
returns-in_err-finish-clause-goes g c =
    let context = c.context_of-context.ensures in
    let asked = context_asked c.args.conn.now.devices c.context_of-context.result context.device c.requires.channels context.asked in
    goes_through is_tool _ (rw (asked, context.device) at (c.in_ok-now.ensures.goes (g.K.Sink.held c.args.sink.now)))
    (goes_through is_tool _ (rw c.start_of-start.ensures at c.in_ok-recording.ensures.goes) (goes_stop is_tool _ (search rules) (c.in_err-finish.ensures.goes _)))

pub returns-clause-goes : goal.returns-clause-goes
returns-clause-goes g c =
    let context = c.context_of-context.ensures in
    let asked = context_asked c.args.conn.now.devices c.context_of-context.result context.device c.requires.channels context.asked in
    goes_through is_tool _ (rw (asked, context.device) at (c.in_ok-now.ensures.goes (g.K.Sink.held c.args.sink.now)))
    (goes_through is_tool _ (rw c.start_of-start.ensures at c.in_ok-recording.ensures.goes) (goes_through is_tool _ (c.in_ok-finish.ensures.goes _) (goes_value is_tool _)))

pub returns-in_err-now-clause-step : goal.returns-in_err-now-clause-step
returns-in_err-now-clause-step g c input told =
    let context = c.context_of-context.ensures in
    let asked = context_asked c.args.conn.now.devices c.context_of-context.result context.device c.requires.channels context.asked in
    inl (begin_sent _ _ (Err _) (rw (asked, context.device) at (c.in_err-now.ensures.goes (g.K.Sink.held c.args.sink.now))) (input, told, refl))

pub returns-in_err-recording-clause-step : goal.returns-in_err-recording-clause-step
returns-in_err-recording-clause-step g c input told =
    let context = c.context_of-context.ensures in
    let job = c.args.job.now in
    let w = client_of c.args.conn.now input in
    let asked = context_asked c.args.conn.now.devices c.context_of-context.result context.device c.requires.channels context.asked in
    let begun = rw (asked, context.device) at (c.in_ok-now.ensures.goes (g.K.Sink.held c.args.sink.now)) in
    let d = begun.came w (input, told, refl) in
    let same : c.from_residual-in_err-recording.result ≡ Err c.in_err-recording.field-0.0 = search rules in
    elim (c.in_err-recording.ensures.step d.1.0 d.1.1) [
      | inl none ↦ inl (subst (λ (o : Option (List ℕ)). AppendedPrefix (g.L.Link.sent c.args.conn.now.link) (request_bytes w.order (record_context job c.args.device) ++ request_bytes w.order (get_time job.device)) o) (sym none.1) (begin_sent _ _ (Ok _) begun (input, told, refl)))
      | inr s ↦ inr (begun_wrote job c.args.device (c.from_residual-in_err-recording.result ≡ Err end.SinkFault) c.start_of-start.ensures d.3 d.4.0 d.4.1 (sink_failed same) (wrote_by d.1.2 s.0).0).0
    ]

pub returns-in_err-finish-clause-step : goal.returns-in_err-finish-clause-step
returns-in_err-finish-clause-step g c input told =
    let context = c.context_of-context.ensures in
    let w = client_of c.args.conn.now input in
    let asked = context_asked c.args.conn.now.devices c.context_of-context.result context.device c.requires.channels context.asked in
    let begun = rw (asked, context.device) at (c.in_ok-now.ensures.goes (g.K.Sink.held c.args.sink.now)) in
    let d = begun.came w (input, told, refl) in
    let tells = told_some _ (c.in_ok-recording.ensures.holds.tells (c.in_ok-now.ensures.holds.tells (rw told refl))) in
    let freed = sent_request _ _ (Err _) (c.in_err-finish.ensures.goes (g.K.Sink.held c.args.sink.now)) (tells.0, tells.1, refl) in
    elim (c.in_ok-recording.ensures.step d.1.0 d.1.1) [
      | inl none ↦ absurd (none.0 refl)
      | inr s ↦
          let same = wrote_by d.1.2 s.0 in
          let first = begun_wrote c.args.job.now c.args.device ⊥ c.start_of-start.ensures d.3 d.4.0 d.4.1 ok_no_fault same.0 in
          inr (last_wrote c.write_recording.new.conn.order (free_ac 1) (λ bad. absurd bad) first.0 (first.1 ∙ same.1 ∙ s.1 refl) refl freed)
    ]

pub returns-clause-step : goal.returns-clause-step
returns-clause-step g c input told =
    let context = c.context_of-context.ensures in
    let w = client_of c.args.conn.now input in
    let asked = context_asked c.args.conn.now.devices c.context_of-context.result context.device c.requires.channels context.asked in
    let begun = rw (asked, context.device) at (c.in_ok-now.ensures.goes (g.K.Sink.held c.args.sink.now)) in
    let d = begun.came w (input, told, refl) in
    let tells = told_some _ (c.in_ok-recording.ensures.holds.tells (c.in_ok-now.ensures.holds.tells (rw told refl))) in
    let freed = sent_request _ _ (Ok _) (c.in_ok-finish.ensures.goes (g.K.Sink.held c.args.sink.now)) (tells.0, tells.1, refl) in
    elim (c.in_ok-recording.ensures.step d.1.0 d.1.1) [
      | inl none ↦ absurd (none.0 refl)
      | inr s ↦
          let same = wrote_by d.1.2 s.0 in
          let first = begun_wrote c.args.job.now c.args.device ⊥ c.start_of-start.ensures d.3 d.4.0 d.4.1 ok_no_fault same.0 in
          inr (last_wrote c.write_recording.new.conn.order (free_ac 1) (λ bad. absurd bad) first.0 (first.1 ∙ same.1 ∙ s.1 refl) refl freed)
    ]
