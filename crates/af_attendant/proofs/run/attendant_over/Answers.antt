use Rattle.std.proofs.Common.{◌≡◌, ◌∙◌, ap, inl, inr}
use Rattle.af_answer.specs.declared.end.AnswerEnd.TheVariants as end
use Rattle.af_answer.specs.AnswerTrace.{connection_end}
use Rattle.af_attendant.specs.AttendantParts.{seen_as}
use Rattle.af_answer.proofs.MachineLemmas.{fault_ends}
use Rattle.af_attendant.proofs.RunLemmas.{not_set_up_ran, set_up_ran}
use Rattle.af_attendant.proofs.run.attendant_over.Goals as goal

pub returns-in-Ok-clause-ran : goal.returns-in-Ok-clause-ran
returns-in-Ok-clause-ran g c input told =
    let e = c.in-Ok.ensures in
    let same : c.into_link.result ≡ c.attend_line-end.new.conn.link = c.into_link.ensures in
    rw same (inr (set_up_ran c.args.job.now c.in-Ok.conn e.0 e.1 e.3 told (λ i t. c.attend_line-end.ensures.ran i t)))

pub returns-in-Err-clause-ran : goal.returns-in-Err-clause-ran
returns-in-Err-clause-ran g c input told =
    elim (c.in-Err.ensures) [
      | inl none ↦
          let way : c.from.result ≡ end.OutOfMemory = c.from.ensures ∙ ap connection_end none.0 in
          inl (way, ap (λ l. seen_as (g.L.Link.sent l) (g.S.HeldCommands.acts c.args.commands.now) (g.K.Sink.held c.args.sink.now)) none.1)
      | inr setup ↦
          let way : c.from.result ≡ connection_end c.in-Err.fault = c.from.ensures in
          rw way (inr (not_set_up_ran c.args.job.now setup.1 told))
    ]

pub returns-in-Err-clause-end : goal.returns-in-Err-clause-end
returns-in-Err-clause-end g c = let way : c.from.result ≡ connection_end c.in-Err.fault = c.from.ensures in rw way (fault_ends c.in-Err.fault)
