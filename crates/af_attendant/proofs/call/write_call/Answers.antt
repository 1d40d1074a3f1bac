use Rattle.std.proofs.Common.{ℕ, List, refl, sym, subst, ap, ◌∙◌}
use Rattle.af_io.specs.declared.flow.Put.TheVariants as puts
use Rattle.af_io.specs.Flow.{Written as Wrote}
use Rattle.af_attendant.specs.Ran.{call_line}
use Rattle.af_attendant.specs.AttendantTrace.{writes_call, writes}
use Rattle.af_attendant.proofs.AttendantStepLemmas.{written_went}
use Rattle.af_attendant.proofs.StandingLemmas.{by_line, went_as}
use Rattle.af_attendant.specs.Line.{LineState, call_digits}
use Rattle.af_attendant.proofs.call.write_call.Goals as goal

pub report_call-requires : goal.report_call-requires
report_call-requires g c = c.call_digits.ensures.few

pub returns-in-Done-clause-wrote : goal.returns-in-Done-clause-wrote
unfolding writes_call
returns-in-Done-clause-wrote g c link acts =
    went_as (by_line (λ (l : LineState). writes (call_line c.args.call c.args.time.0 (call_digits l) c.args.runs)) (record { link = link; acts = acts; held = g.K.Sink.held c.args.sink.now; line = c.args.line.now }) refl)
    (written_went _ puts.Done (subst (λ (d : List ℕ). Wrote puts.Done (g.K.Sink.held c.args.sink.now) (call_line c.args.call c.args.time.0 d c.args.runs) (g.K.Sink.held c.report_call.new.sink)) c.call_digits.ensures.digits c.in-Done.ensures.wrote))

pub returns-in-Failed-clause-wrote : goal.returns-in-Failed-clause-wrote
unfolding writes_call
returns-in-Failed-clause-wrote g c link acts =
    went_as (by_line (λ (l : LineState). writes (call_line c.args.call c.args.time.0 (call_digits l) c.args.runs)) (record { link = link; acts = acts; held = g.K.Sink.held c.args.sink.now; line = c.args.line.now }) refl)
    (written_went _ puts.Failed (subst (λ (d : List ℕ). Wrote puts.Failed (g.K.Sink.held c.args.sink.now) (call_line c.args.call c.args.time.0 d c.args.runs) (g.K.Sink.held c.report_call.new.sink)) c.call_digits.ensures.digits c.in-Failed.ensures.wrote))
