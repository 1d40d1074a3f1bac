use Rattle.std.proofs.Common.{rules, ◌≡◌, ◌∙◌, true, false, sym}
use Rattle.af_events.proofs.StepLemmas.{asked_goes, cut_goes, unasked_goes}
use Rattle.af_events.proofs.tell.tell_one.Goals as goal

pub returns-then-not-asks_for-clause-goes : goal.returns-then-not-asks_for-clause-goes
returns-then-not-asks_for-clause-goes g c =
    let other : c.asks_for.result ≡ false = search rules in
    unasked_goes g.K.Sink.held c.args.job.now c.args.left c.args.event c.args.sink.now (sym c.asks_for.ensures ∙ other)

pub returns-in_err-write_piece-clause-goes : goal.returns-in_err-write_piece-clause-goes
returns-in_err-write_piece-clause-goes g c =
    let asked : c.asks_for.result ≡ true = search rules in
    cut_goes g.K.Sink.held c.args.job.now c.args.left c.args.event c.args.sink.now c.write_piece.new.sink _ _ (search rules) (sym c.asks_for.ensures ∙ asked) c.write_event_line-length.ensures.bytes c.in_err-write_piece.ensures.written

pub returns-clause-goes : goal.returns-clause-goes
returns-clause-goes g c =
    let asked : c.asks_for.result ≡ true = search rules in
    asked_goes g.K.Sink.held c.args.job.now c.args.left c.args.event c.args.sink.now c.write_piece.new.sink _ _ (sym c.asks_for.ensures ∙ asked) c.write_event_line-length.ensures.bytes c.in_ok-write_piece.ensures.written
