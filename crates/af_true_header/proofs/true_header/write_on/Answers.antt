use Rattle.af_true_header.proofs.KeptLemmas.{wrote_holds, wrote_written}
use Rattle.af_true_header.proofs.true_header.write_on.Goals as goal

pub returns-clause-holds : goal.returns-clause-holds
returns-clause-holds g c =
    wrote_holds c.args.stage.now c.after.result c.args.piece.now c.write-put.result (g.K.Sink.held c.args.sink.now) (g.K.Sink.held c.write-put.new.self)
    c.requires.stage c.after.ensures.stage c.requires.holds c.after.ensures.after c.write-put.ensures.written

pub returns-clause-written : goal.returns-clause-written
returns-clause-written g c =
    wrote_written c.args.stage.now c.after.result c.args.piece.now c.write-put.result (g.K.Sink.held c.args.sink.now) (g.K.Sink.held c.write-put.new.self)
    c.requires.stage c.after.ensures.stage c.requires.holds c.after.ensures.after c.write-put.ensures.written
