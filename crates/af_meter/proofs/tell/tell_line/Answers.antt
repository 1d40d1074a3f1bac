use Rattle.std.proofs.Common.{rules}
use Rattle.af_meter.proofs.TellLemmas.{cut_goes, line_goes}
use Rattle.af_meter.proofs.tell.tell_line.Goals as goal

pub returns-in_err-write_piece-clause-goes : goal.returns-in_err-write_piece-clause-goes
returns-in_err-write_piece-clause-goes g c =
    cut_goes g.K.Sink.held c.args.at.0 c.args.left c.args.levels.now _ c.args.sink.now c.write_piece.new.sink c.write_line-length.ensures.bytes _ (search rules) c.in_err-write_piece.ensures.written

pub returns-clause-goes : goal.returns-clause-goes
returns-clause-goes g c =
    line_goes g.K.Sink.held c.args.at.0 c.args.left c.args.levels.now _ c.args.sink.now c.write_piece.new.sink c.write_line-length.ensures.bytes _ c.in_ok-write_piece.ensures.written
