use Rattle.std.proofs.Common.{List, ℕ, subst}
use Rattle.af_toolkit.specs.Ends.{Writes}
use Rattle.af_toolkit.proofs.StepLemmas.{writes_end}
use Rattle.af_standing.proofs.lister.report.Goals as goal

pub returns-clause-written : goal.returns-clause-written
returns-clause-written g c =
    subst (λ (l : List ℕ). Writes g.K.Sink.held l c.write_piece.result c.args.sink.now c.write_piece.new.sink) c.write_device_line-length.ensures.bytes c.write_piece.ensures.written

pub returns-clause-end : goal.returns-clause-end
returns-clause-end g c = writes_end g.K.Sink.held _ c.write_piece.result c.args.sink.now c.write_piece.new.sink c.write_piece.ensures.written
