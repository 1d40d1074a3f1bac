use Rattle.std.proofs.Common.{length}
use Rattle.hex.specs.Hex.{encode_lower}
use Rattle.af_script.specs.Printing.{printer_with}
use Rattle.af_script.proofs.PrintLemmas.{PrintedFront}
use Rattle.af_script.proofs.print.print_hex.Given as goal

abbrev pub invariant-loop-rest : goal.invariant-loop-rest
invariant-loop-rest g l =
    PrintedFront encode_lower l.bytes l.rest (printer_with (g.K.Sink.held l.fn.sink) (g.K.Sink.faults l.fn.sink)) (printer_with (g.K.Sink.held l.sink) (g.K.Sink.faults l.sink))

abbrev pub decreases-loop-rest : goal.decreases-loop-rest
decreases-loop-rest g l = length l.rest
