use Rattle.std.proofs.Common.{take}
use Rattle.af_script.specs.Transcript.{transcript}
use Rattle.af_script.specs.Printing.{Added, printer_with}
use Rattle.af_script.proofs.print.print_all.Given as goal

abbrev pub invariant-loop-happening : goal.invariant-loop-happening
invariant-loop-happening g l =
    Added (printer_with (g.K.Sink.held l.fn.sink) (g.K.Sink.faults l.fn.sink)) (transcript (take l.happening-index l.log)) (printer_with (g.K.Sink.held l.sink) (g.K.Sink.faults l.sink))
