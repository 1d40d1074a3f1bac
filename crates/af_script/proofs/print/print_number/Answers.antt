use Rattle.std.proofs.Common.{◌<◌, length, arith, sym, ◌∙◌, subst}
use Rattle.af_script.specs.Printing.{Prints, printer_with}
use Rattle.af_script.proofs.PrintLemmas.{some_digit}
use Rattle.af_script.proofs.print.print_number.Goals as goal

pub put-requires : goal.put-requires
put-requires g c =
    subst (λ t. 0 < length t) (sym (c.as_bytes.ensures.value ∙ c.format.ensures.text)) (some_digit c.args.number (omega arith))

pub returns : goal.returns
returns g c =
    subst (λ t. Prints c.put.result (printer_with (g.K.Sink.held c.args.sink.now) (g.K.Sink.faults c.args.sink.now)) t (printer_with (g.K.Sink.held c.put.new.sink) (g.K.Sink.faults c.put.new.sink)))
    (c.as_bytes.ensures.value ∙ c.format.ensures.text) c.put.ensures
