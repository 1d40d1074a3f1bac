use Rattle.std.proofs.Common.{arith}
use Rattle.af_script.proofs.PrintLemmas.{prints_failed, log_cut}
use Rattle.af_script.proofs.print.print_all.Goals as goal

pub returns-in_err-print_happening : goal.returns-in_err-print_happening
returns-in_err-print_happening g c =
    prints_failed _ _ _ _ c.from_residual.ensures.0
    (log_cut c.args.log.now c.loop-happening.happening-index c.happening-item.result _ _ _ (omega (arith, c.loop-happening-test.true)) c.happening-item.is c.loop-happening.invariant c.in_err-print_happening.ensures)
