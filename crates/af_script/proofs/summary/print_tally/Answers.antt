use Rattle.af_script.proofs.PrintLemmas.{added_on, cut_on, cut_more, prints_failed, prints_on}
use Rattle.af_script.proofs.summary.print_tally.Goals as goal

pub returns-in_err-print_count : goal.returns-in_err-print_count
returns-in_err-print_count g c =
    prints_failed _ _ _ _ c.from_residual.ensures.0
    (cut_more _ _ _ _ (cut_more _ _ _ _ (cut_more _ _ _ _ (cut_more _ _ _ _ c.in_err-print_count.ensures))))

pub returns-in_err-print_count-2 : goal.returns-in_err-print_count-2
returns-in_err-print_count-2 g c =
    prints_failed _ _ _ _ c.from_residual-in_err-print_count-2.ensures.0
    (cut_more _ _ _ _ (cut_more _ _ _ _ (cut_more _ _ _ _ (cut_on _ _ _ _ _ c.in_ok-print_count.ensures c.in_err-print_count-2.ensures))))

pub returns-in_err-print_count-3 : goal.returns-in_err-print_count-3
returns-in_err-print_count-3 g c =
    prints_failed _ _ _ _ c.from_residual-in_err-print_count-3.ensures.0
    (cut_more _ _ _ _ (cut_more _ _ _ _ (cut_on _ _ _ _ _
    (added_on _ _ _ _ _ c.in_ok-print_count.ensures c.in_ok-print_count-2.ensures) c.in_err-print_count-3.ensures)))

pub returns-in_err-print_count-4 : goal.returns-in_err-print_count-4
returns-in_err-print_count-4 g c =
    prints_failed _ _ _ _ c.from_residual-in_err-print_count-4.ensures.0
    (cut_more _ _ _ _ (cut_on _ _ _ _ _
    (added_on _ _ _ _ _ (added_on _ _ _ _ _ c.in_ok-print_count.ensures c.in_ok-print_count-2.ensures) c.in_ok-print_count-3.ensures)
    c.in_err-print_count-4.ensures))

pub returns : goal.returns
returns g c =
    prints_on _ _ _ _ _ _
    (added_on _ _ _ _ _
    (added_on _ _ _ _ _ (added_on _ _ _ _ _ c.in_ok-print_count.ensures c.in_ok-print_count-2.ensures) c.in_ok-print_count-3.ensures)
    c.in_ok-print_count-4.ensures)
    c.print_count-5.ensures
