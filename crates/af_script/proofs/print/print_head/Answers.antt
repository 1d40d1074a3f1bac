use Rattle.af_script.proofs.PrintLemmas.{added_on, cut_on, cut_more, prints_failed, prints_on}
use Rattle.af_script.proofs.print.print_head.Goals as goal

pub returns-in_err-put : goal.returns-in_err-put
returns-in_err-put g c =
    prints_failed _ _ _ _ c.from_residual.ensures.0 (cut_more _ _ _ _ (cut_more _ _ _ _ (cut_more _ _ _ _ c.in_err-put.ensures)))

pub returns-in_err-put-2 : goal.returns-in_err-put-2
returns-in_err-put-2 g c =
    prints_failed _ _ _ _ c.from_residual-in_err-put-2.ensures.0
    (cut_more _ _ _ _ (cut_more _ _ _ _ (cut_on _ _ _ _ _ c.in_ok-put.ensures c.in_err-put-2.ensures)))

pub returns-in_err-print_number : goal.returns-in_err-print_number
returns-in_err-print_number g c =
    prints_failed _ _ _ _ c.from_residual-in_err-print_number.ensures.0
    (cut_more _ _ _ _ (cut_on _ _ _ _ _ (added_on _ _ _ _ _ c.in_ok-put.ensures c.in_ok-put-2.ensures) c.in_err-print_number.ensures))

pub returns : goal.returns
returns g c =
    prints_on _ _ _ _ _ _
    (added_on _ _ _ _ _ (added_on _ _ _ _ _ c.in_ok-put.ensures c.in_ok-put-2.ensures) c.in_ok-print_number.ensures)
    c.put-3.ensures
