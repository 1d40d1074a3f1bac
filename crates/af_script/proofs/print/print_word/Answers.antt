use Rattle.af_script.proofs.PrintLemmas.{added_on, cut_on, cut_more, prints_failed, prints_on}
use Rattle.af_script.proofs.print.print_word.Goals as goal

pub returns-in_err-print_head : goal.returns-in_err-print_head
returns-in_err-print_head g c =
    prints_failed _ _ _ _ c.from_residual.ensures.0 (cut_more _ _ _ _ (cut_more _ _ _ _ c.in_err-print_head.ensures))

pub returns-in_err-put : goal.returns-in_err-put
returns-in_err-put g c =
    prints_failed _ _ _ _ c.from_residual-in_err-put.ensures.0
    (cut_more _ _ _ _ (cut_on _ _ _ _ _ c.in_ok-print_head.ensures c.in_err-put.ensures))

pub returns : goal.returns
returns g c = prints_on _ _ _ _ _ _ (added_on _ _ _ _ _ c.in_ok-print_head.ensures c.in_ok-put.ensures) c.put-2.ensures
