use Rattle.af_script.proofs.PrintLemmas.{added_on, cut_on, cut_more, prints_failed, prints_on}
use Rattle.af_script.proofs.print.print_bytes.Goals as goal

pub returns-in_err-print_head : goal.returns-in_err-print_head
returns-in_err-print_head g c =
    prints_failed _ _ _ _ c.from_residual.ensures.0 (cut_more _ _ _ _ (cut_more _ _ _ _ c.in_err-print_head.ensures))

pub returns-in_err-print_hex : goal.returns-in_err-print_hex
returns-in_err-print_hex g c =
    prints_failed _ _ _ _ c.from_residual-in_err-print_hex.ensures.0
    (cut_more _ _ _ _ (cut_on _ _ _ _ _ c.in_ok-print_head.ensures c.in_err-print_hex.ensures))

pub returns : goal.returns
returns g c = prints_on _ _ _ _ _ _ (added_on _ _ _ _ _ c.in_ok-print_head.ensures c.in_ok-print_hex.ensures) c.put.ensures
