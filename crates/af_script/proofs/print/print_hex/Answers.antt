use Rattle.af_script.proofs.PrintLemmas.{hex_start, hex_more, hex_cut, prints_failed}
use Rattle.af_script.proofs.print.print_hex.Goals as goal

pub loop-rest-init : goal.loop-rest-init
loop-rest-init g c = hex_start _ _

pub returns-in_err-print_chunk : goal.returns-in_err-print_chunk
returns-in_err-print_chunk g c =
    prints_failed _ _ _ _ c.from_residual.ensures.0
    (hex_cut _ _ _ _ _ _ _ _ c.loop-rest.invariant c.split_at.ensures.front c.split_at.ensures.back c.in_err-print_chunk.ensures)

pub loop-rest-preserved : goal.loop-rest-preserved
loop-rest-preserved g c =
    hex_more _ _ _ _ _ _ _ _ c.loop-rest.invariant c.split_at.ensures.front c.split_at.ensures.back c.in_ok-print_chunk.ensures
