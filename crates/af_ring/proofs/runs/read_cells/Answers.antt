use Rattle.std.proofs.Common.{◌+◌, length, pos, get_or, drop, ap, ◌∙◌, get_or-drop, arith}
use Rattle.std.proofs.lemmas.List.{get_or-take}
use Rattle.af_ring.proofs.RunPartLemmas.{reads_run}
use Rattle.af_ring.proofs.runs.read_cells.Goals as goal

pub returns : goal.returns
returns c =
    let some = c.requires.size.some in
    let front_long = c.copy_from_slice.ensures.len in
    let back_long = c.copy_from_slice-2.ensures.len in
    let front_parts = c.split_at_mut-before_end.ensures.front_len in
    let back_parts = c.split_at_mut-before_end.ensures.back_len in
    reads_run c.args.cells.now c.copy_from_slice.new.self c.copy_from_slice-2.new.self c.args.t.0 (length c.args.out.now) c.first_part-start.result.1 c.first_part-start.ensures.count c.requires.count
    (omega arith) (omega arith)
    (λ j low. ap (λ xs. get_or xs j (pos 0)) c.copy_from_slice.ensures.after ∙ get_or-take _ (drop c.first_part-start.result.0 c.args.cells.now) j (pos 0) (omega arith)
    ∙ get_or-drop c.first_part-start.result.0 c.args.cells.now j (pos 0) ∙ ap (λ i. get_or c.args.cells.now (i + j) (pos 0)) c.first_part-start.ensures.start)
    (λ j low. ap (λ xs. get_or xs j (pos 0)) c.copy_from_slice-2.ensures.after ∙ get_or-take _ c.args.cells.now j (pos 0) (omega arith))
