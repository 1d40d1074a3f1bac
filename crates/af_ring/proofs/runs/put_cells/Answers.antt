use Rattle.std.proofs.Common.{length, pos, get_or, ap, ◌∙◌, get_or-drop, arith}
use Rattle.std.proofs.lemmas.List.{get_or-take}
use Rattle.af_ring.proofs.RunPartLemmas.{run_written}
use Rattle.af_ring.proofs.runs.put_cells.Goals as goal

pub returns : goal.returns
returns c =
    let some = c.requires.size.some in
    let front = c.copy_from_slice.ensures.after in
    let back = c.copy_from_slice-2.ensures.after in
    let front_long = ap length front in
    let back_long = ap length back in
    run_written c.args.cells.now c.copy_from_slice.new.self c.copy_from_slice-2.new.self c.args.t.0 (length c.args.samples.now) c.first_part-start.result.0 c.first_part-start.result.1 _ _ (λ k _. get_or c.args.samples.now k (pos 0))
    c.first_part-start.ensures.start c.first_part-start.ensures.count (omega arith) c.requires.count (omega arith) (omega arith) (omega arith) (omega arith)
    (λ j low. ap (λ xs. get_or xs j (pos 0)) (front ∙ c.split_at.ensures.front) ∙ get_or-take c.first_part-start.result.1 c.args.samples.now j (pos 0) low)
    (λ j low. ap (λ xs. get_or xs j (pos 0)) (back ∙ c.split_at.ensures.back) ∙ get_or-drop c.first_part-start.result.1 c.args.samples.now j (pos 0))
