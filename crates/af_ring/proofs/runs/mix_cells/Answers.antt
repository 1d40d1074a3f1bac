use Rattle.std.proofs.Common.{◌+◌, ◌-◌, length, pos, get_or, ap, ◌∙◌, get_or-drop, arith}
use Rattle.std.proofs.lemmas.List.{get_or-take}
use Rattle.af_sample.specs.Mixing.{mixed}
use Rattle.af_ring.proofs.RunPartLemmas.{length-written, part_joined, run_written}
use Rattle.af_ring.proofs.runs.mix_cells.Goals as goal

pub returns : goal.returns
returns c =
    let some = c.requires.size.some in
    let place = c.first_part-start.ensures.start in
    let count = c.first_part-start.ensures.count in
    let start = c.first_part-start.result.0 in
    let first = c.first_part-start.result.1 in
    let front = part_joined c.args.cells.now c.split_at.result.0.now c.mix_into.new.onto start _ first mixed (λ j. get_or c.args.samples.now j (pos 0)) (omega arith) (omega arith) (omega arith) c.mix_into.ensures
    (λ j low. ap (λ xs. get_or xs j (pos 0)) c.split_at.ensures.front ∙ get_or-take first c.args.samples.now j (pos 0) low) in
    let size = length-written c.args.cells.now c.mix_into.new.onto start (start + first - start) (omega arith) (front.0 ∙ omega arith) in
    let back = part_joined _ c.split_at.result.1.now c.mix_into-2.new.onto 0 _ (length c.args.samples.now - first) mixed (λ j. get_or c.args.samples.now (first + j) (pos 0)) (omega arith) (omega arith) (omega arith) c.mix_into-2.ensures
    (λ j low. ap (λ xs. get_or xs j (pos 0)) c.split_at.ensures.back ∙ get_or-drop first c.args.samples.now j (pos 0)) in
    run_written c.args.cells.now c.mix_into.new.onto c.mix_into-2.new.onto c.args.t.0 (length c.args.samples.now) start first _ _ (λ k x. mixed x (get_or c.args.samples.now k (pos 0)))
    place count (omega arith) c.requires.count (omega arith) (omega arith) front.0 back.0 front.1 back.1
