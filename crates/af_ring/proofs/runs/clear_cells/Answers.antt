use Rattle.std.proofs.Common.{◌≡◌, ◌-◌, length, pos, refl, arith}
use Rattle.std.proofs.lemmas.List.{places}
use Rattle.af_ring.proofs.RunPartLemmas.{run_written}
use Rattle.af_ring.proofs.runs.clear_cells.Goals as goal

pub returns : goal.returns
returns c =
    let some = c.requires.size.some in
    let long : length c.fill.new.self ≡ c.first_part-start.result.1 = grind (arith, places, c.fill.ensures.len, c.first_part-start.ensures.start, c.first_part-start.ensures.count) in
    let long' : length c.fill-2.new.self ≡ c.args.n - c.first_part-start.result.1 = grind (arith, places, c.fill-2.ensures.len, c.first_part-start.ensures.start, c.first_part-start.ensures.count) in
    let size = c.fill.ensures.len in
    let size' = c.fill-2.ensures.len in
    run_written c.args.cells.now c.fill.new.self c.fill-2.new.self c.args.t.0 c.args.n c.first_part-start.result.0 c.first_part-start.result.1 _ _ (λ _ _. pos 0)
    c.first_part-start.ensures.start c.first_part-start.ensures.count (omega arith) c.requires.count (omega arith) (omega arith) long long'
    (λ j low. c.fill.ensures.clones j (pos 0) (omega arith) refl) (λ j low. c.fill-2.ensures.clones j (pos 0) (omega arith) refl)
