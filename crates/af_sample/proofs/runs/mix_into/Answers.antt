use Rattle.std.proofs.Common.{◌++◌, ◌∙◌, ap₂, arith, ℤ, List}
use Rattle.std.proofs.lemmas.List.{take-append-drop}
use lib.Lanes.{zip2}
use Rattle.af_sample.specs.Mixing.{mixed}
use Rattle.af_sample.proofs.VectorLemmas.{joined_parts}
use Rattle.af_sample.proofs.runs.mix_into.Goals as goal

pub returns : goal.returns
returns c =
    let onto = c.split_at_mut-onto_vectors.result in
    let from = c.split_at.result in
    let parts = c.split_at_mut-onto_vectors.ensures in
    let others = c.split_at.ensures in
    let join : List ℤ → List ℤ → List ℤ = λ front back. front ++ back in
    ap₂ join c.mix_vectors.ensures c.mix_each.ensures
    ∙ joined_parts mixed onto.0.now onto.1.now from.0.now from.1.now (omega arith)
    ∙ ap₂ (zip2 mixed) (ap₂ join parts.front parts.back ∙ take-append-drop _ c.args.onto.now) (ap₂ join others.front others.back ∙ take-append-drop _ c.args.from.now)
