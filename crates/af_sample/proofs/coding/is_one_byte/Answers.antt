use Rattle.std.proofs.lemmas.Bool.Decides.{Decides-eqb}
use Rattle.std.proofs.lemmas.Slice.Eq.{slice_eq-Decides}
use Rattle.af_sample.proofs.ConstantRunLemmas.{constant}
use Rattle.af_sample.proofs.coding.is_one_byte.Goals as goal

pub returns : goal.returns
returns c = λ alike. constant 0 c.args.run.now ((slice_eq-Decides Decides-eqb _ _ _ c.eq.ensures).0 alike)
