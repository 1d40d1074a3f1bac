use Rattle.std.proofs.Common.{pos}
use Rattle.std.proofs.lemmas.Bool.Decides.{Decides-int_eq}
use Rattle.std.proofs.lemmas.Slice.Eq.{slice_eq-Decides}
use Rattle.af_sample.proofs.ConstantRunLemmas.{constant}
use Rattle.af_sample.proofs.coding.is_one_sample.Goals as goal

pub returns : goal.returns
returns c = λ alike. constant (pos 0) c.args.run.now ((slice_eq-Decides Decides-int_eq _ _ _ c.eq.ensures).0 alike)
