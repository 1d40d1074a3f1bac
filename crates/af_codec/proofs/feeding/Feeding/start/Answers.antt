use Rattle.std.proofs.Common.{refl, arith}
use Rattle.af_process.specs.declared.act.BeganGot.TheVariants.{Child}
use Rattle.af_codec.proofs.EmitLemmas.{Starts-made}
use Rattle.af_codec.proofs.feeding.Feeding.start.Goals as goal

pub overflow_add-self : goal.overflow_add-self
overflow_add-self g c = omega (arith, c.requires.left.within, c.words.ensures.bound)

pub overflow_add-self-in-Failed : goal.overflow_add-self-in-Failed
overflow_add-self-in-Failed g c = omega (arith, c.requires.left.within, c.words.ensures.bound)

pub returns-in-Child-clause-starts : goal.returns-in-Child-clause-starts
returns-in-Child-clause-starts g c = Starts-made _ _ _ _ (Child c.in-Child.child) _ _ c.if-is_some.ensures c.words.ensures.words refl c.in-Child.ensures.acts
