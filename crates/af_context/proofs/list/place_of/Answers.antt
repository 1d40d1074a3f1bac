use Rattle.std.proofs.Common.{◌≡◌, ◌==◌, position, subst, sym, rules}
use Rattle.std.specs.Option.{ok_or}
use Rattle.af_context.specs.declared.ContextFault.TheVariants.{BadAc}
use Rattle.af_context.specs.Contexts.{IsPlaceOf}
use Rattle.af_context.proofs.ContextLemmas.{IsPlaceOf-position}
use Rattle.af_context.proofs.list.place_of.Goals as goal

pub returns : goal.returns
returns c =
    let found : c.ok_or.result ≡ ok_or (position (λ x. x.ac == c.args.ac) c.args.contexts.now) BadAc = search rules in
    subst (IsPlaceOf c.args.contexts.now c.args.ac) (sym found) (IsPlaceOf-position c.args.contexts.now c.args.ac)
