use Rattle.std.proofs.Common.{◌≡◌, MatchOption, subst}
use Rattle.std.specs.declared.option.Option.TheVariants.{None, Some}
use Rattle.af_backend.specs.Backends.{backend_at, card_of}
use Rattle.af_backend.specs.CardUse.{card_use}
use Rattle.af_live.specs.RealWorld.{RealState}
use Rattle.af_live.proofs.mio_world.MioWorld.card.Goals as goal

pub returns : goal.returns
returns g c = subst (λ (s : RealState). MatchOption c.card.result (card_of (backend_at s.backends c.args.device) ≡ None)
    (λ card. card_of (backend_at s.backends c.args.device) ≡ Some (card_use g.G.Made.Program.acts card.now)))
    c.self.view_is c.card.ensures
