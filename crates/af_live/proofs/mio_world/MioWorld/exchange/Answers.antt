use Rattle.std.proofs.Common.{◌≡◌, MatchOption, subst}
use Rattle.std.specs.declared.option.Option.TheVariants.{None, Some}
use Rattle.af_lines.specs.ExchangeUse.{exchange_use}
use Rattle.af_lines.specs.HeldLines.{exchange_of, line_at}
use Rattle.af_live.specs.RealWorld.{RealState}
use Rattle.af_live.proofs.mio_world.MioWorld.exchange.Goals as goal

pub returns : goal.returns
returns g c = subst (λ (s : RealState). MatchOption c.exchange.result (exchange_of (line_at s.lines.lines c.args.device) ≡ None)
    (λ exchange. exchange_of (line_at s.lines.lines c.args.device) ≡ Some (exchange_use g.G.Made.Program.acts exchange.now)))
    c.self.view_is c.exchange.ensures
