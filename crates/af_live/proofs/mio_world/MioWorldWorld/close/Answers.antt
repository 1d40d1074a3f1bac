use Rattle.std.proofs.Common.{rules, refl, subst}
use Rattle.af_live.specs.LinkTable.{link_at, ClosesOne}
use Rattle.af_live.specs.RealWorld.{RealState}
use Rattle.af_live.proofs.StreamsLemmas.{apart_of, closed_own}
use Rattle.af_live.proofs.mio_world.MioWorldWorld.close.Goals as goal

pub invariant_of-self : goal.invariant_of-self
invariant_of-self g c =
    closed_own c.self.inside.sockets c.close_link.new.sockets c.self.inside.links c.close_link.new.links c.args.link
    (link_at c.self.inside.links c.args.link) refl c.close_link.ensures.streams c.close_link.ensures.closes c.self.invariant

pub returns-clause-step : goal.returns-clause-step
returns-clause-step g c = record {
  closed = subst (λ (s : RealState). ClosesOne c.args.link s.links c.close_link.new.links) c.self.view_is c.close_link.ensures.closes;
  apart = apart_of c.close_link.new.sockets c.close_link.new.links
      (closed_own c.self.inside.sockets c.close_link.new.sockets c.self.inside.links c.close_link.new.links c.args.link
      (link_at c.self.inside.links c.args.link) refl c.close_link.ensures.streams c.close_link.ensures.closes c.self.invariant);
  rest = search rules;
}
