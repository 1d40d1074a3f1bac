use Rattle.std.proofs.Common.{rules, ◌≡◌, ◌≤◌, true, ap, subst, ◌∙◌}
use Rattle.std.proofs.Math.Nat.{le_refl}
use Rattle.af_world.specs.declared.world.LinkTook.TheVariants.{Failed}
use Rattle.af_live.specs.LinkTable.{is_free, link_at, KeepsOpen}
use Rattle.af_backend.specs.Backends.{all_without_bytes}
use Rattle.af_live.specs.Counting.{CountsOne}
use Rattle.af_lines.specs.HeldLines.{all_line_orders}
use Rattle.af_live.specs.RealWorld.{RealState}
use Rattle.af_live.proofs.StreamsLemmas.{apart_of, write_own}
use Rattle.af_live.proofs.mio_world.MioWorldWorld.write.Goals as goal

pub returns-clause-leads : goal.returns-clause-leads
returns-clause-leads g c = let v = c.self.view_is in record {
  listens = c.write_link-took.ensures.listens ∙ ap (λ (s : RealState). s.listens) v;
  backends = ap (λ (s : RealState). all_without_bytes s.backends) v;
  orders = ap (λ (s : RealState). s.codec.orders) v;
  round = ap (λ (s : RealState). s.round) v;
  lines = (ap (λ (s : RealState). all_line_orders s.lines.lines) v, ap (λ (s : RealState). s.lines.next) v);
  link_faults = subst (λ (s : RealState). s.link_faults ≤ c.count_took.new.faults) v c.count_took.ensures.cause.0;
  device_faults = subst (λ (s : RealState). s.device_faults ≤ c.self.inside.device_faults) v (le_refl c.self.inside.device_faults);
  listen_faults = ap (λ (s : RealState). s.listen_faults) v;
  wait_faults = ap (λ (s : RealState). s.wait_faults) v;
}

pub invariant_of-self : goal.invariant_of-self
invariant_of-self g c =
    write_own c.self.inside.sockets c.write_link-took.new.sockets c.self.inside.links c.write_link-took.new.links _ _ _ c.write_link-took.ensures.streams c.write_link-took.ensures.after c.self.invariant

pub returns-clause-step : goal.returns-clause-step
returns-clause-step g c = record {
  faults = subst (λ (s : RealState). CountsOne (c.write_link-took.result ≡ Failed) s.link_faults c.count_took.new.faults) c.self.view_is c.count_took.ensures;
  keeps_open = subst (λ (s : RealState). KeepsOpen s.links c.write_link-took.new.links) c.self.view_is c.write_link-took.ensures.open;
  unheld = subst (λ (s : RealState). is_free (link_at s.links c.args.link) ≡ true → c.write_link-took.result ≡ Failed) c.self.view_is c.write_link-took.ensures.unheld;
  after = search rules;
  apart = apart_of c.write_link-took.new.sockets c.write_link-took.new.links (write_own c.self.inside.sockets c.write_link-took.new.sockets c.self.inside.links c.write_link-took.new.links _ _ _ c.write_link-took.ensures.streams c.write_link-took.ensures.after c.self.invariant);
  rest = search rules;
}
