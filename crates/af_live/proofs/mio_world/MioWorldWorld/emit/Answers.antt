use Rattle.std.proofs.Common.{rules, ◌≡◌, ◌≤◌, ap, subst, ◌∙◌}
use Rattle.std.proofs.Math.Nat.{le_refl}
use Rattle.af_io.specs.declared.flow.Put.TheVariants.{Failed}
use Rattle.af_backend.specs.declared.devices.Devices.{Devices}
use Rattle.af_backend.specs.Backends.{all_without_bytes, EmitsAt}
use Rattle.af_live.specs.Counting.{CountsOne}
use Rattle.af_lines.specs.HeldLines.{all_line_orders}
use Rattle.af_live.specs.RealWorld.{RealState}
use Rattle.af_backend.proofs.BackendLemmas.{emits_same, emits_orders}
use Rattle.af_live.proofs.mio_world.MioWorldWorld.emit.Goals as goal

pub returns-clause-leads : goal.returns-clause-leads
returns-clause-leads g c = let v = c.self.view_is in record {
  listens = ap (λ (s : RealState). s.listens) v;
  backends = emits_same _ _ _ _ _ _ _ c.emit-put.ensures.emits ∙ ap (λ (s : RealState). all_without_bytes s.backends) v;
  orders = emits_orders _ _ _ _ _ _ _ c.emit-put.ensures.emits ∙ ap (λ (s : RealState). s.codec.orders) v;
  round = ap (λ (d : Devices _ _ _). d.round) c.emit-put.ensures.rest ∙ ap (λ (s : RealState). s.round) v;
  lines = (ap (λ (s : RealState). all_line_orders s.lines.lines) v, ap (λ (s : RealState). s.lines.next) v);
  link_faults = subst (λ (s : RealState). s.link_faults ≤ c.self.inside.link_faults) v (le_refl c.self.inside.link_faults);
  device_faults = subst (λ (s : RealState). s.device_faults ≤ c.count_put.new.faults) v c.count_put.ensures.cause.0;
  listen_faults = ap (λ (s : RealState). s.listen_faults) v;
  wait_faults = ap (λ (s : RealState). s.wait_faults) v;
}

pub returns-clause-step : goal.returns-clause-step
returns-clause-step g c = record {
  faults = subst (λ (s : RealState). CountsOne (c.emit-put.result ≡ Failed) s.device_faults c.count_put.new.faults) c.self.view_is c.count_put.ensures;
  backends = subst (λ (s : RealState). EmitsAt c.args.device c.emit-put.result c.args.sound.now s.backends c.emit-put.new.self.attached s.codec c.emit-put.new.self.codec) c.self.view_is
      c.emit-put.ensures.emits;
  rest = search rules;
}
