use Rattle.std.proofs.Common.{rules, ◌≡◌, ◌≤◌, ap, subst, ◌∙◌, refl}
use Rattle.std.proofs.Math.Nat.{le_refl}
use Rattle.af_io.specs.declared.flow.Put.TheVariants.{Failed}
use Rattle.af_backend.specs.Backends.{all_without_bytes}
use Rattle.af_lines.specs.HeldLines.{all_line_orders, HooksAt}
use Rattle.af_lines.proofs.LinesLemmas.{hooks_same}
use Rattle.af_live.specs.Counting.{CountsOne}
use Rattle.af_live.specs.Readings.{AsksClock}
use Rattle.af_live.specs.RealWorld.{RealState}
use Rattle.af_live.proofs.mio_world.MioWorldWorld.hook.Goals as goal

pub returns-clause-leads : goal.returns-clause-leads
returns-clause-leads g c = let v = c.self.view_is in
    let same = hooks_same _ _ _ _ _ c.hook-put.ensures in record {
      listens = ap (λ (s : RealState). s.listens) v;
      backends = ap (λ (s : RealState). all_without_bytes s.backends) v;
      orders = ap (λ (s : RealState). s.codec.orders) v;
      round = ap (λ (s : RealState). s.round) v;
      lines = (same.0 ∙ ap (λ (s : RealState). all_line_orders s.lines.lines) v, same.1 ∙ ap (λ (s : RealState). s.lines.next) v);
      link_faults = subst (λ (s : RealState). s.link_faults ≤ c.self.inside.link_faults) v (le_refl c.self.inside.link_faults);
      device_faults = subst (λ (s : RealState). s.device_faults ≤ c.count_put.new.faults) v c.count_put.ensures.cause.0;
      listen_faults = ap (λ (s : RealState). s.listen_faults) v;
      wait_faults = ap (λ (s : RealState). s.wait_faults) v;
    }

pub returns-clause-step : goal.returns-clause-step
returns-clause-step g c = record {
  faults = subst (λ (s : RealState). CountsOne (c.hook-put.result ≡ Failed) s.device_faults c.count_put.new.faults) c.self.view_is c.count_put.ensures;
  hooks = subst (λ (s : RealState). HooksAt c.args.device c.args.off c.hook-put.result s.lines c.hook-put.new.self) c.self.view_is c.hook-put.ensures;
  clock = subst (λ (s : RealState). AsksClock s.clock (record { timer = c.moment-at.new.self; step = c.self.inside.step; answers = g.R.ToldClock.answers c.moment-at.new.clock })) c.self.view_is
      (c.moment-at.new.self.shown, record { once = c.moment-at.ensures.asks; told = c.moment-at.ensures.told }, refl);
  rest = search rules;
}
