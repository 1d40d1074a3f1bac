use Rattle.std.proofs.Common.{rules, ◌≡◌, ◌≤◌, true, subst}
use Rattle.std.proofs.Math.Nat.{le_refl}
use Rattle.af_world.specs.declared.live.Ready.TheVariants.{Failed}
use Rattle.af_live.specs.Counting.{CountsOne}
use Rattle.af_live.specs.RealWorld.{RealState}
use Rattle.af_live.proofs.mio_world.MioWorldLive.listen.Goals as goal

pub returns : goal.returns
returns g c = record {
  step = record {
    faults = subst (λ (s : RealState). CountsOne (c.begin_to_listen-listened.result ≡ Failed) s.listen_faults c.count_ready.new.faults) c.self.view_is c.count_ready.ensures;
    listens = search rules;
    again = subst (λ (s : RealState). s.listens ≡ true → c.begin_to_listen-listened.result ≡ Failed) c.self.view_is c.begin_to_listen-listened.ensures.again;
    rest = search rules;
    counts = (let v = c.self.view_is in record {
      links = subst (λ (s : RealState). s.link_faults ≤ c.self.inside.link_faults) v (le_refl c.self.inside.link_faults);
      devices = subst (λ (s : RealState). s.device_faults ≤ c.self.inside.device_faults) v (le_refl c.self.inside.device_faults);
      listens = subst (λ (s : RealState). s.listen_faults ≤ c.count_ready.new.faults) v c.count_ready.ensures.cause.0;
      waits = subst (λ (s : RealState). s.wait_faults ≤ c.self.inside.wait_faults) v (le_refl c.self.inside.wait_faults);
    });
  };
}

pub invariant_of-self : goal.invariant_of-self
invariant_of-self g c = c.begin_to_listen-listened.ensures.own c.self.inside.links c.self.invariant
