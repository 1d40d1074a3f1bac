use Rattle.std.proofs.Common.{rules, ◌≡◌, ◌≤◌, ◌<◌, true, false, subst, arith, refl, ℕ}
use Rattle.std.proofs.Math.Nat.{le_refl}
use Rattle.af_limits.specs.Limits.{most_devices}
use Rattle.af_world.specs.declared.live.Ready.TheVariants.{Done, Failed}
use Rattle.af_backend.specs.Backends.{may_be_refused, AttachesAt}
use Rattle.af_backend.specs.CodecUse.{codec_allows, codec_after}
use Rattle.af_live.specs.Counting.{CountsOne}
use Rattle.af_backend.specs.Backends.{round_after}
use Rattle.af_backend.specs.Rounds.{is_attached}
use Rattle.af_lines.specs.HeldLines.{lines_after}
use Rattle.af_live.specs.Readings.{AsksClock}
use Rattle.af_live.specs.Timer.{moment_of}
use Rattle.af_live.specs.RealWorld.{RealState}
use Rattle.af_live.proofs.mio_world.MioWorldLive.attach.Goals as goal

pub note_attach-requires : goal.note_attach-requires
note_attach-requires g c = (omega arith, λ done. (c.attach-attached.ensures.attaches done).0)

pub returns : goal.returns
returns g c = record {
  step = record {
    faults = subst (λ (s : RealState). CountsOne (c.attach-attached.result ≡ Failed) s.device_faults c.count_ready.new.faults) c.self.view_is c.count_ready.ensures;
    attaches = subst (λ (s : RealState). c.attach-attached.result ≡ Done → (c.args.device < most_devices) × (is_attached s.round c.args.device ≡ false)) c.self.view_is c.attach-attached.ensures.attaches;
    round = subst (λ (s : RealState). c.attach-attached.new.self.round ≡ round_after c.attach-attached.result c.args.kind s.round c.args.device c.args.spec.now.rate) c.self.view_is c.attach-attached.ensures.round;
    allowed = subst (λ (s : RealState). c.attach-attached.result ≡ Done → codec_allows s.codec c.args.kind ≡ true) c.self.view_is c.attach-attached.ensures.allowed;
    done = subst (λ (s : RealState). c.args.device < most_devices → is_attached s.round c.args.device ≡ false → codec_allows s.codec c.args.kind ≡ true → may_be_refused c.args.kind ≡ false → c.attach-attached.result ≡ Done) c.self.view_is c.attach-attached.ensures.done;
    backends = subst (λ (s : RealState). AttachesAt c.attach-attached.result c.args.kind c.args.device c.args.spec.now (moment_of c.moment.new.self.shown) s.backends c.attach-attached.new.self.attached) c.self.view_is
        (subst (λ (at : ℕ). AttachesAt c.attach-attached.result c.args.kind c.args.device c.args.spec.now at c.self.inside.devices.attached c.attach-attached.new.self.attached) c.moment.ensures.moment c.attach-attached.ensures.attached);
    clock = subst (λ (s : RealState). AsksClock s.clock (record { timer = c.moment.new.self; step = c.self.inside.step; answers = g.R.ToldClock.answers c.moment.new.clock })) c.self.view_is
        (c.moment.new.self.shown, record { once = c.moment.ensures.asks; told = c.moment.ensures.told }, refl);
    codec = subst (λ (s : RealState). c.attach-attached.new.self.codec ≡ codec_after c.attach-attached.result c.args.kind s.codec) c.self.view_is c.attach-attached.ensures.codec;
    lines = subst (λ (s : RealState). c.note_attach.new.self ≡ lines_after c.attach-attached.result c.args.device c.args.spec.now.line s.lines) c.self.view_is c.note_attach.ensures;
    rest = search rules;
    counts = (let v = c.self.view_is in record {
      links = subst (λ (s : RealState). s.link_faults ≤ c.self.inside.link_faults) v (le_refl c.self.inside.link_faults);
      devices = subst (λ (s : RealState). s.device_faults ≤ c.count_ready.new.faults) v c.count_ready.ensures.cause.0;
      listens = subst (λ (s : RealState). s.listen_faults ≤ c.self.inside.listen_faults) v (le_refl c.self.inside.listen_faults);
      waits = subst (λ (s : RealState). s.wait_faults ≤ c.self.inside.wait_faults) v (le_refl c.self.inside.wait_faults);
    });
  };
}
