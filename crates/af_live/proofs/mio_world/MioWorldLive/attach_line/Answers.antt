use Rattle.std.proofs.Common.{rules, ◌≡◌, ◌≤◌, true, subst, refl, ℕ}
use Rattle.std.proofs.Math.Nat.{le_refl}
use Rattle.af_world.specs.declared.live.Ready.TheVariants.{Done, Failed}
use Rattle.af_process.specs.Acts.{words_of}
use Rattle.af_lines.specs.HeldLines.{is_quiet, line_at, AttachesLine}
use Rattle.af_live.specs.Counting.{CountsOne}
use Rattle.af_live.specs.Readings.{AsksClock}
use Rattle.af_live.specs.Timer.{moment_of}
use Rattle.af_live.specs.RealWorld.{RealState}
use Rattle.af_live.proofs.mio_world.MioWorldLive.attach_line.Goals as goal

pub returns : goal.returns
returns g c = record {
  step = record {
    faults = subst (λ (s : RealState). CountsOne (c.attach-attached.result ≡ Failed) s.device_faults c.count_ready.new.faults) c.self.view_is c.count_ready.ensures;
    quiet = subst (λ (s : RealState). c.attach-attached.result ≡ Done → is_quiet (line_at s.lines.lines c.args.device) ≡ true) c.self.view_is c.attach-attached.ensures.quiet;
    attaches = subst (λ (s : RealState). AttachesLine c.attach-attached.result c.args.program.restarts (words_of c.args.program.words.now) (moment_of c.moment-at.new.self.shown) c.args.device s.lines c.attach-attached.new.self)
        c.self.view_is
        (subst (λ (at : ℕ). AttachesLine c.attach-attached.result c.args.program.restarts (words_of c.args.program.words.now) at c.args.device c.self.inside.lines c.attach-attached.new.self) c.moment-at.ensures.moment
        c.attach-attached.ensures.attaches);
    clock = subst (λ (s : RealState). AsksClock s.clock (record { timer = c.moment-at.new.self; step = c.self.inside.step; answers = g.R.ToldClock.answers c.moment-at.new.clock })) c.self.view_is
        (c.moment-at.new.self.shown, record { once = c.moment-at.ensures.asks; told = c.moment-at.ensures.told }, refl);
    rest = search rules;
    counts = (let v = c.self.view_is in record {
      links = subst (λ (s : RealState). s.link_faults ≤ c.self.inside.link_faults) v (le_refl c.self.inside.link_faults);
      devices = subst (λ (s : RealState). s.device_faults ≤ c.count_ready.new.faults) v c.count_ready.ensures.cause.0;
      listens = subst (λ (s : RealState). s.listen_faults ≤ c.self.inside.listen_faults) v (le_refl c.self.inside.listen_faults);
      waits = subst (λ (s : RealState). s.wait_faults ≤ c.self.inside.wait_faults) v (le_refl c.self.inside.wait_faults);
    });
  };
}
