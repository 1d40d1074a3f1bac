use Rattle.std.proofs.Common.{rules, ◌≡◌, ◌≤◌, ◌<◌, ℕ, true, false, sym, subst, IfSome, MatchOption}
use Rattle.std.proofs.Math.Nat.{le_refl}
use Rattle.std.specs.declared.option.Option.{Option}
use Rattle.af_limits.specs.Limits.{most_links}
use Rattle.af_world.specs.declared.happening.Wake.{Wake}
use Rattle.af_world.specs.declared.live.Waited.TheVariants.{Failed}
use Rattle.af_live.specs.LinkTable.{link_at, something_ready, KeepsOpen, Opens}
use Rattle.af_live.specs.Counting.{CountsOne}
use Rattle.af_live.specs.Polls.{latest_poll, LeadsLinks, TakesLeast}
use Rattle.af_live.specs.Readings.{PausesBy}
use Rattle.af_live.specs.RealWorld.{RealState, given_wake, GivesKept, LeadsLines, LeadsRound, LosesNoFrame, WakeFits}
use Rattle.af_live.proofs.PollsLemmas.{waits_take_least}
use Rattle.af_live.proofs.RoundLemmas.{waits_lose_none}
use Rattle.af_live.proofs.StreamsLemmas.{apart_of, stays_on}
use Rattle.af_live.proofs.mio_world.MioWorldLive.wait.Goals as goal

pub returns : goal.returns
returns g c = record {
  step = record {
    faults = subst (λ (s : RealState). CountsOne (c.answer-waited.result ≡ Failed) s.wait_faults c.count_waited.new.faults) c.self.view_is c.count_waited.ensures;
    unlistened = subst (λ (s : RealState). s.listens ≡ false → c.answer-waited.result ≡ Failed) c.self.view_is (λ h. c.answer-waited.ensures.failed (c.next_wake-next.ensures.unlistened h));
    kept = (let w = sym c.answer-waited.ensures.given in
        subst (λ (s : RealState). (k : ℕ) → s.listens ≡ true → k < most_links → something_ready (link_at s.links k) ≡ true → GivesKept (given_wake c.answer-waited.result) s.links s.round c.next_wake-next.new.links c.next_wake-next.new.devices.round) c.self.view_is
        (λ k l b r. subst (λ (o : Option Wake). GivesKept o c.self.inside.links c.self.inside.devices.round c.next_wake-next.new.links c.next_wake-next.new.devices.round) w (c.next_wake-next.ensures.kept k l b r)));
    fits = subst (λ (s : RealState). IfSome (given_wake c.answer-waited.result) (λ wake. WakeFits s.links s.round s.lines wake)) c.self.view_is
        (subst (λ (o : Option Wake). IfSome o (λ wake. WakeFits c.self.inside.links c.self.inside.devices.round c.self.inside.lines wake)) (sym c.answer-waited.ensures.given) c.next_wake-next.ensures.fits);
    opens = subst (λ (s : RealState). MatchOption (given_wake c.answer-waited.result) (KeepsOpen s.links c.next_wake-next.new.links) (λ wake. Opens wake s.links c.next_wake-next.new.links)) c.self.view_is
        (subst (λ (o : Option Wake). MatchOption o (KeepsOpen c.self.inside.links c.next_wake-next.new.links) (λ wake. Opens wake c.self.inside.links c.next_wake-next.new.links)) (sym c.answer-waited.ensures.given) c.next_wake-next.ensures.opens);
    pauses = subst (λ (s : RealState). PausesBy c.args.more c.next_wake-next.new.step.is_late s.links c.next_wake-next.new.lines s.poll (latest_poll c.next_wake-next.new.sockets)) c.self.view_is
        c.next_wake-next.ensures.pauses;
    links = subst (λ (s : RealState). LeadsLinks (latest_poll c.next_wake-next.new.sockets).events (given_wake c.answer-waited.result) s.links c.next_wake-next.new.links) c.self.view_is
        (subst (λ (o : Option Wake). LeadsLinks (latest_poll c.next_wake-next.new.sockets).events o c.self.inside.links c.next_wake-next.new.links) (sym c.answer-waited.ensures.given) c.next_wake-next.ensures.links);
    least = subst (λ (s : RealState). TakesLeast s.links c.next_wake-next.new.links) c.self.view_is (waits_take_least (latest_poll c.next_wake-next.new.sockets).events _ _ _ c.next_wake-next.ensures.links);
    round = subst (λ (s : RealState). LeadsRound (given_wake c.answer-waited.result) s.links s.clock s.round s.backends c.next_wake-next.new.links (record { timer = c.next_wake-next.new.timer; step = c.next_wake-next.new.step; answers = g.R.ToldClock.answers c.next_wake-next.new.clock }) c.next_wake-next.new.devices.round c.next_wake-next.new.devices.attached) c.self.view_is
        (subst (λ (o : Option Wake). LeadsRound o c.self.inside.links (record { timer = c.self.inside.timer; step = c.self.inside.step; answers = g.R.ToldClock.answers c.self.inside.rt }) c.self.inside.devices.round c.self.inside.devices.attached c.next_wake-next.new.links (record { timer = c.next_wake-next.new.timer; step = c.next_wake-next.new.step; answers = g.R.ToldClock.answers c.next_wake-next.new.clock }) c.next_wake-next.new.devices.round c.next_wake-next.new.devices.attached) (sym c.answer-waited.ensures.given) c.next_wake-next.ensures.round);
    frames = subst (λ (s : RealState). LosesNoFrame (given_wake c.answer-waited.result) s.round c.next_wake-next.new.devices.round) c.self.view_is
        (subst (λ (o : Option Wake). LosesNoFrame o c.self.inside.devices.round c.next_wake-next.new.devices.round) (sym c.answer-waited.ensures.given) (waits_lose_none _ _ _ _ _ _ _ _ _ c.next_wake-next.ensures.round));
    lines = subst (λ (s : RealState). LeadsLines (given_wake c.answer-waited.result) s.links s.round s.lines c.next_wake-next.new.links c.next_wake-next.new.devices.round c.next_wake-next.new.lines) c.self.view_is
        (subst (λ (o : Option Wake). LeadsLines o c.self.inside.links c.self.inside.devices.round c.self.inside.lines c.next_wake-next.new.links c.next_wake-next.new.devices.round c.next_wake-next.new.lines) (sym c.answer-waited.ensures.given) c.next_wake-next.ensures.lines);
    apart = apart_of c.next_wake-next.new.sockets c.next_wake-next.new.links (stays_on c.self.inside.sockets c.next_wake-next.new.sockets c.self.inside.links c.next_wake-next.new.links c.next_wake-next.ensures.own c.self.invariant);
    rest = search rules;
    counts = (let v = c.self.view_is in record {
      links = subst (λ (s : RealState). s.link_faults ≤ c.self.inside.link_faults) v (le_refl c.self.inside.link_faults);
      devices = subst (λ (s : RealState). s.device_faults ≤ c.self.inside.device_faults) v (le_refl c.self.inside.device_faults);
      listens = subst (λ (s : RealState). s.listen_faults ≤ c.self.inside.listen_faults) v (le_refl c.self.inside.listen_faults);
      waits = subst (λ (s : RealState). s.wait_faults ≤ c.count_waited.new.faults) v c.count_waited.ensures.cause.0;
    });
  };
}

pub invariant_of-self : goal.invariant_of-self
invariant_of-self g c = stays_on c.self.inside.sockets c.next_wake-next.new.sockets c.self.inside.links c.next_wake-next.new.links c.next_wake-next.ensures.own c.self.invariant
