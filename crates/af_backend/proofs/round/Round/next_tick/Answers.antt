use Rattle.std.proofs.Common.{◌≡◌, ◌≤◌, ◌+◌, ℕ, Some, true, max, arith, subst, refl, sym, ap}
use Rattle.af_limits.specs.Limits.{most_devices}
use Rattle.af_backend.specs.Rounds.{RoundState, NoneDue, SourcesRead, PassesOver, RoundTicks}
use Rattle.af_backend.specs.Asked.{DevicesAsked}
use Rattle.af_backend.proofs.RoundLemmas.{read_to_the_last, none_due_to_the_last, asked_to_the_last, settled_read, settled_asked, none_by_program, none_beyond, settles_where}
use Rattle.af_backend.proofs.round.Round.next_tick.Goals as goal

pub returns-then-is_settled-clause-on : goal.returns-then-is_settled-clause-on
returns-then-is_settled-clause-on g c =
    let settled = c.is_settled.ensures c.if-is_settled.true in
    let now : RoundState = record { sources = c.self.inside.sources; next = c.max-self-inside.result; ticked = c.self.inside.ticked; reading = Some c.args.nanos; last = Some c.args.nanos } in
    subst (λ (s : RoundState). PassesOver c.args.nanos c.max-self-inside.result s now × most_devices ≤ c.max-self-inside.result) c.self.view_is (
      record {
        next = refl;
        on = omega (arith, c.max-self-inside.ensures);
        none = λ d _ _. (settled d).0;
        read = settled_read c.args.nanos c.self.inside.next c.max-self-inside.result c.self.inside.sources settled;
        same = refl;
        reading = refl;
        last = refl;
      },
      omega (arith, c.max-self-inside.ensures),
    )

pub returns-then-is_settled-clause-over : goal.returns-then-is_settled-clause-over
returns-then-is_settled-clause-over g c =
    let settled = c.is_settled.ensures c.if-is_settled.true in
    subst (λ (s : RoundState). DevicesAsked c.args.nanos s.next c.max-self-inside.result s.sources c.args.attached.now c.args.attached.now) c.self.view_is
    (settled_asked c.args.nanos c.self.inside.next c.max-self-inside.result c.self.inside.sources c.args.attached.now settled)

pub invariant_of-self-in-Some : goal.invariant_of-self-in-Some
invariant_of-self-in-Some g c =
    let read = c.in-Some.ensures.due.7 in
    (c.self.invariant.0, none_beyond _ _ _ _ _ _ read c.self.invariant.1, tt, λ none. none_by_program _ _ _ _ _ read (c.self.invariant.3 none))

pub invariant_of-self-in-None : goal.invariant_of-self-in-None
invariant_of-self-in-None g c =
    let due = c.in-None.ensures.due in (
      c.self.invariant.0,
      none_beyond _ _ _ _ _ _ due.1 c.self.invariant.1,
      settles_where _ c.args.nanos c.self.inside.next c.self.inside.end c.self.inside.has_programs _ _ c.settled_at-self-inside.ensures c.self.invariant.1 c.self.invariant.3 due.0 due.1,
      λ none. none_by_program _ _ _ _ _ due.1 (c.self.invariant.3 none),
    )

pub returns-in-Some-clause-on : goal.returns-in-Some-clause-on
returns-in-Some-clause-on g c =
    let due = c.in-Some.ensures.due in
    let now : RoundState = record { sources = c.first_due.new.sources; next = c.from.result + 1; ticked = true; reading = Some c.args.nanos; last = Some c.args.nanos } in
    subst (λ (s : RoundState). RoundTicks c.args.nanos c.in-Some.device c.in-Some.frames s now) c.self.view_is
    (record {
      device = omega (arith, due.1, c.self.invariant.0);
      on = due.0;
      none = due.2;
      frames = due.3;
      all = due.4;
      some = due.5;
      most = due.6;
      read = due.7;
      next = ap (λ (n : ℕ). n + 1) c.from.ensures;
      ticked = refl;
      reading = refl;
      last = refl;
    })

pub returns-in-None-clause-on : goal.returns-in-None-clause-on
returns-in-None-clause-on g c =
    let due = c.in-None.ensures.due in
    let now : RoundState = record { sources = c.first_due.new.sources; next = c.max-self-inside-in-None.result; ticked = c.self.inside.ticked; reading = Some c.args.nanos; last = Some c.args.nanos } in
    let last : max c.self.inside.next most_devices ≡ c.max-self-inside-in-None.result = sym c.max-self-inside-in-None.ensures in
    subst (λ (s : RoundState). PassesOver c.args.nanos c.max-self-inside-in-None.result s now × most_devices ≤ c.max-self-inside-in-None.result) c.self.view_is (
      record {
        next = refl;
        on = omega (arith, c.max-self-inside-in-None.ensures);
        none = subst (λ (to : ℕ). NoneDue c.args.nanos c.self.inside.next to c.self.inside.sources) last
            (none_due_to_the_last _ _ _ _ c.self.invariant.1 due.0);
        read = subst (λ (to : ℕ). SourcesRead c.args.nanos c.self.inside.next to c.self.inside.sources c.first_due.new.sources) last
            (read_to_the_last _ _ _ _ _ c.self.invariant.0 c.self.invariant.1 due.1);
        same = refl;
        reading = refl;
        last = refl;
      },
      omega (arith, c.max-self-inside-in-None.ensures),
    )

pub returns-in-None-clause-over : goal.returns-in-None-clause-over
returns-in-None-clause-over g c =
    let last : max c.self.inside.next most_devices ≡ c.max-self-inside-in-None.result = sym c.max-self-inside-in-None.ensures in
    subst (λ (s : RoundState). DevicesAsked c.args.nanos s.next c.max-self-inside-in-None.result s.sources c.args.attached.now c.first_due.new.attached) c.self.view_is
    (subst (λ (to : ℕ). DevicesAsked c.args.nanos c.self.inside.next to c.self.inside.sources c.args.attached.now c.first_due.new.attached) last
    (asked_to_the_last _ _ _ _ _ _ c.self.invariant.0 c.self.invariant.1 c.in-None.ensures.asked))
