use Rattle.std.proofs.Common.{◌*◌, ◌^◌, ◌<◌, ◌≤◌, subst, arith, rules, length, refl}
use Rattle.std.proofs.lemmas.Grind.{common_steps}
use Rattle.af_sample.proofs.FrameLemmas.{some_channel}
use Rattle.af_buffers.specs.Horizons.{whole_time}
use Rattle.af_buffers.specs.PlayBuffer.{PlayWindow, next_of, accepted_at, accepted_by, Plays, ChangesCovered}
use Rattle.af_buffers.proofs.PlaceLemmas.{word_of_start}
use Rattle.af_buffers.proofs.PlayRingLemmas.{LaysOver, ends_within, lays_ahead, lays_rest, lays_nothing, plays, changes_covered, ring_of_play, whole_of, within_of}
use Rattle.af_buffers.proofs.HorizonLemmas.{samples_within}
use Rattle.af_buffers.proofs.play.PlayBuffer.play.Goals as goal

ahead : (c : goal.After-overlay-in-Ahead) → LaysOver c.self.inside.channels c.self.inside.ring c.overlay-in-Ahead.new.ring c.self.inside.time.0 (accepted_at (whole_time c.self.inside.time.0) c.args.start.0 c.args.samples.now c.args.preempt)
ahead c =
    let word' : c.args.start.0 < 2 ^ 32 = search rules in
    let far = c.in-Ahead.ensures.0 in
    let whole = whole_of c.self.inside.ring c.self.inside.time.0 c.self.inside.channels c.self.inside.horizon c.args.self.now c.args.samples.now c.args.samples.now c.self.view_is refl c.requires.whole in
    let within = within_of c.self.inside.ring c.self.inside.time.0 c.self.inside.channels c.self.inside.horizon c.args.start.0 c.args.samples.now c.args.self.now c.self.view_is c.requires.within in
    let ends = ends_within c.self.inside.channels c.self.inside.horizon c.self.inside.time.0 (accepted_at (whole_time c.self.inside.time.0) c.args.start.0 c.args.samples.now c.args.preempt) whole within in
    let room = c.self.invariant.room.enough in
    lays_ahead c.self.inside.channels c.self.inside.ring c.overlay-in-Ahead.new.ring c.args.samples.now c.self.inside.time.0 c.args.start.0 c.first_cell-cell-in-Ahead.result.0 c.args.preempt
    (some_channel c.self.inside.channels c.self.invariant.count) whole c.self.invariant.room.power
    (word_of_start c.self.inside.time.0 c.args.start.0 word') (omega (arith, far)) (omega (arith, ends, room)) c.first_cell-cell-in-Ahead.ensures c.overlay-in-Ahead.ensures

late : (c : goal.After-overlay) → LaysOver c.self.inside.channels c.self.inside.ring c.overlay.new.ring c.self.inside.time.0 (accepted_at (whole_time c.self.inside.time.0) c.args.start.0 c.args.samples.now c.args.preempt)
late c =
    let bounds = samples_within c.self.inside.channels c.self.inside.horizon c.self.invariant.count c.self.invariant.horizon in
    let enough = c.self.invariant.room.enough in
    let past : c.in-Before.late * c.self.inside.channels < length c.args.samples.now = subst (λ m. c.in-Before.late * m < length c.args.samples.now) c.from.ensures c.if-past-samples.true in
    lays_rest c.self.inside.channels c.self.inside.ring c.overlay.new.ring c.args.samples.now _ c.self.inside.time.0 c.args.start.0 c.in-Before.late c.first_cell-cell.result.0 c.args.preempt
    (some_channel c.self.inside.channels c.self.invariant.count)
    (whole_of c.self.inside.ring c.self.inside.time.0 c.self.inside.channels c.self.inside.horizon c.args.self.now c.args.samples.now c.args.samples.now c.self.view_is refl c.requires.whole)
    c.self.invariant.room.power c.in-Before.ensures.0
    (omega arith) (omega arith) (grind (arith, common_steps)) c.first_cell-cell.ensures c.overlay.ensures

pub invariant_of-self-in-Ahead : goal.invariant_of-self-in-Ahead
invariant_of-self-in-Ahead c =
    ring_of_play c.self.inside.channels c.self.inside.ring c.overlay-in-Ahead.new.ring c.self.inside.time.0 c.self.inside.horizon (accepted_at (whole_time c.self.inside.time.0) c.args.start.0 c.args.samples.now c.args.preempt) c.self.invariant
    (whole_of c.self.inside.ring c.self.inside.time.0 c.self.inside.channels c.self.inside.horizon c.args.self.now c.args.samples.now c.args.samples.now c.self.view_is refl c.requires.whole)
    (within_of c.self.inside.ring c.self.inside.time.0 c.self.inside.channels c.self.inside.horizon c.args.start.0 c.args.samples.now c.args.self.now c.self.view_is c.requires.within)
    (ahead c)

pub invariant_of-self : goal.invariant_of-self
invariant_of-self c =
    ring_of_play c.self.inside.channels c.self.inside.ring c.overlay.new.ring c.self.inside.time.0 c.self.inside.horizon (accepted_at (whole_time c.self.inside.time.0) c.args.start.0 c.args.samples.now c.args.preempt) c.self.invariant
    (whole_of c.self.inside.ring c.self.inside.time.0 c.self.inside.channels c.self.inside.horizon c.args.self.now c.args.samples.now c.args.samples.now c.self.view_is refl c.requires.whole)
    (within_of c.self.inside.ring c.self.inside.time.0 c.self.inside.channels c.self.inside.horizon c.args.start.0 c.args.samples.now c.args.self.now c.self.view_is c.requires.within)
    (late c)

pub returns-in-Ahead-clause-next : goal.returns-in-Ahead-clause-next
returns-in-Ahead-clause-next c =
    subst (λ (v : PlayWindow). Plays v (next_of c.overlay-in-Ahead.new.ring c.self.inside.time.0 c.self.inside.channels c.self.inside.horizon) (accepted_by v c.args.start.0 c.args.samples.now c.args.preempt)) c.self.view_is
    (plays c.self.inside.channels c.self.inside.ring c.overlay-in-Ahead.new.ring c.self.inside.time.0 c.self.inside.horizon _ c.self.invariant.room.enough (ahead c))

pub returns-in-Ahead-clause-ring : goal.returns-in-Ahead-clause-ring
returns-in-Ahead-clause-ring c =
    subst (λ (v : PlayWindow). ChangesCovered v (next_of c.overlay-in-Ahead.new.ring c.self.inside.time.0 c.self.inside.channels c.self.inside.horizon) (accepted_by v c.args.start.0 c.args.samples.now c.args.preempt)) c.self.view_is
    (changes_covered c.self.inside.channels c.self.inside.ring c.overlay-in-Ahead.new.ring c.self.inside.time.0 c.self.inside.horizon _ (ahead c))

pub returns-then-past-samples-clause-next : goal.returns-then-past-samples-clause-next
returns-then-past-samples-clause-next c =
    subst (λ (v : PlayWindow). Plays v (next_of c.overlay.new.ring c.self.inside.time.0 c.self.inside.channels c.self.inside.horizon) (accepted_by v c.args.start.0 c.args.samples.now c.args.preempt)) c.self.view_is
    (plays c.self.inside.channels c.self.inside.ring c.overlay.new.ring c.self.inside.time.0 c.self.inside.horizon _ c.self.invariant.room.enough (late c))

pub returns-then-past-samples-clause-ring : goal.returns-then-past-samples-clause-ring
returns-then-past-samples-clause-ring c =
    subst (λ (v : PlayWindow). ChangesCovered v (next_of c.overlay.new.ring c.self.inside.time.0 c.self.inside.channels c.self.inside.horizon) (accepted_by v c.args.start.0 c.args.samples.now c.args.preempt)) c.self.view_is
    (changes_covered c.self.inside.channels c.self.inside.ring c.overlay.new.ring c.self.inside.time.0 c.self.inside.horizon _ (late c))

pub returns-else-past-samples-clause-next : goal.returns-else-past-samples-clause-next
returns-else-past-samples-clause-next c =
    subst (λ (v : PlayWindow). Plays v v (accepted_by v c.args.start.0 c.args.samples.now c.args.preempt)) c.self.view_is
    (plays c.self.inside.channels c.self.inside.ring c.self.inside.ring c.self.inside.time.0 c.self.inside.horizon _ c.self.invariant.room.enough
    (lays_nothing c.self.inside.channels c.self.inside.ring c.args.samples.now c.self.inside.time.0 c.args.start.0 c.in-Before.late c.args.preempt
    (some_channel c.self.inside.channels c.self.invariant.count)
    (whole_of c.self.inside.ring c.self.inside.time.0 c.self.inside.channels c.self.inside.horizon c.args.self.now c.args.samples.now c.args.samples.now c.self.view_is refl c.requires.whole)
    c.in-Before.ensures.0
    (subst (λ m. length c.args.samples.now ≤ c.in-Before.late * m) c.from.ensures c.if-past-samples.false)))
