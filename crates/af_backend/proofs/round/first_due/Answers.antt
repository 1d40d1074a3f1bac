use Rattle.std.proofs.Common.{◌≡◌, ◌≤◌, ◌<◌, ◌+◌, ℕ, List, Option, Some, None, max, length, arith, rules, subst, sym, ap, ◌∙◌}
use Rattle.std.proofs.Math.Nat.{le_refl}
use Rattle.std.proofs.lemmas.List.{get_or_default, length-set}
use Rattle.af_backend.specs.declared.source.Source.{Source}
use Rattle.af_backend.specs.Backends.{BackendState, backend_at}
use Rattle.af_backend.specs.Rounds.{NoneDue, SourcesRead, IsDue, due_of, some_source_after, source_in}
use Rattle.af_backend.specs.Asked.{DevicesAsked, IsAsked}
use Rattle.af_backend.proofs.RoundLemmas.{Came, came, finds_it, asks_it, passes_it, none_read, none_asked}
use Rattle.af_backend.proofs.round.first_due.Goals as goal

pub offset_bounds-attached-device : goal.offset_bounds-attached-device
offset_bounds-attached-device g c = let small : c.loop-device.device < 8 = omega (arith, c.requires, c.loop-device-test.true) in search rules

pub returns-then-frames-gt0-clause-due : goal.returns-then-frames-gt0-clause-due
returns-then-frames-gt0-clause-due g c =
    let it = came c.args.nanos c.args.from c.loop-device.device c.due-frames.result c.args.sources.now c.loop-device.sources c.args.attached.now c.loop-device.attached c.due-frames.new.source c.index-sources-device.result c.due-frames.new.device c.index-attached-device.result
    c.loop-device.invariant.from (omega (arith, c.requires, c.loop-device-test.true, c.loop-device.invariant.source_count)) (omega (arith, c.requires, c.loop-device-test.true, c.loop-device.invariant.device_count))
    c.loop-device.invariant.none c.loop-device.invariant.read c.loop-device.invariant.asked
    c.due-frames.ensures.value c.due-frames.ensures.all c.due-frames.ensures.later c.due-frames.ensures.asked in
    finds_it _ _ c.args.to _ _ _ _ _ _ _ _ it c.loop-device-test.true (omega (arith, c.if-frames-gt0.true)) c.due-frames.ensures.most

pub returns-then-frames-gt0-clause-asked : goal.returns-then-frames-gt0-clause-asked
returns-then-frames-gt0-clause-asked g c =
    let it = came c.args.nanos c.args.from c.loop-device.device c.due-frames.result c.args.sources.now c.loop-device.sources c.args.attached.now c.loop-device.attached c.due-frames.new.source c.index-sources-device.result c.due-frames.new.device c.index-attached-device.result
    c.loop-device.invariant.from (omega (arith, c.requires, c.loop-device-test.true, c.loop-device.invariant.source_count)) (omega (arith, c.requires, c.loop-device-test.true, c.loop-device.invariant.device_count))
    c.loop-device.invariant.none c.loop-device.invariant.read c.loop-device.invariant.asked
    c.due-frames.ensures.value c.due-frames.ensures.all c.due-frames.ensures.later c.due-frames.ensures.asked in
    asks_it _ _ _ _ _ _ _ _ _ _ it

pub loop-device-preserved : goal.loop-device-preserved
loop-device-preserved g c =
    let it = came c.args.nanos c.args.from c.loop-device.device c.due-frames.result c.args.sources.now c.loop-device.sources c.args.attached.now c.loop-device.attached c.due-frames.new.source c.index-sources-device.result c.due-frames.new.device c.index-attached-device.result
    c.loop-device.invariant.from (omega (arith, c.requires, c.loop-device-test.true, c.loop-device.invariant.source_count)) (omega (arith, c.requires, c.loop-device-test.true, c.loop-device.invariant.device_count))
    c.loop-device.invariant.none c.loop-device.invariant.read c.loop-device.invariant.asked
    c.due-frames.ensures.value c.due-frames.ensures.all c.due-frames.ensures.later c.due-frames.ensures.asked in
    let passed = passes_it c.args.nanos c.args.from c.loop-device.device c.args.sources.now c.loop-device.sources c.args.attached.now c.loop-device.attached c.due-frames.new.source c.due-frames.new.device
    (subst (λ n. Came c.args.nanos c.args.from c.loop-device.device n c.args.sources.now c.loop-device.sources c.args.attached.now c.loop-device.attached c.due-frames.new.source c.due-frames.new.device) (omega (arith, c.if-frames-gt0.false)) it) in
    record {
      from = omega (arith, c.loop-device.invariant.from);
      to = omega (arith, c.loop-device-test.true);
      source_count = length-set c.loop-device.sources c.loop-device.device c.due-frames.new.source ∙ c.loop-device.invariant.source_count;
      device_count = length-set c.loop-device.attached c.loop-device.device c.due-frames.new.device ∙ c.loop-device.invariant.device_count;
      none = passed.0;
      read = passed.1;
      asked = passed.2;
    }

pub returns-clause-due : goal.returns-clause-due
returns-clause-due g c =
    let last : c.loop-device.device ≡ max c.args.from c.args.to = omega arith in
    subst (λ (to : ℕ). NoneDue c.args.nanos c.args.from to c.args.sources.now × SourcesRead c.args.nanos c.args.from to c.args.sources.now c.loop-device.sources)
    last (c.loop-device.invariant.none, c.loop-device.invariant.read)

pub returns-clause-asked : goal.returns-clause-asked
returns-clause-asked g c =
    let last : c.loop-device.device ≡ max c.args.from c.args.to = omega arith in
    subst (λ (to : ℕ). DevicesAsked c.args.nanos c.args.from to c.args.sources.now c.args.attached.now c.loop-device.attached)
    last c.loop-device.invariant.asked

pub loop-device-init : goal.loop-device-init
loop-device-init g c = record {
  from = le_refl c.args.from;
  to = omega arith;
  source_count = c.told-sources;
  device_count = c.told-attached;
  none = λ d below on. absurd (omega arith);
  read = none_read c.args.nanos c.args.from c.args.sources.now;
  asked = none_asked c.args.nanos c.args.from c.args.sources.now c.args.attached.now;
}
