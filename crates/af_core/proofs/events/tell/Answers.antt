use Rattle.std.proofs.Common.{◌-◌, ◌∙◌, length, length-set, refl, arith}
use Rattle.af_core.specs.Stands.{kept_of}
use Rattle.af_core.proofs.LinkPhaseLemmas.{link_here, settled_here, settled_set}
use Rattle.af_core.proofs.EventLemmas.{only_drops_devices, only_drops_later, only_drops_others, tells_begin, tells_end, tells_more}
use Rattle.af_core.proofs.events.tell.Goals as goal

pub loop-number-init : goal.loop-number-init
loop-number-init c = record {
  kept = c.requires.kept;
  devices = refl;
  step = λ s h. tells_begin (kept_of c.args.shared.now c.args.slots.now) c.args.event _ s (omega arith) h;
}

pub tell-requires : goal.tell-requires
tell-requires c = settled_here c.loop-number.shared.waits c.loop-number.slots c.loop-number.number c.loop-number.number _ _ c.loop-number.invariant.kept.settled refl refl (omega arith)

pub loop-number-preserved : goal.loop-number-preserved
loop-number-preserved c =
    let kept = c.loop-number.invariant.kept in
    let k = c.loop-number.number in
    record {
      kept = record {
        links = length-set c.loop-number.slots k c.tell.new.self ∙ kept.links;
        settled = settled_set c.loop-number.shared.waits _ c.loop-number.slots k _ kept.settled (λ j apart. only_drops_others k j c.loop-number.shared _ c.tell.ensures.only_drops apart) c.tell.ensures.settled;
        later = only_drops_later k c.loop-number.shared _ c.tell.ensures.only_drops kept.later;
      };
      devices = only_drops_devices k c.loop-number.shared _ c.tell.ensures.only_drops ∙ c.loop-number.invariant.devices;
      step = λ s h. tells_more c.loop-number.shared _ c.loop-number.slots c.args.event _ _ k _ _ s (omega arith) (link_here c.loop-number.slots k _ (omega arith)) c.tell.ensures.step (c.loop-number.invariant.step s h);
    }

pub returns-clause-step : goal.returns-clause-step
returns-clause-step c = λ s h. tells_end (kept_of c.loop-number.shared c.loop-number.slots) c.args.event (length c.args.slots.now - c.loop-number.number) c.loop-number.number s (omega arith) (c.loop-number.invariant.step s h)
