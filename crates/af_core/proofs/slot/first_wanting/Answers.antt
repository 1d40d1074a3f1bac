use Rattle.std.proofs.Common.{◌∙◌, ap, sym, arith}
use Rattle.af_model.specs.More.{open_wants}
use Rattle.af_state.specs.Deferrals.{has_waiting}
use Rattle.af_core.proofs.WantsWithinLemmas.{none_up, wants_of}
use Rattle.af_core.proofs.slot.first_wanting.Goals as goal

pub loop-number-preserved : goal.loop-number-preserved
loop-number-preserved c =
    let k = c.loop-number.number in
    let is = c.wants_turn.ensures ∙ ap (open_wants (has_waiting c.args.waits.now k)) c.index-slots-number.is in
    let here = wants_of c.args.waits.now c.args.slots.now k c.index-slots-number.result (omega arith) ∙ sym is ∙ c.if-wants_turn.false in
    record {
      from = let low = c.loop-number.invariant.from in omega (arith, low);
      to = omega arith;
      none = none_up c.args.from k c.args.waits.now c.args.slots.now c.loop-number.invariant.none here;
    }
