use Rattle.std.proofs.Common.{◌≡◌, ◌-◌, ◌∙◌, ap, sym, arith, false, rules}
use Rattle.af_model.specs.More.{open_wants}
use Rattle.af_state.specs.Deferrals.{has_waiting}
use Rattle.af_core.proofs.WantsWithinLemmas.{none_down, wants_of}
use Rattle.af_core.proofs.slot.last_wanting.Goals as goal

pub loop-end-preserved : goal.loop-end-preserved
loop-end-preserved c =
    let k = c.loop-end.end - 1 in
    let more = c.loop-end-test.true in
    let idle : c.wants_turn.result ≡ false = search rules in
    let is = c.wants_turn.ensures ∙ ap (open_wants (has_waiting c.args.waits.now k)) c.index-slots-end.is in
    let here = wants_of c.args.waits.now c.args.slots.now k c.index-slots-end.result (omega (arith, more)) ∙ sym is ∙ idle in
    record {
      some = omega (arith, more);
      few = omega (arith, more);
      none = none_down k c.args.below c.args.waits.now c.args.slots.now here (λ j low high. c.loop-end.invariant.none j (omega (arith, low, more)) high);
    }
