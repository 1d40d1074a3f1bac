use Rattle.std.proofs.Common.{◌≡◌, ◌-◌, ◌∙◌, ap, arith, false, is_some, rules, sym}
use Rattle.std.specs.declared.option.Option.{Option}
use Rattle.af_model.specs.State.{LinkState}
use Rattle.af_core.proofs.OpenBelowLemmas.{none_open_below}
use Rattle.af_core.proofs.slot.open_end.Goals as goal

pub loop-end-preserved : goal.loop-end-preserved
loop-end-preserved c =
    let some = c.loop-end-test.true in
    let shut : c.is_open.result ≡ false = search rules in
    record {
      bound = omega arith;
      none_open = none_open_below (c.loop-end.end - 1) c.args.slots.now c.index-slots-end.result (omega (arith, some))
          (sym (ap (λ (o : Option LinkState). is_some o) c.index-slots-end.is) ∙ sym c.is_open.ensures ∙ shut)
          (λ k from. c.loop-end.invariant.none_open k (omega (arith, from, some)));
    }
