use Rattle.std.proofs.Common.{◌-◌, ◌∙◌, ap, length, refl, arith, rules}
use Rattle.af_state.specs.SharedState.{KeptSharedState}
use Rattle.af_core.proofs.EventLemmas.{next_hooked, none_hooked, all_hooked}
use Rattle.af_core.proofs.lines.give_hooks.Goals as goal

pub loop-number-init : goal.loop-number-init
loop-number-init g c = record {
  kept = c.requires.kept;
  count = refl;
  same = λ none. (refl, refl);
  leads = g.met.W.World.leads_to_itself _;
  simulates = none_hooked _ _ _ _ (omega arith);
}

pub loop-number-preserved : goal.loop-number-preserved
loop-number-preserved g c =
    let size = ap (λ (e : KeptSharedState). length e.devices) c.shared.view_is in record {
      kept = c.give_hook.ensures.kept;
      count = c.give_hook.ensures.count ∙ c.loop-number.invariant.count;
      same = search rules;
      leads = g.met.W.World.leads_on _ _ _ c.loop-number.invariant.leads c.give_hook.ensures.leads;
      simulates = next_hooked _ _ _ _ _ c.loop-number.number _ _ _ (omega (arith, size)) c.loop-number.invariant.simulates c.give_hook.ensures.simulates;
    }

pub returns-clause-simulates : goal.returns-clause-simulates
returns-clause-simulates g c = let size = ap (λ (e : KeptSharedState). length e.devices) c.shared.view_is in all_hooked _ _ (length c.args.shared.now.devices - c.loop-number.number) c.loop-number.number _ _ (omega (arith, size)) c.loop-number.invariant.simulates
