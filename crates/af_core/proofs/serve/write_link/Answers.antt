use Rattle.std.proofs.Common.{rules}
use Rattle.af_state.proofs.DeferralLemmas.{leaves_others_on}
use Rattle.af_core.proofs.SimulationLemmas.{simulates_more}
use Rattle.af_core.proofs.LinkPhaseLemmas.{writes_nothing}
use Rattle.af_core.proofs.serve.write_link.Goals as goal

pub loop-shared-preserved : goal.loop-shared-preserved
loop-shared-preserved g c = record {
  number = c.loop-shared.invariant.number;
  link = record { settled = c.write_once.ensures.link.settled; leaves_others = leaves_others_on _ _ _ _ c.loop-shared.invariant.link.leaves_others c.write_once.ensures.link.leaves_others };
  leads = g.met.W.World.leads_on _ _ _ c.loop-shared.invariant.leads c.write_once.ensures.leads;
  simulates = simulates_more c.loop-shared.invariant.simulates c.write_once.ensures.simulates;
}

pub returns-clause-simulates : goal.returns-clause-simulates
returns-clause-simulates g c = simulates_more c.loop-shared.invariant.simulates (writes_nothing _ _ _ _ (search rules))

pub write_once-requires-clause-link : goal.write_once-requires-clause-link
write_once-requires-clause-link g c = record { number = c.loop-shared.invariant.number; settled = c.loop-shared.invariant.link.settled }
