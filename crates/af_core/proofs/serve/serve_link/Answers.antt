use Rattle.af_state.proofs.DeferralLemmas.{leaves_others_on}
use Rattle.af_core.proofs.LinkPhaseLemmas.{serves}
use Rattle.af_core.proofs.serve.serve_link.Goals as goal

pub returns-clause-simulates : goal.returns-clause-simulates
returns-clause-simulates g c = serves _ _ _ _ c.args.number _ _ _ _ _ _ _ c.read_link.ensures.simulates c.write_link.ensures.simulates (c.close_link.ensures.simulates _)

pub returns-clause-link : goal.returns-clause-link
returns-clause-link g c = record { settled = c.write_link.ensures.link.settled; leaves_others = leaves_others_on _ _ _ _ c.read_link.ensures.link.leaves_others c.write_link.ensures.link.leaves_others }

pub write_link-requires : goal.write_link-requires
write_link-requires g c = record { link = record { number = c.requires.link.number; settled = c.read_link.ensures.link.settled } }
