use Rattle.std.proofs.Common.{rules}
use Rattle.af_core.proofs.AdvanceStepLemmas.{front_performed}
use Rattle.af_core.proofs.advance.perform_front.Goals as goal

pub perform_frame-requires-clause-asks : goal.perform_frame-requires-clause-asks
perform_frame-requires-clause-asks c = record { number = c.requires.asks.number; free = c.requires.asks.free; room = search rules }

pub returns-clause-step : goal.returns-clause-step
returns-clause-step c = front_performed c.args.number _ c.args.shared.now _ c.args.link.now _ _ _ c.take_front.ensures.link c.take_front.ensures.front c.requires.there c.perform_frame.ensures.step
