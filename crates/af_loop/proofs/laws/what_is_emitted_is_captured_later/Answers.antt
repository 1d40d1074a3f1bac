use Rattle.af_loop.proofs.TicksLemmas.{hears_itself}
use Rattle.af_loop.proofs.laws.what_is_emitted_is_captured_later.Goals as goal

pub returns : goal.returns
returns c = hears_itself
