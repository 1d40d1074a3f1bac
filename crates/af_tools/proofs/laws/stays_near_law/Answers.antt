use Rattle.af_tools.proofs.PacingLemmas.{stays_near}
use Rattle.af_tools.proofs.laws.stays_near_law.Goals as goal

pub returns : goal.returns
returns c = stays_near
