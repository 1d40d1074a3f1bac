use Rattle.af_isolation.proofs.RunWithoutLemmas.{isolates_links}
use Rattle.af_isolation.proofs.isolation_law.Goals as goal

pub returns : goal.returns
returns c = isolates_links
