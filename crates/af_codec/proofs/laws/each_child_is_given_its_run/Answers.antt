use Rattle.af_codec.proofs.RunLemmas.{FeedsOnce-fed_runs, runs_told-fed_runs}
use Rattle.af_codec.proofs.laws.each_child_is_given_its_run.Goals as goal

pub returns-clause-runs : goal.returns-clause-runs
returns-clause-runs c = runs_told-fed_runs

pub returns-clause-once : goal.returns-clause-once
returns-clause-once c = FeedsOnce-fed_runs
