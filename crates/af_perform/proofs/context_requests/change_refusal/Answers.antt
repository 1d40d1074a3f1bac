use Rattle.std.proofs.Common.{rules}
use Rattle.af_model.specs.ContextRequests.{change_refusal}
use Rattle.af_perform.proofs.context_requests.change_refusal.Goals as goal

pub returns : goal.returns
unfolding change_refusal
returns c = search rules
