use Rattle.std.proofs.Common.{rules}
use Rattle.af_model.specs.ContextRequests.{creation_refusal}
use Rattle.af_perform.proofs.context_requests.creation_refusal.Goals as goal

pub returns : goal.returns
unfolding creation_refusal
returns c = search rules
