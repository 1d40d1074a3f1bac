use Rattle.std.proofs.Common.{refl}
use Rattle.af_request.proofs.BigLemmas.{same_requests, same_answers, same_replies}
use Rattle.af_request.proofs.laws.big_is_as_before.Goals as goal

pub returns : goal.returns
returns c = record { asks = λ frame. refl; requests = same_requests; answers = same_answers; replies = same_replies }
