use Rattle.af_request.proofs.ReplyMessageLemmas.{reply_framed}
use Rattle.af_lib.proofs.laws.replies_are_messages.Goals as goal

pub returns : goal.returns
returns c = reply_framed
