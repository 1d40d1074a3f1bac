use Rattle.std.proofs.Common.{rules}
use Rattle.af_model.specs.Reply.{reply_message}
use Rattle.af_state.proofs.link.ServedLink.reply_recorded.Goals as goal

pub returns : goal.returns
unfolding reply_message
returns c = search rules
