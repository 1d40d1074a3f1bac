use Rattle.af_buffers.proofs.PlayRingLemmas.{next_of-silence}
use Rattle.af_buffers.proofs.play.PlayBuffer.new.Goals as goal

pub returns-clause-next : goal.returns-clause-next
returns-clause-next c = next_of-silence c.in_ok-ring.ring c.args.now.0 c.args.channels c.args.horizon _ c.in_ok-ring.ensures
