use Rattle.af_buffers.proofs.RecordRingLemmas.{last_of-silence}
use Rattle.af_buffers.proofs.record.RecordBuffer.new.Goals as goal

pub returns-clause-last : goal.returns-clause-last
returns-clause-last c = last_of-silence c.in_ok-ring.ring c.args.now.0 c.args.channels c.args.horizon _ c.in_ok-ring.ensures
