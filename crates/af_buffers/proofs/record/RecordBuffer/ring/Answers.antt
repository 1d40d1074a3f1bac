use Rattle.std.proofs.Common.{subst}
use Rattle.af_buffers.specs.RecordBuffer.{HoldsLast}
use Rattle.af_buffers.proofs.RecordRingLemmas.{holds_last}
use Rattle.af_buffers.proofs.record.RecordBuffer.ring.Goals as goal

pub returns-clause-held : goal.returns-clause-held
returns-clause-held c = subst HoldsLast c.self.view_is (holds_last c.self.inside.ring c.self.inside.time.0 c.self.inside.channels c.self.inside.horizon c.self.invariant)
