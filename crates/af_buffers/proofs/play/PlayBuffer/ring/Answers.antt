use Rattle.std.proofs.Common.{subst}
use Rattle.af_buffers.specs.PlayBuffer.{HoldsNext}
use Rattle.af_buffers.proofs.PlayRingLemmas.{holds_next}
use Rattle.af_buffers.proofs.play.PlayBuffer.ring.Goals as goal

pub returns-clause-held : goal.returns-clause-held
returns-clause-held c = subst HoldsNext c.self.view_is (holds_next c.self.inside.ring c.self.inside.time.0 c.self.inside.channels c.self.inside.horizon c.self.invariant)
