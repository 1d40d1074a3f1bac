use Rattle.std.proofs.Common.{refl}
use Rattle.af_wire.specs.Message.{head, error}
use Rattle.af_wire.specs.Event.{event_bytes}
use Rattle.af_wire.specs.big as big
use Rattle.af_wire.proofs.BigLemmas.{same_setups, same_frames, same_messages}
use Rattle.af_wire.proofs.laws.big_is_as_before.Goals as goal

pub returns-clause-setups : goal.returns-clause-setups
returns-clause-setups c = same_setups

pub returns-clause-frames : goal.returns-clause-frames
returns-clause-frames c = same_frames

pub returns-clause-messages : goal.returns-clause-messages
returns-clause-messages c = same_messages

pub returns-clause-heads : goal.returns-clause-heads
unfolding head big.head
returns-clause-heads c = λ kind detail sequence words. refl

pub returns-clause-errors : goal.returns-clause-errors
unfolding head error big.head big.error
returns-clause-errors c = λ code value opcode sequence. refl

pub returns-clause-events : goal.returns-clause-events
unfolding head event_bytes big.head big.event_bytes
returns-clause-events c = λ e sequence. refl

pub returns-clause-again : goal.returns-clause-again
returns-clause-again c = λ detail body. refl
