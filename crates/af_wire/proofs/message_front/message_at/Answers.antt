use Rattle.std.proofs.Common.{◌≡◌, ◌+◌, ◌*◌, rules}
use Rattle.std.specs.Prelude.{slice_index_or}
use Rattle.af_wire.specs.declared.message_front.MessageFront.TheVariants.{NeedMore, Message}
use Rattle.af_wire.specs.MessageFront.{message_front}
use Rattle.af_wire.proofs.MessageFrontLemmas.{message_exactly}
use Rattle.af_wire.proofs.message_front.message_at.Goals as goal

pub returns-then-input-length-clause-exactly : goal.returns-then-input-length-clause-exactly
returns-then-input-length-clause-exactly c =
    let is : NeedMore (8 + 4 * c.u32-words.result) ≡ message_front c.args.order c.args.input.now = search rules in
    λ front. message_exactly c.args.order c.args.input.now _ front is

pub returns-else-input-length-clause-exactly : goal.returns-else-input-length-clause-exactly
returns-else-input-length-clause-exactly c =
    let input = c.args.input.now in
    let is : Message (slice_index_or input 0 0) (slice_index_or input 1 0) c.u16-sequence.result (8 + 4 * c.u32-words.result) ≡ message_front c.args.order input = search rules in
    λ front. message_exactly c.args.order input _ front is
