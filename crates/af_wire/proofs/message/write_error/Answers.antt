use Rattle.std.proofs.Common.{◌≡◌, ◌++◌, rules}
use Rattle.af_wire.specs.Message.{error, head}
use Rattle.af_wire.proofs.MessageRoundTrips.{error_stated}
use Rattle.af_wire.proofs.message.write_error.Goals as goal

pub returns-clause-again : goal.returns-clause-again
unfolding error head
returns-clause-again c =
    let bytes : c.write_head.new.out ++ c.copy_from_slice.new.self ≡ error c.args.order c.args.code c.args.value c.args.opcode c.args.sequence = search rules in
    error_stated c.args.order c.args.code c.args.value c.args.opcode c.args.sequence _ bytes c.ranges.value.fits
