use Rattle.std.proofs.Common.{rules, arith, ◌≡◌, length, take, refl, Ok, Err}
use Rattle.std.proofs.lemmas.List.{take_all}
use Rattle.af_toolkit.proofs.ToolPartLemmas.{asks_go}
use Rattle.af_meter.proofs.IntervalLemmas.{recorded_fault}
use Rattle.af_meter.proofs.interval.record_block.Goals as goal

pub returns-in_err-reply-clause-goes : goal.returns-in_err-reply-clause-goes
returns-in_err-reply-clause-goes g c held = asks_go c.in_err-reply.ensures.called c.requires.usable (recorded_fault c.in_err-reply.field-0.0 _ (search rules))

pub returns-clause-goes : goal.returns-clause-goes
returns-clause-goes g c held =
    let all : c.in_ok-reply.reply.1 ≡ length c.args.block.now = c.in_ok-reply.ensures.all refl in
    let whole : take c.in_ok-reply.reply.1 c.record_run.new.into ≡ c.record_run.new.into = take_all c.in_ok-reply.reply.1 c.record_run.new.into (omega arith) in
    asks_go (rw whole at c.in_ok-reply.ensures.called) c.requires.usable refl
