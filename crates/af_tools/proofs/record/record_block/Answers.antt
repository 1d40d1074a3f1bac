use Rattle.std.proofs.Common.{rules, arith, ◌≡◌, length, take, refl, Ok, Err}
use Rattle.std.proofs.lemmas.List.{take_all}
use Rattle.af_toolkit.specs.declared.end.ToolEnd.TheVariants as end
use Rattle.af_toolkit.proofs.PartLemmas.{goes_stop, goes_through, goes_value}
use Rattle.af_toolkit.proofs.ToolPartLemmas.{asks_go, is_tool, writes_go}
use Rattle.af_tools.proofs.RecordBlockLemmas.{written_coding}
use Rattle.af_tools.proofs.record.record_block.Goals as goal

pub returns-in_err-reply-clause-goes : goal.returns-in_err-reply-clause-goes
returns-in_err-reply-clause-goes g c = goes_stop is_tool _ (search rules) (asks_go c.in_err-reply.ensures.called c.requires.usable refl)

pub returns-in-Done-clause-goes : goal.returns-in-Done-clause-goes
returns-in-Done-clause-goes g c =
    let all : c.in_ok-reply.reply.1 ≡ length c.args.block.now = c.in_ok-reply.ensures.all refl in
    let whole : take c.in_ok-reply.reply.1 c.record_run.new.into ≡ c.record_run.new.into = take_all c.in_ok-reply.reply.1 c.record_run.new.into (omega arith) in
    rw (c.peak-peak.ensures, c.had_left-lost.ensures) (goes_through is_tool _ (asks_go (rw whole at c.in_ok-reply.ensures.called) c.requires.usable refl)
    (goes_through is_tool _ (writes_go g.K.Sink.held _ (Ok tt) c.args.sink.now c.write.new.self (rw c.file_samples.ensures at c.in-Done.ensures.written)) (goes_value is_tool _)))

pub returns-in-Failed-clause-goes : goal.returns-in-Failed-clause-goes
returns-in-Failed-clause-goes g c =
    let all : c.in_ok-reply.reply.1 ≡ length c.args.block.now = c.in_ok-reply.ensures.all refl in
    let whole : take c.in_ok-reply.reply.1 c.record_run.new.into ≡ c.record_run.new.into = take_all c.in_ok-reply.reply.1 c.record_run.new.into (omega arith) in
    goes_through is_tool _ (asks_go (rw whole at c.in_ok-reply.ensures.called) c.requires.usable refl)
    (goes_stop is_tool _ refl (writes_go g.K.Sink.held _ (Err end.SinkFault) c.args.sink.now c.write.new.self (refl, rw c.file_samples.ensures at c.in-Failed.ensures.written)))

pub file_samples-requires-clause-written : goal.file_samples-requires-clause-written
file_samples-requires-clause-written g c = written_coding c.args.sound.coding c.args.sound.ty c.requires.filed
