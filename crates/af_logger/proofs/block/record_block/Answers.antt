use Rattle.std.proofs.Common.{rules, arith, ◌≡◌, length, take, refl, sym}
use Rattle.std.proofs.lemmas.List.{take_all}
use Rattle.af_toolkit.proofs.PartLemmas.{goes_stop, goes_through, goes_value}
use Rattle.af_toolkit.proofs.ToolPartLemmas.{asks_go, is_tool}
use Rattle.af_logger.proofs.PumpLemmas.{block_fault}
use Rattle.af_logger.proofs.block.record_block.Goals as goal

pub returns-in_err-reply-clause-goes : goal.returns-in_err-reply-clause-goes
returns-in_err-reply-clause-goes g c held =
    rw (sym c.requires.size) (goes_stop is_tool _ (block_fault c.record_run.new.into (search rules)) (asks_go c.in_err-reply.ensures.called c.requires.usable refl))

pub returns-clause-goes : goal.returns-clause-goes
returns-clause-goes g c held =
    let all : c.in_ok-reply.reply.1 ≡ length c.args.block.now = c.in_ok-reply.ensures.all refl in
    let whole : take c.in_ok-reply.reply.1 c.record_run.new.into ≡ c.record_run.new.into = take_all c.in_ok-reply.reply.1 c.record_run.new.into (omega arith) in
    rw (sym c.requires.size, c.came_at.ensures.frames, c.came_at.ensures.lost, c.file_samples.ensures)
    (goes_through is_tool _ (asks_go (rw whole at c.in_ok-reply.ensures.called) c.requires.usable refl) (goes_value is_tool _))
