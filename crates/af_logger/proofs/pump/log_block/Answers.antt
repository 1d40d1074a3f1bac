use Rattle.std.proofs.Common.{rules, refl, arith, ap, ◌∙◌, ◌+◌, ◌%◌, ◌^◌, None}
use Rattle.af_time.specs.declared.DevTime.{DevTime}
use Rattle.af_logger.specs.Drafts.{came_as}
use Rattle.af_logger.specs.Story.{CanBegin}
use Rattle.af_toolkit.specs.ToolParts.{link_sight}
use Rattle.af_toolkit.proofs.PartLemmas.{goes_stop, goes_through, goes_value}
use Rattle.af_toolkit.proofs.ToolPartLemmas.{is_tool}
use Rattle.af_logger.proofs.PumpLemmas.{goes_cut}
use Rattle.af_logger.proofs.RecordLemmas.{block_came, not_ok, records_block, records_less, records_none, some_recorded}
use Rattle.af_logger.proofs.pump.log_block.Goals as goal

pub returns-in_err-came-clause-goes : goal.returns-in_err-came-clause-goes
returns-in_err-came-clause-goes g c held = goes_stop is_tool _ (search rules) (c.in_err-came.ensures.goes held)

pub returns-then-logger-clause-goes : goal.returns-then-logger-clause-goes
returns-then-logger-clause-goes g c held = goes_cut _ refl refl (c.in_ok-came.ensures.goes held)

pub returns-clause-goes : goal.returns-clause-goes
returns-clause-goes g c held = goes_through is_tool _ (c.in_ok-came.ensures.goes held) (goes_value is_tool tt)

pub returns-in_err-came-clause-records : goal.returns-in_err-came-clause-records
returns-in_err-came-clause-records g c = records_less (λ can. can) (not_ok c.from_residual.result c.from_residual.ensures.0) (records_none {Can = CanBegin c.args.logger.now} {job = c.args.task.now.job.now} {logger = c.args.logger.now} {before = link_sight g.L.Link.left g.L.Link.sent c.args.conn.now} {after = link_sight g.L.Link.left g.L.Link.sent c.record_block.new.conn} {desk = g.C.Commands.desk c.args.commands.now} {held = g.K.Sink.held c.args.sink.now})

pub returns-then-logger-clause-records : goal.returns-then-logger-clause-records
returns-then-logger-clause-records g c =
    let e = c.in_ok-came.ensures in
    let h = c.hand_on.ensures in
    let left = c.requires.left in
    let some = c.requires.some in
    let frames = e.frames.0 in
    let old = c.args.logger.now in
    records_block old c.hand_on.new.logger c.look.new.self c.after-logger.result (came_as c.in_ok-came.came c.record_block.new.block) (block_came old.plan old.at.0 c.args.frames (e.goes None)) frames (c.after-logger.ensures ∙ ap (λ (t : DevTime). (t.0 + c.args.frames) % 2 ^ 32) h.same.1) h.story h.placed
    (some_recorded old.last left.0 h.last.0 h.same.0 left.1 (omega (arith, some, frames)) h.last.1 (h.last.2 left.0 left.1) h.logger.last) c.look.ensures.same c.look.ensures.ended

pub returns-clause-records : goal.returns-clause-records
returns-clause-records g c =
    let e = c.in_ok-came.ensures in
    let h = c.hand_on.ensures in
    let left = c.requires.left in
    let some = c.requires.some in
    let frames = e.frames.0 in
    let old = c.args.logger.now in
    records_block old c.hand_on.new.logger c.look.new.self c.after-logger.result (came_as c.in_ok-came.came c.record_block.new.block) (block_came old.plan old.at.0 c.args.frames (e.goes None)) frames (c.after-logger.ensures ∙ ap (λ (t : DevTime). (t.0 + c.args.frames) % 2 ^ 32) h.same.1) h.story h.placed
    (some_recorded old.last left.0 h.last.0 h.same.0 left.1 (omega (arith, some, frames)) h.last.1 (h.last.2 left.0 left.1) h.logger.last) c.look.ensures.same c.look.ensures.ended
