use Rattle.std.proofs.Common.{rules, arith, refl, subst}
use Rattle.af_toolkit.proofs.ToolPartLemmas.{keeps_all, keeps_on}
use Rattle.af_logger.proofs.LoopLemmas.{leaves_begin, leaves_on, left_begin, left_on, left_over}
use Rattle.af_logger.proofs.PumpLemmas.{taking_begin, taking_done, taking_on, taking_stopped}
use Rattle.af_logger.specs.declared.plan.Plan.{Plan}
use Rattle.af_logger.specs.Story.{NextBegun}
use Rattle.af_logger.proofs.RecordLemmas.{can_begin, counted_on, not_ok, records_begin, records_less, records_on}
use Rattle.af_logger.proofs.pump.log_piece.Goals as goal

pub loop-left-init : goal.loop-left-init
loop-left-init g c = record {
  holds = keeps_all c.requires.usable;
  leaves = leaves_begin c.requires.logger c.requires.desk;
  left = left_begin c.requires.logger.plan.frames.0 c.requires.whole;
  counted = record { none = λ all. refl; one = λ less. absurd (omega (arith, less)) };
  records = records_begin;
  room = refl;
  taking = λ held. taking_begin c.args.logger.now.plan c.args.logger.now.at.0;
}

pub returns-in_err-log_block-clause-goes : goal.returns-in_err-log_block-clause-goes
returns-in_err-log_block-clause-goes g c held =
    let i = c.loop-left.invariant in
    taking_stopped (i.taking held) (omega arith) c.min-frames.ensures (search rules) (rw i.leaves.plan at (c.in_err-log_block.ensures.goes held))

pub loop-left-preserved : goal.loop-left-preserved
loop-left-preserved g c =
    let i = c.loop-left.invariant in
    let e = c.in_ok-log_block.ensures in
    let next = e.next refl in
    let least = c.min-frames.ensures in
    let block = i.leaves.logger.plan.block.0 in
    record {
      holds = keeps_on i.holds e.holds;
      leaves = leaves_on _ i.leaves e.leaves;
      left = left_on i.left (omega arith) (omega arith) next.2 (rw i.leaves.plan at (next.3 c.loop-left.left (rw i.leaves.plan (i.left.some (omega arith))))) next.0;
      counted = counted_on i.left (omega arith) (omega arith) (subst (λ (p : Plan). NextBegun p c.loop-left.logger.last c.loop-left.logger.begun c.log_block.new.logger.begun) i.leaves.plan (e.begun refl)) i.counted;
      records = records_on refl (can_begin i.leaves.plan i.left (omega arith) i.counted) i.leaves.plan i.records e.records;
      room = search rules;
      taking = λ held. taking_on (i.taking held) (omega arith) least (omega arith) (rw i.leaves.plan at (e.goes held)) next.0;
    }

pub returns-clause-goes : goal.returns-clause-goes
returns-clause-goes g c held = taking_done (c.loop-left.invariant.taking held) (omega arith)

pub returns-clause-next : goal.returns-clause-next
returns-clause-next g c ok =
    let i = c.loop-left.invariant in
    (left_over c.requires.logger.plan.frames.0 i.left (omega arith), rw i.leaves.plan (i.left.whole (omega arith)))

pub returns-in_err-log_block-clause-records : goal.returns-in_err-log_block-clause-records
returns-in_err-log_block-clause-records g c =
    let i = c.loop-left.invariant in
    records_less (λ can. can) (not_ok c.from_residual.result c.from_residual.ensures.0) (records_on refl (can_begin i.leaves.plan i.left (omega arith) i.counted) i.leaves.plan i.records c.in_err-log_block.ensures.records)

pub returns-clause-records : goal.returns-clause-records
returns-clause-records g c = c.loop-left.invariant.records

pub returns-clause-begun : goal.returns-clause-begun
returns-clause-begun g c ok = (let some = c.requires.logger.plan.frames.0 in c.loop-left.invariant.counted.one (omega (arith, some)))
