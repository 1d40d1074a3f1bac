use Rattle.std.proofs.Common.{rules, arith, refl, ◌<◌, ◌-◌, ◌^◌}
use Rattle.af_toolkit.proofs.ToolPartLemmas.{keeps_all, keeps_on}
use Rattle.af_logger.proofs.LoopLemmas.{leaves_begin, leaves_on}
use Rattle.af_logger.proofs.PumpLemmas.{logging_begin, logging_done, logging_on, logging_stopped}
use Rattle.af_logger.proofs.RecordLemmas.{not_ok, records_begin, records_less, records_on}
use Rattle.af_logger.proofs.pump.log_pieces.Goals as goal

pub loop-left-init : goal.loop-left-init
loop-left-init g c = record {
  holds = keeps_all c.requires.usable;
  leaves = leaves_begin c.requires.logger c.requires.desk;
  whole = c.requires.whole;
  counted = λ none. (let count = c.count-left.ensures in omega (arith, none, count));
  few = (let count = c.count-left.ensures in omega (arith, count));
  records = records_begin;
  room = refl;
  logging = λ held. rw c.count-left.ensures logging_begin;
}

pub returns-in_err-log_piece-clause-goes : goal.returns-in_err-log_piece-clause-goes
returns-in_err-log_piece-clause-goes g c held =
    let i = c.loop-left.invariant in
    logging_stopped (i.logging held) (omega arith) (search rules) (rw i.leaves.plan at (c.in_err-log_piece.ensures.goes held))

pub loop-left-preserved : goal.loop-left-preserved
loop-left-preserved g c =
    let i = c.loop-left.invariant in
    let e = c.in_ok-log_piece.ensures in
    let next = e.next refl in
    record {
      holds = keeps_on i.holds e.holds;
      leaves = leaves_on _ i.leaves e.leaves;
      whole = next.1;
      counted = λ none. (let count = i.counted none in let few = i.few in let begun = e.begun refl in omega (arith, count, few, begun));
      few = i.few;
      records = records_on refl (λ none. (let count = i.counted none in let few = i.few in let room : c.loop-left.logger.begun < 2 ^ 64 - 1 = omega (arith, count, few) in room)) i.leaves.plan i.records e.records;
      room = search rules;
      logging = λ held. logging_on (i.logging held) (omega arith) (rw i.leaves.plan at (e.goes held)) (rw i.leaves.plan at next.0);
    }

pub returns-clause-goes : goal.returns-clause-goes
returns-clause-goes g c held = logging_done (c.loop-left.invariant.logging held) (omega arith)

pub returns-in_err-log_piece-clause-records : goal.returns-in_err-log_piece-clause-records
returns-in_err-log_piece-clause-records g c =
    let i = c.loop-left.invariant in
    records_less (λ none. none) (not_ok c.from_residual.result c.from_residual.ensures.0) (records_on refl (λ none. (let count = i.counted none in let few = i.few in let room : c.loop-left.logger.begun < 2 ^ 64 - 1 = omega (arith, count, few) in room)) i.leaves.plan i.records c.in_err-log_piece.ensures.records)

pub returns-clause-records : goal.returns-clause-records
returns-clause-records g c = c.loop-left.invariant.records

pub returns-clause-begun : goal.returns-clause-begun
returns-clause-begun g c ok none = (let count = c.loop-left.invariant.counted none in omega (arith, count))
