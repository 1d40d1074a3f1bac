use Rattle.std.proofs.Common.{◌∙◌}
use Rattle.af_meter.proofs.RowLemmas.{kept_row, line_free, line_is, row_free, row_kept}
use Rattle.af_meter.proofs.row.Row.after.Goals as goal

pub returns-in-Some-clause-row : goal.returns-in-Some-clause-row
returns-in-Some-clause-row c = λ before kept.
    let plan = c.args.plan in
    let span = c.in-Some.span in
    let next = c.row_after-row.result in
    let levels = c.args.levels.now in
    let was = kept_row plan span c.in-Some.is c.args.self next levels before kept in
    let now = c.row_after-row.ensures.row before was in
    (row_kept plan span c.in-Some.is c.args.self next levels before now, c.line_of_change.ensures ∙ line_is plan span c.in-Some.is c.args.self next levels before was now)

pub returns-in-None-clause-row : goal.returns-in-None-clause-row
returns-in-None-clause-row c = λ before kept. (row_free c.args.plan c.args.self _ c.in-None.is, line_free c.args.plan c.args.levels.now before c.in-None.is)
