use Rattle.std.proofs.Common.{rules, arith, ◌≡◌, true, false, refl}
use Rattle.af_meter.specs.Levels.{is_below}
use Rattle.af_meter.proofs.RowLemmas.{row_becomes, row_longer, row_loud, row_still}
use Rattle.af_meter.proofs.row.row_after.Goals as goal

pub returns-then-not-are_below-clause-row : goal.returns-then-not-are_below-clause-row
returns-then-not-are_below-clause-row c = λ before is.
    let loud : is_below c.args.span.below c.args.levels.now ≡ false = search rules in
    row_loud c.args.span c.args.frames c.args.row c.args.levels.now before is c.requires.span.0 loud refl refl

pub returns-then-quiet-clause-row : goal.returns-then-quiet-clause-row
returns-then-quiet-clause-row c = λ before is.
    let low : is_below c.args.span.below c.args.levels.now ≡ true = search rules in
    row_still c.args.span c.args.frames c.args.row c.args.levels.now before is low c.if-quiet.true c.if-quiet.true

pub returns-then-low-least-clause-row : goal.returns-then-low-least-clause-row
returns-then-low-least-clause-row c = λ before is.
    let low : is_below c.args.span.below c.args.levels.now ≡ true = search rules in
    row_becomes c.args.span c.args.frames c.args.row c.args.levels.now before is low c.if-quiet.false (omega (arith, c.if-low-least.true)) refl

pub returns-else-low-least-clause-row : goal.returns-else-low-least-clause-row
returns-else-low-least-clause-row c = λ before is.
    let low : is_below c.args.span.below c.args.levels.now ≡ true = search rules in
    row_longer c.args.span c.args.frames c.args.row c.args.levels.now before is low c.if-quiet.false (omega (arith, c.if-low-least.false)) refl refl
