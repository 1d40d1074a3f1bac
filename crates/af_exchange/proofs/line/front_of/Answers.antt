use Rattle.std.proofs.Common.{◌<◌, ◌∙◌, sym, subst, arith}
use Rattle.af_exchange.proofs.ReadingLemmas.{says-nothing, says-change, says-fault, says-too-much, says-part}
use Rattle.af_exchange.proofs.line.front_of.Goals as goal

pub returns-then-end-gt-LONGEST_LINE : goal.returns-then-end-gt-LONGEST_LINE
returns-then-end-gt-LONGEST_LINE c = says-too-much c.args.bytes.now (subst (λ n. 64 < n) c.count_before_end-end.ensures.count c.if-end-gt-LONGEST_LINE.true)

pub returns-then-end-bytes : goal.returns-then-end-bytes
returns-then-end-bytes c =
    says-part c.args.bytes.now (sym c.count_before_end-end.ensures.count ∙ c.if-end-bytes.true)
    (let is = c.count_before_end-end.ensures.count in let most = c.if-end-gt-LONGEST_LINE.false in grind arith)

pub returns-in-Comment : goal.returns-in-Comment
returns-in-Comment c =
    says-nothing c.args.bytes.now c.count_before_end-end.result c.count_before_end-end.ensures.count
    (let most = c.count_before_end-end.ensures.bound in let other = c.if-end-bytes.false in grind arith)
    c.if-end-gt-LONGEST_LINE.false c.in-Comment.ensures.said

pub returns-in-Change : goal.returns-in-Change
returns-in-Change c = (
  says-change c.args.bytes.now c.count_before_end-end.result c.in-Change.change c.count_before_end-end.ensures.count
      (let most = c.count_before_end-end.ensures.bound in let other = c.if-end-bytes.false in grind arith)
      c.if-end-gt-LONGEST_LINE.false c.in-Change.ensures.said,
  c.in-Change.ensures.possible,
)

pub returns-in-Fault : goal.returns-in-Fault
returns-in-Fault c =
    says-fault c.args.bytes.now c.count_before_end-end.result c.count_before_end-end.ensures.count
    (let most = c.count_before_end-end.ensures.bound in let other = c.if-end-bytes.false in grind arith)
    c.if-end-gt-LONGEST_LINE.false c.in-Fault.ensures.said
