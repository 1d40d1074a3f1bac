use Rattle.std.proofs.Common.{take, arith}
use Rattle.std.proofs.lemmas.Bool.{ltb-false}
use Rattle.std.proofs.lemmas.List.{length-take-le}
use Rattle.af_logger.proofs.DraftLemmas.{head_draft, some_bytes}
use Rattle.af_logger.proofs.hand.hand_head.Goals as goal

pub returns-clause-taken : goal.returns-clause-taken
returns-clause-taken g c =
    let head = c.write_head-size.ensures in
    let begins = c.requires.begins in
    let whole = take c.write_head-size.result c.write_head-size.new.room in (
      take c.hand-took.result whole,
      c.hand-took.ensures.taken,
      head_draft c.args.plan.now _ whole c.hand-took.result (some_bytes c.args.plan.now c.requires.plan) head.bytes c.hand-took.ensures.bound begins.0 begins.1 begins.2 (λ no. (let size = length-take-le c.write_head-size.result c.write_head-size.new.room head.within in let least = ltb-false c.hand-took.result c.write_head-size.result no in omega (arith, size, least))),
    )
