use Rattle.std.proofs.Common.{rules, ◌≡◌, ◌+◌, ◌/◌, ◌∙◌, min, take, ap, arith, length}
use Rattle.std.proofs.lemmas.Bool.{ltb-false}
use Rattle.af_logger.specs.Drafts.{came_as}
use Rattle.af_logger.specs.Plans.{frame_size}
use Rattle.af_logger.proofs.DraftLemmas.{block_draft, some_bytes}
use Rattle.af_logger.proofs.hand.hand_frames.Goals as goal

pub returns-clause-taken : goal.returns-clause-taken
returns-clause-taken g c =
    let plan = c.args.plan.now in
    let took = c.hand_more-took.result in
    let given = c.hand_more-took.ensures in
    let frames : took / c.frame_bytes.result ≡ took / frame_size plan = ap (λ n. took / n) c.frame_bytes.ensures in
    let least = c.min.ensures in
    let lost : c.args.piece.lost + c.min.result ≡ c.args.piece.lost + min c.args.came.lost (took / frame_size plan) = omega (arith, least, frames) in (
      take took c.args.samples.now,
      given.taken,
      λ d is. block_draft plan c.args.piece d (some_bytes plan c.requires.plan) is (came_as c.args.came c.args.samples.now) took c.requires.some c.requires.samples given.bound _ given.cut (search rules) (ap (λ n. c.args.piece.handed + n) frames) lost (λ uncut. ltb-false took (length c.args.samples.now) uncut),
    )
