use Rattle.std.proofs.Common.{◌≡◌, ◌+◌, ◌%◌, ◌^◌, ◌∙◌, ℕ, ap, arith, sym}
use Rattle.af_time.specs.declared.DevTime.{DevTime}
use Rattle.af_logger.specs.Drafts.{came_as}
use Rattle.af_logger.proofs.StoryLemmas.{handed_story}
use Rattle.af_logger.proofs.hand.hand_on.Goals as goal

pub returns-clause-placed : goal.returns-clause-placed
returns-clause-placed g c start placed =
    let piece = c.open_piece-piece.result in
    let given = c.hand_block.ensures in
    let at : c.hand_block.result.at.0 ≡ piece.at.0 = ap (λ (t : DevTime). t.0) given.same.1 in
    let recorded = given.recorded in
    let sum : piece.at.0 + piece.recorded + c.args.came.frames ≡ c.hand_block.result.at.0 + c.hand_block.result.recorded = omega (arith, at, recorded) in
    sym (c.open_piece-piece.ensures.placed start placed c.args.came.frames) ∙ ap (λ (n : ℕ). n % 2 ^ 32) sum

pub returns-clause-story : goal.returns-clause-story
returns-clause-story g c o past can placed i =
    let opened = c.open_piece-piece.ensures in
    let given = c.hand_block.ensures in
    handed_story past c.open_piece-piece.result c.hand_block.result (came_as c.args.came c.args.samples.now) given.taken.0 opened.same.0 opened.last.0 (opened.story o past can placed i) opened.last.1 given.taken.1 given.same.0 given.same.1 given.taken.2
