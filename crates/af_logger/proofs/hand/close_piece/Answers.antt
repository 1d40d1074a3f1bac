use Rattle.std.proofs.Common.{◌≡◌, ◌≤◌, ◌++◌, List, ℕ, ap, length, take, subst, sym, arith}
use Rattle.af_logger.specs.Drafts.{IsTold, draft}
use Rattle.af_logger.specs.Sound.{pad_of}
use Rattle.af_logger.proofs.DraftLemmas.{handed_closed, some_bytes, told_padded}
use Rattle.af_logger.proofs.hand.close_piece.Goals as goal

pub returns-clause-taken : goal.returns-clause-taken
returns-clause-taken g c =
    let plan = c.args.plan.now in
    let given = c.hand_more.ensures in
    let took = c.hand_more.result in
    let pad = c.pad_of.ensures in
    let bytes = take took c.pad_of.result.now in
    let size : length c.pad_of.result.now ≡ length (pad_of plan) = ap (λ (l : List ℕ). length l) pad in
    let bound = given.bound in (
      bytes,
      handed_closed bytes _ _ _ given.taken c.close.ensures.closed,
      λ d is. subst (λ (l : List ℕ). IsTold plan c.args.piece (draft d.blocks (d.taken ++ take took l))) (sym pad) (told_padded plan c.args.piece d took (some_bytes plan c.requires.plan) given.cut (omega (arith, bound, size)) is),
    )
