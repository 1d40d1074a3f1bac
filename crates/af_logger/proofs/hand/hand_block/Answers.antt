use Rattle.std.proofs.Common.{◌≡◌, ◌++◌, ◌∷◌, [], Bool, List, ℕ, append_assoc, arith, subst, sym, true, false}
use Rattle.std.proofs.lemmas.Bool.{eq-eqb, ne_eqb}
use Rattle.af_logger.specs.Commands.{Changed}
use Rattle.af_logger.specs.Drafts.{IsTold, StandsFor, came_as, draft, took_by, with_block}
use Rattle.af_logger.proofs.DraftLemmas.{handed_open, handed_twice, told_so_far}
use Rattle.af_logger.proofs.hand.hand_block.Goals as goal

pub returns-then-piece-plan-clause-taken : goal.returns-then-piece-plan-clause-taken
returns-then-piece-plan-clause-taken g c =
    let one = c.hand_frames-piece.ensures.taken in
    let two = c.close_piece.ensures.taken in
    let plan = c.args.plan.now in
    let piece = c.hand_frames-piece.result in
    let block = came_as c.args.came c.args.samples.now in (
      one.0 ++ two.0,
      subst (λ (b : Bool). Changed (took_by (one.0 ++ two.0) b) (g.C.Commands.desk c.args.commands.now) (g.C.Commands.desk c.close_piece.new.commands)) (sym (eq-eqb piece.recorded plan.frames c.if-piece-plan.true)) (handed_twice one.0 two.0 true _ _ _ one.1 two.1),
      λ d is. record {
        told = subst (λ (l : List ℕ). IsTold plan piece (draft (d.blocks ++ block ∷ []) l)) (append_assoc d.taken one.0 two.0) (two.2 (with_block d block one.0) (one.2 d is));
        open_so_far = λ less. (let whole = c.if-piece-plan.true in absurd (omega (arith, less, whole)));
      },
    )

pub returns-else-piece-plan-clause-taken : goal.returns-else-piece-plan-clause-taken
returns-else-piece-plan-clause-taken g c =
    let one = c.hand_frames-piece.ensures.taken in
    let plan = c.args.plan.now in
    let piece = c.hand_frames-piece.result in (
      one.0,
      subst (λ (b : Bool). Changed (took_by one.0 b) (g.C.Commands.desk c.args.commands.now) (g.C.Commands.desk c.hand_frames-piece.new.commands)) (sym (ne_eqb piece.recorded plan.frames c.if-piece-plan.false)) (handed_open one.0 _ _ c.requires.desk one.1),
      λ d is. record { told = told_so_far plan piece _ (one.2 d is); open_so_far = λ less. one.2 d is },
    )
