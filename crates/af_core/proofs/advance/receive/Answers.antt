use Rattle.std.proofs.Common.{◌≡◌, ◌∙◌, ◌++◌, rules}
use Rattle.af_model.specs.State.{LinkState}
use Rattle.af_core.proofs.AdvanceStepLemmas.{bytes_unread, frame_in_place, nothing_more}
use Rattle.af_core.proofs.advance.receive.Goals.{then-not-is_empty, else-not-is_empty}
use Rattle.af_core.proofs.advance.receive.Goals as goal

pub returns-after-not-is_empty-clause-on : goal.returns-after-not-is_empty-clause-on
returns-after-not-is_empty-clause-on c =
    let l : LinkState = c.args.link.now in
    let after = c.split_at.result.1.now in
    let unread : c.if-not-is_empty.link ≡ record l { rest = l.rest ++ after } =
    elim c.if-not-is_empty.branch [ then-not-is_empty w ↦ w.link-is ∙ w.take_in.ensures | else-not-is_empty w ↦ w.link-is ∙ nothing_more l after (search rules) ] in
    frame_in_place c.args.number c.in-Some.n c.args.shared.now _ l _ _ c.args.bytes.now c.split_at.result.0.now after
    c.requires.takes c.in-Some.ensures c.split_at.ensures.front_len c.split_at.ensures.by_index.0 unread c.perform_frame.ensures.step

pub returns-in-None-clause-on : goal.returns-in-None-clause-on
returns-in-None-clause-on c = bytes_unread c.args.number c.args.shared.now _ _ (search rules)
