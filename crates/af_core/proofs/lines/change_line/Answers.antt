use Rattle.std.proofs.Common.{◌∙◌, ap, option_map, subst}
use Rattle.std.specs.declared.option.Option.TheVariants.{None}
use Rattle.af_phone.specs.Lines.{line_after_change, value_of}
use Rattle.af_model.specs.Events.{line_becomes}
use Rattle.af_core.specs.Stands.{Kept, StandsFor, kept_of}
use Rattle.af_core.proofs.SharedStateLemmas.{device_kept}
use Rattle.af_core.proofs.EventLemmas.{line_changed, line_is}
use Rattle.af_core.proofs.TurnLemmas.{simulates_keep}
use Rattle.af_core.proofs.lines.change_line.Goals as goal

pub returns-clause-simulates : goal.returns-clause-simulates
returns-clause-simulates c = λ t.
    let d = c.args.number in
    let x = c.index.result.now in
    let here = device_kept d x c.shared.view_is c.requires.there c.index.ensures in
    let kept : Kept = kept_of c.args.shared.now c.args.slots.now in
    let new : Kept = kept_of c.become_line.new.shared c.become_line.new.slots in
    line_changed t kept new d c.args.change c.requires.there
    (λ s device h there.
    let line = c.changed-line.ensures ∙ ap (option_map (line_after_change c.args.change)) (c.line.ensures ∙ line_is kept d x s device here there h) in
    subst (λ kind. StandsFor new (line_becomes (line_after_change c.args.change) kind (value_of c.args.change) d device s)) c.event.ensures.kind
    (subst (λ value. StandsFor new (line_becomes (line_after_change c.args.change) c.event.result.0 value d device s)) c.event.ensures.value (c.become_line.ensures.step s device h there (line_after_change c.args.change) line)))

pub returns-clause-kept : goal.returns-clause-kept
returns-clause-kept c = simulates_keep _ _ (returns-clause-simulates c None) c.requires.kept c.become_line.ensures.kept
