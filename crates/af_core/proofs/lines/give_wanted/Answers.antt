use Rattle.std.proofs.Common.{◌∙◌, ap, cond, true, false, length, length-set, option_map, slice_set, sym, subst}
use Rattle.af_wire.specs.declared.event.EventKind.TheVariants as kind
use Rattle.af_phone.specs.Lines.{line_after_hook}
use Rattle.af_model.specs.Events.{after_hook, after_hook_failure, line_becomes}
use Rattle.af_state.specs.SharedState.{KeptSharedState}
use Rattle.af_core.specs.Stands.{AreOrderly, Kept, StandsFor, kept_of}
use Rattle.af_core.proofs.SharedStateLemmas.{device_inside, device_kept}
use Rattle.af_core.proofs.EventLemmas.{hooks_one, line_is, lines_set}
use Rattle.af_core.proofs.TurnLemmas.{simulates_keep}
use Rattle.af_core.proofs.lines.give_wanted.Goals as goal

pub returns-then-done-clause-simulates : goal.returns-then-done-clause-simulates
returns-then-done-clause-simulates g c =
    let here = device_kept c.args.number c.index.result.now c.shared.view_is c.requires.there c.index.ensures in
    let kept : Kept = kept_of c.args.shared.now c.args.slots.now in
    let new : Kept = kept_of c.become_line.new.shared c.become_line.new.slots in
    hooks_one _ _ kept new c.args.number c.index.result.now c.args.off c.hook-done.result c.requires.there here (c.requires.wanted c.index.result.now here) c.hook-done.ensures.log
    (λ s device h there.
    let line = c.hooked-line.ensures ∙ ap (λ b. option_map (line_after_hook b) c.line.result) c.if-done.true ∙ ap (option_map (line_after_hook true)) (c.line.ensures ∙ line_is kept c.args.number c.index.result.now s device here there h) in
    subst (λ b. StandsFor new (cond b (after_hook c.args.off c.args.number device s) (after_hook_failure c.args.number s))) (sym c.if-done.true)
    (subst (λ value. StandsFor new (line_becomes (line_after_hook true) kind.Hook value c.args.number device s)) c.flag_value.ensures (c.become_line.ensures.step s device h there (line_after_hook true) line)))

pub returns-then-done-clause-kept : goal.returns-then-done-clause-kept
returns-then-done-clause-kept g c = simulates_keep _ _ (returns-then-done-clause-simulates g c) c.requires.kept c.become_line.ensures.kept

pub returns-else-done-clause-simulates : goal.returns-else-done-clause-simulates
returns-else-done-clause-simulates g c =
    let here = device_kept c.args.number c.index.result.now c.shared.view_is c.requires.there c.index.ensures in
    let d = c.args.number in
    let kept : Kept = kept_of c.args.shared.now c.args.slots.now in
    let ds = c.shared.inside.devices.items in
    let z = c.index_mut.result.now in
    let there_z = device_inside d z c.shared.view_is c.requires.there c.index_mut.ensures.value in
    let inside : Kept = kept_of (record { devices = ds; waits = c.shared.inside.waits }) c.args.slots.now in
    hooks_one _ _ kept (record inside { devices = slice_set ds d c.set_line.new.self }) d c.index.result.now c.args.off c.hook-done.result c.requires.there here (c.requires.wanted c.index.result.now here) c.hook-done.ensures.log
    (λ s device h there.
    let line = c.hooked-line.ensures ∙ ap (λ b. option_map (line_after_hook b) c.line.result) c.if-done.false ∙ ap (option_map (line_after_hook false)) (c.line.ensures ∙ line_is kept c.args.number c.index.result.now s device here there h) in
    subst (λ b. StandsFor (record inside { devices = slice_set ds d c.set_line.new.self }) (cond b (after_hook c.args.off d device s) (after_hook_failure d s))) (sym c.if-done.false)
    (lines_set inside d z _ _ (line_after_hook false) s device there_z c.set_line.ensures there line (subst (λ (e : KeptSharedState). StandsFor (kept_of e c.args.slots.now) s) (sym c.shared.view_is) h)))

pub returns-else-done-clause-kept : goal.returns-else-done-clause-kept
returns-else-done-clause-kept g c =
    simulates_keep _ _ (returns-else-done-clause-simulates g c) c.requires.kept (subst (λ (e : KeptSharedState). AreOrderly e.waits c.args.slots.now) (sym c.shared.view_is) c.requires.kept.orderly)

pub returns-else-done-clause-count : goal.returns-else-done-clause-count
returns-else-done-clause-count g c = length-set c.shared.inside.devices.items c.args.number c.set_line.new.self ∙ ap (λ (e : KeptSharedState). length e.devices) c.shared.view_is
