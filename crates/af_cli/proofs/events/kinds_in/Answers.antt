use Rattle.std.proofs.Common.{rules, ◌≡◌, ◌==◌, ◌∙◌, Some, None, ap, sym, refl, lit<}
use Rattle.std.specs.Prelude.{Option, option_and_then}
use Rattle.std.specs.List.{slice_split}
use Rattle.std.proofs.lemmas.Iterator.Splits.{YieldsList-from_str_split}
use Rattle.std.proofs.lemmas.Iterator.Consumers.{YieldsList-at}
use Rattle.af_wire.specs.declared.event.EventKind.{EventKind}
use Rattle.af_cli.specs.Events.{kinds_in, kind_named, kinds_of, with_kind}
use Rattle.af_cli.proofs.PieceLemmas.{no_piece, piece_next}
use Rattle.af_cli.proofs.events.kinds_in.Goals as goal

pub loop-name-init : goal.loop-name-init
unfolding kinds_in
loop-name-init c =
    let e = c.split-name-items.ensures in
    let y = YieldsList-at c.into_iter-name-iterator.ensures.into_iter_gives (YieldsList-from_str_split 44 c.args.text.now (lit< tt) e.text e.has_more e.pattern) in
    (slice_split (λ b. b == 44) c.args.text.now, y, refl)

pub returns-in_err-kind_named : goal.returns-in_err-kind_named
returns-in_err-kind_named c =
    let i = c.loop-name.invariant in
    let p = piece_next _ c.next.result c.in-Some.name i.1 c.in-Some.is c.next.ensures.steps in
    let none : kind_named c.in-Some.name.now ≡ None = search rules in
    c.from_residual.ensures ∙ sym (sym i.2 ∙ ap (kinds_of c.loop-name.kinds) p.is ∙ ap (λ (k : Option EventKind). option_and_then (λ kind. kinds_of (with_kind c.loop-name.kinds kind) p.more) k) none)

pub loop-name-preserved : goal.loop-name-preserved
loop-name-preserved c =
    let i = c.loop-name.invariant in
    let p = piece_next _ c.next.result c.in-Some.name i.1 c.in-Some.is c.next.ensures.steps in
    let some : kind_named c.in-Some.name.now ≡ Some c.in_ok-kind_named.field-0 = search rules in
    (p.more, p.then, rw c.with-kinds.ensures (sym (sym i.2 ∙ ap (kinds_of c.loop-name.kinds) p.is ∙ ap (λ (k : Option EventKind). option_and_then (λ kind. kinds_of (with_kind c.loop-name.kinds kind) p.more) k) some)))

pub returns : goal.returns
returns c =
    let i = c.loop-name.invariant in
    sym (sym i.2 ∙ ap (kinds_of c.loop-name.kinds) (no_piece _ c.next.result i.1 c.in-None.is c.next.ensures.steps))
