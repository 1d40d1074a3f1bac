use Rattle.std.proofs.Common.{ap, refl, slice_set, ⊎_elim}
use Rattle.af_model.specs.Turn.{mark_readable, mark_writable}
use Rattle.af_core.specs.Stands.{kept_of}
use Rattle.af_core.proofs.LinkPhaseLemmas.{link_here, opened_settled}
use Rattle.af_core.proofs.TurnLemmas.{flag_keeps, opens, readies, unsticks, read_below, write_below, ready_settled, writable_settled, stays_idle, stays_stop, at_wake, wake_keeps}
use Rattle.af_core.proofs.server.wake_up.Goals as goal

pub returns-in-Opened-clause-simulates : goal.returns-in-Opened-clause-simulates
returns-in-Opened-clause-simulates g c = at_wake c.in-Opened.is (opens _ c.in-Opened.number (kept_of c.args.shared.now c.args.slots.now) _ (ap (λ o. slice_set c.args.slots.now c.in-Opened.number o) c.open.ensures))

pub returns-in-Readable-clause-simulates : goal.returns-in-Readable-clause-simulates
returns-in-Readable-clause-simulates g c =
    let k = c.in-Readable.number in
    let low = read_below _ k c.args.slots.now c.args.wake c.in-Readable.is c.requires.fits in
    at_wake c.in-Readable.is (readies _ k (kept_of c.args.shared.now c.args.slots.now) _ _ (link_here c.args.slots.now k _ low) (ap (λ o. slice_set c.args.slots.now k o) c.set_ready.ensures))

pub returns-in-Writable-clause-simulates : goal.returns-in-Writable-clause-simulates
returns-in-Writable-clause-simulates g c =
    let k = c.in-Writable.number in
    let low = write_below _ k c.args.slots.now c.args.wake c.in-Writable.is c.requires.fits in
    at_wake c.in-Writable.is (unsticks _ k (kept_of c.args.shared.now c.args.slots.now) _ _ (link_here c.args.slots.now k _ low) (ap (λ o. slice_set c.args.slots.now k o) c.set_writable.ensures))

pub returns-in-Idle-clause-simulates : goal.returns-in-Idle-clause-simulates
returns-in-Idle-clause-simulates g c = ⊎_elim (λ e. at_wake e (stays_idle _ _)) (λ e. at_wake e (stays_stop _ _)) c.in-Idle.is

pub returns-in-Opened-clause-kept : goal.returns-in-Opened-clause-kept
returns-in-Opened-clause-kept g c =
    wake_keeps c.args.shared.now c.args.slots.now c.in-Opened.number _ (returns-in-Opened-clause-simulates g c) c.requires.kept (opened_settled _ _ c.open.ensures)

pub returns-in-Readable-clause-kept : goal.returns-in-Readable-clause-kept
returns-in-Readable-clause-kept g c =
    flag_keeps mark_readable c.args.shared.now c.args.slots.now c.in-Readable.number _ _ _ (returns-in-Readable-clause-simulates g c) c.requires.kept (ready_settled _) refl
    (read_below _ _ c.args.slots.now c.args.wake c.in-Readable.is c.requires.fits) c.set_ready.ensures

pub returns-in-Writable-clause-kept : goal.returns-in-Writable-clause-kept
returns-in-Writable-clause-kept g c =
    flag_keeps mark_writable c.args.shared.now c.args.slots.now c.in-Writable.number _ _ _ (returns-in-Writable-clause-simulates g c) c.requires.kept (writable_settled _) refl
    (write_below _ _ c.args.slots.now c.args.wake c.in-Writable.is c.requires.fits) c.set_writable.ensures
