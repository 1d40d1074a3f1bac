use Rattle.std.proofs.Common.{◌≡◌, ◌+◌, ◌<◌, ◌≤◌, length, refl, sym, subst, true, ◌∷◌, []}
use Rattle.std.specs.declared.option.Option.TheVariants.{Some}
use Rattle.af_exchange.specs.contracts.dialogue.Dialogue.{the_view}
use Rattle.af_exchange.specs.Dialogue.{Accounts}
use Rattle.af_io.specs.Observed.{Appended}
use Rattle.af_program.specs.Acts.{emitted}
use Rattle.af_exchange.specs.Hook.{after_call}
use Rattle.af_exchange.proofs.HookLemmas.{call-none, call-closed, call-full, call-owed}
use Rattle.af_exchange.proofs.DialogueLemmas.{Accounts-missed, Accounts-owed, notes-called}
use Rattle.af_exchange.proofs.dialogue.Dialogue.call.Goals as goal

pub returns-in_default-clause-notes : goal.returns-in_default-clause-notes
returns-in_default-clause-notes g c = notes-called _ _ _ _ c.hook_text-text.ensures c.note_emitted.ensures.acts

pub returns-then-running-clause-notes : goal.returns-then-running-clause-notes
returns-then-running-clause-notes g c = notes-called _ _ _ _ c.hook_text-text.ensures c.note_emitted.ensures.acts

pub returns-then-as_slice-text-gt-MOST_BYTES-clause-notes : goal.returns-then-as_slice-text-gt-MOST_BYTES-clause-notes
returns-then-as_slice-text-gt-MOST_BYTES-clause-notes g c = notes-called _ _ _ _ c.hook_text-text.ensures c.note_emitted.ensures.acts

pub returns-else-as_slice-text-gt-MOST_BYTES-clause-notes : goal.returns-else-as_slice-text-gt-MOST_BYTES-clause-notes
returns-else-as_slice-text-gt-MOST_BYTES-clause-notes g c = notes-called _ _ _ _ c.hook_text-text.ensures c.note_emitted.ensures.acts

pub returns-then-running-clause-fits : goal.returns-then-running-clause-fits
returns-then-running-clause-fits g c =
    subst (λ r. Accounts (record (the_view c.self.inside) { running = r; off = c.args.off }) (g.P.Program.acts c.note_emitted.new.self)) (sym c.in-Some.is)
    (Accounts-missed (the_view c.self.inside) c.in-Some.running c.in-Some.running c.args.off c.hook_text-text.result.now _ _ c.in-Some.is refl c.if-running.true c.hook_text-text.ensures c.note_emitted.ensures.acts
    (subst (λ d. Accounts d (g.P.Program.acts c.args.program.now)) (sym c.self.view_is) c.requires.fits))

pub returns-then-as_slice-text-gt-MOST_BYTES-clause-fits : goal.returns-then-as_slice-text-gt-MOST_BYTES-clause-fits
returns-then-as_slice-text-gt-MOST_BYTES-clause-fits g c =
    Accounts-missed (the_view c.self.inside) c.in-Some.running (record c.in-Some.running { is_closed = true }) c.args.off c.hook_text-text.result.now _ _ c.in-Some.is refl refl c.hook_text-text.ensures
    c.note_emitted.ensures.acts (subst (λ d. Accounts d (g.P.Program.acts c.args.program.now)) (sym c.self.view_is) c.requires.fits)

pub returns-else-as_slice-text-gt-MOST_BYTES-clause-fits : goal.returns-else-as_slice-text-gt-MOST_BYTES-clause-fits
returns-else-as_slice-text-gt-MOST_BYTES-clause-fits g c =
    Accounts-owed (the_view c.self.inside) c.in-Some.running c.args.off c.hook_text-text.result.now c.append.new.self _ _ c.in-Some.is c.if-running.false c.hook_text-text.ensures c.append.ensures
    c.note_emitted.ensures.acts (subst (λ d. Accounts d (g.P.Program.acts c.args.program.now)) (sym c.self.view_is) c.requires.fits)

pub returns-in_default-clause-acts : goal.returns-in_default-clause-acts
returns-in_default-clause-acts g c = subst (λ x. Appended (g.P.Program.acts c.args.program.now) (emitted x ∷ []) (g.P.Program.acts c.note_emitted.new.self)) c.hook_text-text.ensures c.note_emitted.ensures.acts

pub returns-then-running-clause-acts : goal.returns-then-running-clause-acts
returns-then-running-clause-acts g c = subst (λ x. Appended (g.P.Program.acts c.args.program.now) (emitted x ∷ []) (g.P.Program.acts c.note_emitted.new.self)) c.hook_text-text.ensures c.note_emitted.ensures.acts

pub returns-then-as_slice-text-gt-MOST_BYTES-clause-acts : goal.returns-then-as_slice-text-gt-MOST_BYTES-clause-acts
returns-then-as_slice-text-gt-MOST_BYTES-clause-acts g c = subst (λ x. Appended (g.P.Program.acts c.args.program.now) (emitted x ∷ []) (g.P.Program.acts c.note_emitted.new.self)) c.hook_text-text.ensures c.note_emitted.ensures.acts

pub returns-else-as_slice-text-gt-MOST_BYTES-clause-acts : goal.returns-else-as_slice-text-gt-MOST_BYTES-clause-acts
returns-else-as_slice-text-gt-MOST_BYTES-clause-acts g c = subst (λ x. Appended (g.P.Program.acts c.args.program.now) (emitted x ∷ []) (g.P.Program.acts c.note_emitted.new.self)) c.hook_text-text.ensures c.note_emitted.ensures.acts

pub returns-then-running-clause-after : goal.returns-then-running-clause-after
returns-then-running-clause-after g c =
    subst (λ d. record (the_view c.self.inside) { off = c.args.off } ≡ after_call c.args.off d) c.self.view_is
    (call-closed c.args.off (the_view c.self.inside) c.in-Some.running c.in-Some.is c.if-running.true)

pub returns-then-as_slice-text-gt-MOST_BYTES-clause-after : goal.returns-then-as_slice-text-gt-MOST_BYTES-clause-after
returns-then-as_slice-text-gt-MOST_BYTES-clause-after g c =
    subst (λ d. record (the_view c.self.inside) { running = Some (record c.in-Some.running { is_closed = true }); off = c.args.off } ≡ after_call c.args.off d) c.self.view_is
    (call-full c.args.off (the_view c.self.inside) c.in-Some.running c.hook_text-text.result.now c.in-Some.is c.if-running.false c.hook_text-text.ensures
    (subst (λ xs. 4096 < length xs + length c.hook_text-text.result.now) c.as_slice.ensures.bytes c.if-as_slice-text-gt-MOST_BYTES.true))

pub returns-else-as_slice-text-gt-MOST_BYTES-clause-after : goal.returns-else-as_slice-text-gt-MOST_BYTES-clause-after
returns-else-as_slice-text-gt-MOST_BYTES-clause-after g c =
    subst (λ d. record (the_view c.self.inside) { owed = c.append.new.self; off = c.args.off } ≡ after_call c.args.off d) c.self.view_is
    (call-owed c.args.off (the_view c.self.inside) c.in-Some.running c.hook_text-text.result.now c.append.new.self c.in-Some.is c.if-running.false c.hook_text-text.ensures c.append.ensures
    (subst (λ xs. length xs + length c.hook_text-text.result.now ≤ 4096) c.as_slice.ensures.bytes c.if-as_slice-text-gt-MOST_BYTES.false))

pub returns-in_default-clause-after : goal.returns-in_default-clause-after
returns-in_default-clause-after g c =
    subst (λ d. record (the_view c.self.inside) { off = c.args.off } ≡ after_call c.args.off d) c.self.view_is (call-none c.args.off (the_view c.self.inside) c.in_default.is)
