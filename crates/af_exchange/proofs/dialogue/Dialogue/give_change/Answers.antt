use Rattle.std.proofs.Common.{◌≡◌, refl, sym, subst, true, is_some, ◌∷◌, []}
use Rattle.af_exchange.specs.contracts.dialogue.Dialogue.{the_view}
use Rattle.af_program.specs.Acts.{captured}
use Rattle.af_exchange.specs.Lines.{text_of}
use Rattle.af_exchange.specs.Fronts.{SaysMore}
use Rattle.af_exchange.specs.Dialogue.{DialogueState, Accounts}
use Rattle.af_exchange.proofs.NoteLemmas.{notes}
use Rattle.af_exchange.proofs.DialogueLemmas.{Accounts-changed}
use Rattle.af_exchange.proofs.dialogue.Dialogue.give_change.Goals as goal

pub returns-clause-fits : goal.returns-clause-fits
returns-clause-fits g c =
    Accounts-changed (the_view c.self.inside) c.self.inside.running c.args.change c.args.count c.drop_front.new.self _ _ refl
    (subst (λ (d : DialogueState). is_some d.running ≡ true) (sym c.self.view_is) c.requires.runs)
    (subst (λ (d : DialogueState). SaysMore (c.args.change ∷ []) c.args.count d.left) (sym c.self.view_is) c.requires.first.0) c.drop_front.ensures
    c.note_change.ensures.acts (subst (λ d. Accounts d (g.P.Program.acts c.args.program.now)) (sym c.self.view_is) c.requires.fits)

pub returns-clause-notes : goal.returns-clause-notes
returns-clause-notes g c = notes _ _ (captured (text_of c.args.change) ∷ []) c.note_change.ensures.acts
