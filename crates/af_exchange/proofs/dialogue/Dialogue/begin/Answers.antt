use Rattle.std.proofs.Common.{◌∙◌, sym, ap, subst, ◌++◌, ◌+◌, ◌∷◌, [], arith}
use Rattle.std.specs.declared.option.Option.TheVariants.{Some}
use Rattle.af_exchange.specs.contracts.dialogue.Dialogue.{the_view}
use Rattle.af_program.specs.declared.starts.Starts.{Starts}
use Rattle.af_program.specs.Waits.{after_end}
use Rattle.af_exchange.specs.Dialogue.{DialogueState, Accounts, CanBegin}
use Rattle.af_exchange.specs.Begins.{Begins}
use Rattle.af_program.specs.Acts.{launched}
use Rattle.af_process.specs.Acts.{words_of}
use Rattle.af_exchange.proofs.NoteLemmas.{notes, notes-on}
use Rattle.af_exchange.proofs.BeginLemmas.{begins-not, begins-running, begun-runs}
use Rattle.af_exchange.proofs.DialogueLemmas.{Accounts-begun, Accounts-not-begun}
use Rattle.af_exchange.proofs.dialogue.Dialogue.begin.Goals as goal

pub give_owed-requires : goal.give_owed-requires
give_owed-requires g c =
    let can = subst (λ d. CanBegin d c.args.at) (sym c.self.view_is) c.requires.can in
    record {
      fits = subst (λ r. Accounts (record (the_view c.self.inside) { running = Some r; starts = c.begin.new.self; left = c.clear.new.self; owed = c.append.new.self }) (g.P.Program.acts c.start-launched.new.self)) (sym c.begun.ensures)
          (Accounts-begun (the_view c.self.inside) c.args.at _ c.start-launched.result c.begin.new.self c.clear.new.self c.append.new.self _ _ c.in-Runs.is can.0 can.1 c.begin.ensures.begun
          c.clear.ensures (c.append.ensures ∙ ap (λ x. x ++ c.hook_text.result.now) c.clear-2.ensures ∙ c.hook_text.ensures) c.start-launched.ensures.acts
          (subst (λ d. Accounts d (g.P.Program.acts c.args.program.now)) (sym c.self.view_is) c.requires.fits));
    }

pub returns-in-Runs-clause-notes : goal.returns-in-Runs-clause-notes
returns-in-Runs-clause-notes g c =
    notes-on [] [] (record { at = c.args.at; words = words_of c.args.words.now } ∷ []) [] [] [] _ _ _
    (notes _ _ (launched c.args.at (words_of c.args.words.now) c.start-launched.result ∷ []) c.start-launched.ensures.acts) c.give_owed.ensures.notes

pub returns-in-Runs-clause-begins : goal.returns-in-Runs-clause-begins
returns-in-Runs-clause-begins g c =
    let is = ap (λ r. record (the_view c.self.inside) { running = Some r; starts = c.begin.new.self; left = c.clear.new.self; owed = c.append.new.self }) c.begun.ensures
    ∙ begun-runs (the_view c.self.inside) c.start-launched.result c.args.at c.begin.new.self c.clear.new.self c.append.new.self c.in-Runs.is c.begin.ensures.begun c.clear.ensures
    (c.append.ensures ∙ ap (λ x. x ++ c.hook_text.result.now) c.clear-2.ensures ∙ c.hook_text.ensures) in
    subst (λ d. Begins c.args.at (words_of c.args.words.now) c.start-launched.result d c.give_owed.new.self (g.P.Program.acts c.args.program.now) (g.P.Program.acts c.give_owed.new.program)) c.self.view_is
    (begins-running c.args.at (words_of c.args.words.now) c.start-launched.result (the_view c.self.inside) _ c.give_owed.new.self _ _ _ c.in-Runs.is is c.start-launched.ensures.acts
    c.give_owed.ensures.offers)

pub returns-in_default : goal.returns-in_default
returns-in_default g c =
    let can = subst (λ d. CanBegin d c.args.at) (sym c.self.view_is) c.requires.can in
    let after = c.end.ensures.ended ∙ ap (λ s. after_end s c.args.at c.args.at) c.begin.ensures.begun in
    record {
      fits = Accounts-not-begun (the_view c.self.inside) c.args.at _ c.start-launched.result c.end.new.self c.clear.new.self c.clear-2.new.self _ _ c.in_default.not-Runs can.0 can.1
          after c.clear.ensures c.clear-2.ensures c.start-launched.ensures.acts (subst (λ d. Accounts d (g.P.Program.acts c.args.program.now)) (sym c.self.view_is) c.requires.fits);
      same = (
        ap (λ (s : Starts). s.restarts) after ∙ ap (λ (d : DialogueState). d.starts.restarts) c.self.view_is,
        ap (λ (d : DialogueState). d.off) c.self.view_is,
      );
      tried = ap (λ (s : Starts). s.tried) after ∙ ap (λ (d : DialogueState). d.starts.tried + 1) c.self.view_is;
      runs = (λ is. absurd (c.in_default.not-Runs is), λ some. grind arith);
      none = λ some. grind arith;
      begins = subst (λ d. Begins c.args.at (words_of c.args.words.now) c.start-launched.result d
          (record (the_view c.self.inside) { starts = c.end.new.self; left = c.clear.new.self; owed = c.clear-2.new.self }) (g.P.Program.acts c.args.program.now) (g.P.Program.acts c.start-launched.new.self)) c.self.view_is
          (begins-not c.args.at (words_of c.args.words.now) c.start-launched.result (the_view c.self.inside) c.end.new.self c.clear.new.self c.clear-2.new.self _ _ c.in_default.not-Runs after
          c.clear.ensures c.clear-2.ensures c.start-launched.ensures.acts);
      notes = notes _ _ (launched c.args.at (words_of c.args.words.now) c.start-launched.result ∷ []) c.start-launched.ensures.acts;
    }
