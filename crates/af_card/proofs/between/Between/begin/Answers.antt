use Rattle.std.proofs.Common.{◌+◌, sym, ap, subst, ◌∙◌}
use Rattle.std.specs.declared.option.Option.TheVariants.{Some}
use Rattle.af_card.specs.contracts.between.Between.{the_view}
use Rattle.af_program.specs.declared.starts.Starts.{Starts}
use Rattle.af_program.specs.Waits.{after_end}
use Rattle.af_card.specs.Between.{BetweenState, Accounts, CanBegin}
use Rattle.af_card.specs.Passing.{begun_between}
use Rattle.af_card.proofs.BetweenLemmas.{Accounts-begun, Accounts-not-begun}
use Rattle.af_card.proofs.PassingLemmas.{begun-runs, begun-not}
use Rattle.af_card.proofs.between.Between.begin.Goals as goal

pub returns-in-Runs-clause-fits : goal.returns-in-Runs-clause-fits
returns-in-Runs-clause-fits g c =
    let can = subst (λ b. CanBegin b c.args.at) (sym c.self.view_is) c.requires.can in
    subst (λ r. Accounts (record (the_view c.self.inside) { running = Some r; starts = c.begin.new.self }) (g.P.Program.acts c.start-launched.new.self)) (sym c.begun.ensures)
    (Accounts-begun (the_view c.self.inside) c.args.at _ c.start-launched.result c.begin.new.self _ _ c.in-Runs.is c.self.invariant.1 can.0 can.2 c.begin.ensures.begun can.1
    c.start-launched.ensures.acts (subst (λ b. Accounts b (g.P.Program.acts c.args.program.now)) (sym c.self.view_is) c.requires.fits))

pub returns-in_default : goal.returns-in_default
returns-in_default g c =
    let can = subst (λ b. CanBegin b c.args.at) (sym c.self.view_is) c.requires.can in
    record {
      fits = Accounts-not-begun (the_view c.self.inside) c.args.at _ c.start-launched.result c.end.new.self _ _ c.in_default.not-Runs can.0 can.2
          (c.end.ensures.ended ∙ ap (λ s. after_end s c.args.at c.args.at) c.begin.ensures.begun) c.start-launched.ensures.acts (subst (λ b. Accounts b (g.P.Program.acts c.args.program.now)) (sym c.self.view_is) c.requires.fits);
      same = (
        ap (λ (b : BetweenState). b.shape) c.self.view_is,
        ap (λ (s : Starts). s.restarts) (c.end.ensures.ended ∙ ap (λ s. after_end s c.args.at c.args.at) c.begin.ensures.begun)
            ∙ ap (λ (b : BetweenState). b.starts.restarts) c.self.view_is,
      );
      tick = can.1;
      acts = c.start-launched.ensures.acts;
      tried = ap (λ (s : Starts). s.tried) (c.end.ensures.ended ∙ ap (λ s. after_end s c.args.at c.args.at) c.begin.ensures.begun)
          ∙ ap (λ (b : BetweenState). b.starts.tried + 1) c.self.view_is;
      runs = λ is. absurd (c.in_default.not-Runs is);
      state = begun-not (the_view c.self.inside) c.start-launched.result c.args.at c.end.new.self c.in_default.not-Runs
          (c.end.ensures.ended ∙ ap (λ s. after_end s c.args.at c.args.at) c.begin.ensures.begun) ∙ ap (begun_between c.start-launched.result c.args.at) c.self.view_is;
    }

pub returns-in-Runs-clause-state : goal.returns-in-Runs-clause-state
returns-in-Runs-clause-state g c =
    ap (λ r. record (the_view c.self.inside) { running = Some r; starts = c.begin.new.self }) c.begun.ensures ∙
    begun-runs (the_view c.self.inside) c.start-launched.result c.args.at c.begin.new.self c.in-Runs.is c.begin.ensures.begun ∙
    ap (begun_between c.start-launched.result c.args.at) c.self.view_is
