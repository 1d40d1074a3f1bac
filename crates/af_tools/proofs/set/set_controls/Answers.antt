use Rattle.std.proofs.Common.{rules, ◌≡◌, true, false, refl, sym, ◌∙◌}
use Rattle.af_toolkit.proofs.PartLemmas.{goes_value}
use Rattle.af_tools.specs.Set.{states_controls}
use Rattle.af_toolkit.proofs.ToolPartLemmas.{asks_go, is_tool}
use Rattle.af_tools.proofs.set.set_controls.Goals as goal

pub returns-in_err-set_controls-clause-goes : goal.returns-in_err-set_controls-clause-goes
returns-in_err-set_controls-clause-goes g c held =
    let stated : states_controls c.args.job.now ≡ true = sym c.states_controls.ensures ∙ c.if-states_controls.true in
    rw stated (asks_go c.in_err-set_controls.ensures c.requires (search rules))

pub returns-in_ok-set_controls-clause-goes : goal.returns-in_ok-set_controls-clause-goes
returns-in_ok-set_controls-clause-goes g c held =
    let stated : states_controls c.args.job.now ≡ true = sym c.states_controls.ensures ∙ c.if-states_controls.true in
    rw stated (asks_go c.in_ok-set_controls.ensures c.requires refl)

pub returns-else-states_controls-clause-goes : goal.returns-else-states_controls-clause-goes
returns-else-states_controls-clause-goes g c held =
    let unstated : states_controls c.args.job.now ≡ false = sym c.states_controls.ensures ∙ c.if-states_controls.false in
    rw unstated (goes_value is_tool _)
