use Rattle.std.proofs.Common.{rules, ◌≡◌, refl, None, Some}
use Rattle.af_toolkit.proofs.PartLemmas.{goes_value}
use Rattle.af_toolkit.proofs.ToolPartLemmas.{asks_go, is_tool}
use Rattle.af_tools.proofs.set.set_hook.Goals as goal

pub returns-in_err-hook-clause-goes : goal.returns-in_err-hook-clause-goes
returns-in_err-hook-clause-goes g c held =
    let stated : c.args.job.now.hook_off ≡ Some c.in-Some.off = search rules in
    rw stated (asks_go c.in_err-hook.ensures c.requires (search rules))

pub returns-in_ok-hook-clause-goes : goal.returns-in_ok-hook-clause-goes
returns-in_ok-hook-clause-goes g c held =
    let stated : c.args.job.now.hook_off ≡ Some c.in-Some.off = search rules in
    rw stated (asks_go c.in_ok-hook.ensures c.requires refl)

pub returns-in_default-clause-goes : goal.returns-in_default-clause-goes
returns-in_default-clause-goes g c held =
    let unstated : c.args.job.now.hook_off ≡ None = search rules in
    rw unstated (goes_value is_tool _)
