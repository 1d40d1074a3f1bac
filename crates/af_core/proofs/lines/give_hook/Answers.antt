use Rattle.std.proofs.Common.{◌≡◌, ◌∙◌, ap, option_and_then, sym}
use Rattle.std.specs.declared.option.Option.TheVariants.{Some}
use Rattle.af_phone.specs.Lines.{hook_due}
use Rattle.af_state.specs.Kept.{KeptDevice}
use Rattle.af_core.specs.Stands.{kept_of}
use Rattle.af_core.proofs.SharedStateLemmas.{device_kept}
use Rattle.af_core.proofs.EventLemmas.{hooks_nothing}
use Rattle.af_core.proofs.lines.give_hook.Goals as goal

pub give_wanted-requires-clause-wanted : goal.give_wanted-requires-clause-wanted
give_wanted-requires-clause-wanted g c = λ y is.
    let d = c.args.number in
    let x = c.index.result.now in
    let here = device_kept d x c.shared.view_is c.requires.there c.index.ensures in
    let same : x ≡ y = let both : Some x ≡ Some y = sym here ∙ is in cc in
    ap (λ (k : KeptDevice). option_and_then hook_due k.line) (sym same) ∙ sym c.hook_wanted.ensures ∙ c.in-Some.is

pub returns-in_default-clause-simulates : goal.returns-in_default-clause-simulates
returns-in_default-clause-simulates g c =
    let d = c.args.number in
    let x = c.index.result.now in
    let here = device_kept d x c.shared.view_is c.requires.there c.index.ensures in
    hooks_nothing _ (kept_of c.args.shared.now c.args.slots.now) d x here (sym c.hook_wanted.ensures ∙ c.in_default.is)
