use Rattle.std.proofs.Common.{◌≡◌, ◌<◌, List, length, rules, slice_get, subst, sym}
use Rattle.std.proofs.lemmas.List.{with_items_is}
use Rattle.std.specs.declared.option.Option.TheVariants.{Some}
use Rattle.af_state.specs.Kept.{KeptDevice}
use Rattle.af_perform.specs.Sounds.{CompletesDeferred}
use Rattle.af_core.proofs.SharedStateLemmas.{around_inside, due_inside}
use Rattle.af_core.proofs.CompletionLemmas.{completes_link, due_there, fits_now}
use Rattle.af_core.proofs.complete.complete_link.Goals as goal

pub complete_deferred-requires-clause-there : goal.complete_deferred-requires-clause-there
complete_deferred-requires-clause-there c =
    let environment = around_inside c.requires.stands.0 c.shared.view_is c.requires.stands.1 in
    let due = due_inside c.args.device c.args.number c.shared.view_is c.requires.due in
    subst (λ (ds : List KeptDevice). c.args.device < length ds) (sym c.deref_mut.ensures.value) (due_there _ c.requires.stands.0 c.args.device c.args.number environment due)

pub complete_deferred-requires-clause-can : goal.complete_deferred-requires-clause-can
complete_deferred-requires-clause-can c = λ x here.
    let environment = around_inside c.requires.stands.0 c.shared.view_is c.requires.stands.1 in
    let due = due_inside c.args.device c.args.number c.shared.view_is c.requires.due in
    fits_now _ c.args.device x c.requires.stands.0 c.args.number _ environment (subst (λ (ds : List KeptDevice). slice_get ds c.args.device ≡ Some x) c.deref_mut.ensures.value here) due c.deferred-deferred.ensures

pub returns-clause-step : goal.returns-clause-step
returns-clause-step c = λ a s w h here first.
    let d = c.args.device in
    let ds = c.shared.inside.devices.items in
    let word = c.deferred-deferred.result.now in
    let environment = around_inside a c.shared.view_is h in
    let due = due_inside c.args.device c.args.number c.shared.view_is c.requires.due in
    let from = subst (λ (xs : List KeptDevice). CompletesDeferred word d xs c.args.link.now c.complete_deferred.new.devices c.complete_deferred.new.link) c.deref_mut.ensures.value c.complete_deferred.ensures.step in
    let step = subst (λ (xs : List KeptDevice). CompletesDeferred word d ds c.args.link.now xs c.complete_deferred.new.link) (sym (with_items_is c.shared.inside.devices c.complete_deferred.new.devices (search rules))) from in
    completes_link _ _ _ _ c.args.link.now _ _ c.args.number d word a s w environment here first due c.deferred-deferred.ensures c.take_due.ensures.rest step c.advance.ensures.step
