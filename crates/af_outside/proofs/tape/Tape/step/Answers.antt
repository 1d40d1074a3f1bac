use Rattle.std.proofs.Common.{◌≡◌, ◌+◌, drop, slice_get, ap, ◌∙◌, refl, rules}
use Rattle.std.proofs.lemmas.Option.{slice_get_read}
use Rattle.std.proofs.lemmas.List.{with_items_is}
use Rattle.std.specs.Vec.{with_items}
use Rattle.std.specs.declared.option.Option.TheVariants.{Some}
use Rattle.af_outside.specs.Tape.{outside_of, devices_of}
use Rattle.af_outside.proofs.TapeLemmas.{drop-next, HasRoomForSteps-first, TakesStep-first}
use Rattle.af_outside.proofs.tape.Tape.step.Goals as goal

pub take_step-wake-requires : goal.take_step-wake-requires
take_step-wake-requires c =
    let tape = c.self.inside in
    let looked = c.in_ok-step.ensures.lookup in
    let read : slice_get c.deref.result.now tape.taken ≡ Some c.in_ok-step.step.now = slice_get_read c.deref.result.now _ tape.taken c.in_ok-step.step.now refl looked.3.0 looked.1 in
    let at = rw c.deref.ensures.value at read in
    let room = rw (drop-next tape.steps.items tape.taken c.in_ok-step.step.now at) at c.self.invariant.1 in
    rw c.deref_mut.ensures.value (HasRoomForSteps-first tape.links.items c.in_ok-step.step.now (drop (tape.taken + 1) tape.steps.items) room)

pub returns : goal.returns
returns c =
    let tape = c.self.inside in
    let looked = c.in_ok-step.ensures.lookup in
    let step = c.in_ok-step.step.now in
    let links = with_items tape.links c.take_step-wake.new.links in
    let devices = with_items tape.devices c.take_step-wake.new.devices in
    let links_kept : links.items ≡ c.take_step-wake.new.links = with_items_is tape.links c.take_step-wake.new.links (search rules) in
    let devices_kept : devices.items ≡ c.take_step-wake.new.devices = with_items_is tape.devices c.take_step-wake.new.devices (search rules) in
    let read : slice_get c.deref.result.now tape.taken ≡ Some step = slice_get_read c.deref.result.now _ tape.taken step refl looked.3.0 looked.1 in
    let at = rw c.deref.ensures.value at read in
    let woken = rw c.deref_mut.ensures.value at c.take_step-wake.ensures.wake (devices_of tape.steps.items tape.devices.items) in
    let changed = rw (c.deref_mut.ensures.value, c.deref_mut-2.ensures.value) at c.take_step-wake.ensures.outside tape.steps.items at in
    let left = drop (tape.taken + 1) tape.steps.items in
    let outside = outside_of links.items (devices_of tape.steps.items devices.items) in
    TakesStep-first c.self.view_is step left c.take_step-wake.result outside (drop-next tape.steps.items tape.taken step at) woken
    (ap (λ ends. outside_of ends (devices_of tape.steps.items devices.items)) links_kept
    ∙ ap (λ kept. outside_of c.take_step-wake.new.links (devices_of tape.steps.items kept)) devices_kept ∙ changed)
