use Rattle.std.proofs.Common.{◌≡◌, ◌∙◌}
use Rattle.std.proofs.lemmas.Slice.Zip.{AllZip-map}
use Rattle.std.proofs.lemmas.List.{map-id}
use Rattle.af_world.specs.declared.script.DeviceSpec.{DeviceSpec}
use Rattle.af_outside.proofs.TapeLemmas.{new_tape-parts}
use Rattle.af_outside.proofs.tape.Tape.new.Goals as goal

pub returns : goal.returns
returns c =
    let given : c.in_ok-clone.field-0.items ≡ c.args.config.now.items = AllZip-map (λ (x : DeviceSpec). x) c.args.config.now.items c.in_ok-clone.field-0.items c.in_ok-clone.ensures.cases ∙ map-id c.args.config.now.items in
    new_tape-parts _ _ _ _ c.new.result c.in_ok-links.links.items c.in_ok-devices.devices.items c.args.faults c.new-2.result given c.in_ok-copied_steps.ensures c.new.ensures
    c.in_ok-links.ensures.clients c.in_ok-devices.ensures c.new-2.ensures
