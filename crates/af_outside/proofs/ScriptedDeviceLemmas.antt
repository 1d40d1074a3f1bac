-- The scripted devices of a tape, and the outside that they make up.
use Rattle.std.proofs.Common.{◌≡◌, ℕ, Bool, true, false, List, length, ap, sym, ◌∙◌, slice_set, not, ◌&&◌, map}
use Rattle.std.proofs.lemmas.List.{map-set}
use Rattle.std.proofs.lemmas.Simd.{map-map}
use Rattle.std.specs.Prelude.{if◌then◌else◌}
use Rattle.std.specs.declared.option.Option.TheVariants.{None, Some}
use Rattle.af_world.specs.declared.script.DeviceSpec.{DeviceSpec}
use Rattle.af_world.specs.declared.script.Step.{Step}
use Rattle.af_outside.specs.declared.scripted_device.DeviceCall.TheVariants as call
use Rattle.af_outside.specs.declared.scripted_device.KeptScriptedDevice.{KeptScriptedDevice}
use Rattle.af_world.specs.Outside.{Outside, ScriptedDevice, scripted_at, with_scripted, scripted_of, captured_bytes, outside_after_capture, outside_after_emit, outside_after_hook, same_bytes}
use Rattle.af_outside.specs.Tape.{IsAnswered, KeptClient, outside_of, kept_at, kept_scripted_of, devices_of}
use Rattle.af_world.proofs.EqualityTestLemmas.{same_bytes-refl}

-- nothing was stated of devices, whatever the steps are
pub devices_of-start : (steps : List Step) (config : List DeviceSpec) → devices_of steps (map (λ d. kept_scripted_of d.ty) config) ≡ map (λ d. scripted_of d.ty) config
devices_of-start steps config = map-map (kept_at steps) (λ (d : DeviceSpec). kept_scripted_of d.ty) config

-- a change of one kept scripted device is a change of its scripted device
pub outside_of-put : (links : List KeptClient) (steps : List Step) (kept kept' : List KeptScriptedDevice) (d : ℕ) (new : KeptScriptedDevice) → kept' ≡ slice_set kept d new →
    outside_of links (devices_of steps kept') ≡ with_scripted (outside_of links (devices_of steps kept)) d (kept_at steps new)
outside_of-put links steps kept kept' d new e =
    ap (λ kept. outside_of links (devices_of steps kept)) e ∙ ap (λ devices. outside_of links devices) (map-set (kept_at steps) kept d new)

-- a change of one kept scripted device, which is that of its device, is a change of the device's scripted device
pub outside_of-changed : (links : List KeptClient) (steps : List Step) (kept kept' : List KeptScriptedDevice) (d : ℕ) (old new : KeptScriptedDevice) (change : ScriptedDevice → ScriptedDevice) → kept' ≡ slice_set kept d new →
    kept_at steps new ≡ change (kept_at steps old) → kept_at steps old ≡ scripted_at (outside_of links (devices_of steps kept)) d →
    outside_of links (devices_of steps kept') ≡ (let o = outside_of links (devices_of steps kept) in with_scripted o d (change (scripted_at o d)))
outside_of-changed links steps kept kept' d old new change put changed at =
    outside_of-put links steps kept kept' d new put
    ∙ ap (with_scripted (outside_of links (devices_of steps kept)) d) (changed ∙ ap change at)

-- a call fails if that is stated, and else it is done
call_failed : (failing : Bool) (o failed o' : Outside) → failing ≡ true → o' ≡ failed → (if failing then Some failed else None) ≡ Some o'
call_failed failing o failed o' stated changed = ap (λ t. if t then Some failed else None) stated ∙ ap (λ o. Some o) (sym changed)

call_done : (failing : Bool) (o o' : Outside) → failing ≡ false → o' ≡ o → (if failing then None else Some o) ≡ Some o'
call_done failing o o' stated changed = ap (λ t. if t then None else Some o) stated ∙ ap (λ o. Some o) (sym changed)

pub emit_answered : (o o' : Outside) (d : ℕ) (done : Bool) → IsAnswered call.Emit done d o o' → outside_after_emit o d (scripted_at o d) done ≡ Some o'
emit_answered o o' d true a = call_done (scripted_at o d).fails_emit o o' a.stated a.changed
emit_answered o o' d false a = call_failed (scripted_at o d).fails_emit o (with_scripted o d (record (scripted_at o d) { fails_emit = false })) o' a.stated a.changed

pub hook_answered : (o o' : Outside) (d : ℕ) (done : Bool) → IsAnswered call.Hook done d o o' → outside_after_hook o d (scripted_at o d) done ≡ Some o'
hook_answered o o' d true a = call_done (scripted_at o d).fails_hook o o' a.stated a.changed
hook_answered o o' d false a = call_failed (scripted_at o d).fails_hook o (with_scripted o d (record (scripted_at o d) { fails_hook = false })) o' a.stated a.changed

pub capture_failed : (o o' : Outside) (d : ℕ) → IsAnswered call.Capture false d o o' → outside_after_capture o d (scripted_at o d) None ≡ Some o'
capture_failed o o' d a = call_failed (scripted_at o d).fails_capture o (with_scripted o d (record (scripted_at o d) { fails_capture = false })) o' a.stated a.changed

-- a capture that is done gives what is stated
pub capture_done : (o o' : Outside) (d n : ℕ) (bytes : List ℕ) (scripted : ScriptedDevice) → scripted ≡ scripted_at o d → IsAnswered call.Capture true d o o' →
    bytes ≡ captured_bytes scripted n → length bytes ≡ n → outside_after_capture o d (scripted_at o d) (Some bytes) ≡ Some o'
capture_done o o' d n bytes scripted same a given count =
    let s = scripted_at o d in
    let all : bytes ≡ captured_bytes s (length bytes) = given ∙ ap (λ s. captured_bytes s n) same ∙ ap (captured_bytes s) (sym count) in
    let equal : same_bytes bytes (captured_bytes s (length bytes)) ≡ true = ap (same_bytes bytes) (sym all) ∙ same_bytes-refl bytes in
    ap (λ t. if not t && same_bytes bytes (captured_bytes s (length bytes)) then Some o else None) a.stated
    ∙ ap (λ t. if t then Some o else None) equal ∙ ap (λ o. Some o) (sym a.changed)
