-- What all links share, when code has opened it: what is asked of the whole holds for its parts.
use Rattle.std.proofs.Common.{◌≡◌, ◌<◌, ◌∙◌, ℕ, ap, find, get_or, length, option_map, refl, slice_get, subst, sym}
use Rattle.std.specs.declared.option.Option.TheVariants.{Some}
use Rattle.af_model.specs.State.{EnvironmentState}
use Rattle.af_state.specs.Kept.{KeptDevice}
use Rattle.af_state.specs.Deferrals.{KeptDeferral, kept_due}
use Rattle.af_state.specs.SharedState.{KeptSharedState, StandsForSharedState}
use Rattle.af_state.proofs.DeviceLemmas.{device_at}

-- the device at a number
pub device_inside : {inside env : KeptSharedState} (d : ℕ) (x : KeptDevice) → inside ≡ env → d < length env.devices → x ≡ get_or inside.devices d x → slice_get inside.devices d ≡ Some x
device_inside {inside} {env} d x is there same =
    device_at inside.devices d d x refl (subst (λ (e : KeptSharedState). d < length e.devices) (sym is) there) ∙ ap (λ y. Some y) (sym same)

pub device_kept : {inside env : KeptSharedState} (d : ℕ) (x : KeptDevice) → inside ≡ env → d < length env.devices → x ≡ get_or inside.devices d x → slice_get env.devices d ≡ Some x
device_kept {inside} {env} d x is there same = subst (λ (e : KeptSharedState). slice_get e.devices d ≡ Some x) is (device_inside d x is there same)

pub around_inside : {inside env : KeptSharedState} (a : EnvironmentState) → inside ≡ env → StandsForSharedState env a → StandsForSharedState inside a
around_inside {inside} {env} a is h = subst (λ e. StandsForSharedState e a) (sym is) h

-- the link whose request is due
pub due_inside : {inside env : KeptSharedState} (d number : ℕ) → inside ≡ env → option_map (λ k. k.wait.link) (find (kept_due d) env.waits) ≡ Some number → option_map (λ k. k.wait.link) (find (kept_due d) inside.waits) ≡ Some number
due_inside {inside} {env} d number is due = subst (λ (e : KeptSharedState). option_map (λ (k : KeptDeferral). k.wait.link) (find (kept_due d) e.waits) ≡ Some number) (sym is) due
