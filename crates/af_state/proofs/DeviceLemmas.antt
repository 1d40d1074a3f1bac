-- What devices and the states that they stand for have in common.
use Rattle.std.proofs.Common.{◌≡◌, ℕ, zero, suc, ◌*◌, ◌≤◌, ◌<◌, List, [], ◌∷◌, length, get_or, slice_get, slice_set, map, is_some, refl, sym, ap, ◌∙◌, subst, arith}
use Rattle.std.proofs.lemmas.Option.{slice_get-get_or}
use Rattle.std.specs.declared.option.Option.{Option}
use Rattle.std.specs.declared.option.Option.TheVariants.{None, Some}
use Rattle.af_sample.specs.declared.sample_type.SampleType.{SampleType}
use Rattle.af_request.specs.declared.reply.DeviceInfo.{DeviceInfo}
use Rattle.af_request.specs.declared.reply.Phone.{Phone}
use Rattle.af_model.specs.State.{DeviceState}
use Rattle.af_model.specs.Reply.{info_of, infos_of}
use Rattle.af_model.specs.Perform.{channels_at}
use Rattle.af_state.specs.Kept.{KeptDevice, StandsForDevice, StandForDevices, kept_channels_at, kept_info}

-- there are as many
pub stands_length : (ds : List KeptDevice) (ss : List DeviceState) → StandForDevices ds ss → length ss ≡ length ds
stands_length [] [] h = refl
stands_length [] (s ∷ ss) h = absurd h
stands_length (d ∷ ds) [] h = absurd h
stands_length (d ∷ ds) (s ∷ ss) h = ap suc (stands_length ds ss h.1)

-- what is kept of devices is what the reply to a setup says of them
pub same_infos : (ds : List KeptDevice) (ss : List DeviceState) → StandForDevices ds ss → map {A = KeptDevice} {B = DeviceInfo} kept_info ds ≡ infos_of ss
same_infos [] [] h = refl
same_infos [] (s ∷ ss) h = absurd h
same_infos (d ∷ ds) [] h = absurd h
same_infos (d ∷ ds) (s ∷ ss) h =
    let with_channels : ℕ → DeviceInfo = λ channels. record { ty = d.ty; channels = channels; line = is_some d.line; rate = d.rate; horizon = d.rate * 4 } in
    let with_type : SampleType → DeviceInfo = λ ty. record { ty = ty; channels = s.channels; line = is_some d.line; rate = d.rate; horizon = d.rate * 4 } in
    let with_rate : ℕ → DeviceInfo = λ rate. record { ty = s.ty; channels = s.channels; line = is_some d.line; rate = rate; horizon = rate * 4 } in
    let with_phone : Option Phone → DeviceInfo = λ line. record { ty = s.ty; channels = s.channels; line = is_some line; rate = s.rate; horizon = s.rate * 4 } in
    let one : kept_info d ≡ info_of s = ap with_channels h.0.hears.channels ∙ ap with_type h.0.ty ∙ ap with_rate h.0.rate ∙ ap with_phone h.0.line in
    let rest = same_infos ds ss h.1 in
    ap (λ i. i ∷ map {A = KeptDevice} {B = DeviceInfo} kept_info ds) one ∙ ap (λ l. info_of s ∷ l) rest

-- the channels that are kept of a device are those of its state
pub same_channels : (ds : List KeptDevice) (ss : List DeviceState) (d : ℕ) → StandForDevices ds ss → kept_channels_at ds d ≡ channels_at ss d
same_channels [] [] d h = refl
same_channels [] (s ∷ ss) d h = absurd h
same_channels (x ∷ ds) [] d h = absurd h
same_channels (x ∷ ds) (s ∷ ss) zero h = ap (λ n. Some n) h.0.hears.channels
same_channels (x ∷ ds) (s ∷ ss) (suc d) h = same_channels ds ss d h.1

-- the device at a number, and the state that it stands for
pub record Found (ss : List DeviceState) (d : ℕ) (x : KeptDevice) : Type 0 where
  pub state : DeviceState
  pub here : slice_get ss d ≡ Some state
  pub stands : StandsForDevice x state

pub found : (ds : List KeptDevice) (ss : List DeviceState) (d : ℕ) (x : KeptDevice) → slice_get ds d ≡ Some x → StandForDevices ds ss → Found ss d x
found [] ss d x e h = absurd cc
found (y ∷ ds) [] d x e h = absurd h
found (y ∷ ds) (s ∷ ss) zero x e h = let same : y ≡ x = cc in record { state = s; here = refl; stands = subst (λ z. StandsForDevice z s) same h.0 }
found (y ∷ ds) (s ∷ ss) (suc d) x e h = let r = found ds ss d x e h.1 in record { state = r.state; here = r.here; stands = r.stands }

pub not_found : (ds : List KeptDevice) (ss : List DeviceState) (d : ℕ) → length ds ≤ d → StandForDevices ds ss → slice_get ss d ≡ None
not_found [] [] d past h = refl
not_found [] (s ∷ ss) d past h = absurd h
not_found (y ∷ ds) [] d past h = absurd h
not_found (y ∷ ds) (s ∷ ss) zero past h = absurd (omega arith)
not_found (y ∷ ds) (s ∷ ss) (suc d) past h = not_found ds ss d (omega arith) h.1

-- a device that is kept stands for a state
pub state_there : (ds : List KeptDevice) (ss : List DeviceState) (d : ℕ) → d < length ds → StandForDevices ds ss → (s : DeviceState) × (slice_get ss d ≡ Some s)
state_there [] ss d there h = absurd (omega arith)
state_there (y ∷ ds) [] d there h = absurd h
state_there (y ∷ ds) (s ∷ ss) zero there h = (s, refl)
state_there (y ∷ ds) (s ∷ ss) (suc d) there h = state_there ds ss d (omega arith) h.1

-- the device at a number
pub device_at : (ds : List KeptDevice) (i k : ℕ) (d : KeptDevice) → i ≡ k → i < length ds → slice_get ds k ≡ Some (get_or ds i d)
device_at ds i k d e lt = subst (λ j. slice_get ds j ≡ Some (get_or ds i d)) e (slice_get-get_or ds i d lt)

pub device_is : (ds : List KeptDevice) (i k : ℕ) (fallback d : KeptDevice) → i ≡ k → i < length ds → slice_get ds k ≡ Some d → get_or ds i fallback ≡ d
device_is ds i k fallback d e lt here = let both : Some (get_or ds i fallback) ≡ Some d = sym (device_at ds i k fallback e lt) ∙ here in cc

-- a device that stays
pub same_set : (ds : List KeptDevice) (k : ℕ) (d : KeptDevice) → slice_get ds k ≡ Some d → slice_set ds k d ≡ ds
same_set [] k d here = refl
same_set (x ∷ ds) zero d here = let same : x ≡ d = cc in ap (λ y. y ∷ ds) (sym same)
same_set (x ∷ ds) (suc k) d here = ap (λ l. x ∷ l) (same_set ds k d here)

-- one device changes with the state that it stands for
pub stands_set : (ds : List KeptDevice) (ss : List DeviceState) (k : ℕ) (d : KeptDevice) (s : DeviceState) → StandForDevices ds ss → StandsForDevice d s → StandForDevices (slice_set ds k d) (slice_set ss k s)
stands_set [] [] k d s h e = tt
stands_set [] (y ∷ ss) k d s h e = absurd h
stands_set (x ∷ ds) [] k d s h e = absurd h
stands_set (x ∷ ds) (y ∷ ss) zero d s h e = (e, h.1)
stands_set (x ∷ ds) (y ∷ ss) (suc k) d s h e = (h.0, stands_set ds ss k d s h.1 e)
