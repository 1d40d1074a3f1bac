-- The devices that the reply to a setup is read as are such as it may state.
use Rattle.std.proofs.Common.{◌≡◌, ◌≤◌, ◌*◌, ◌+◌, ◌==◌, ◌&&◌, ℕ, zero, suc, nat_le, Bool, true, false, List, [], ◌∷◌, length, take, drop, ap, subst, refl, arith, if◌then◌else◌}
use Rattle.std.proofs.lemmas.Bool.Decides.{nat_tests}
use Rattle.std.proofs.lemmas.Bool.{and_parts}
use Rattle.std.specs.Prelude.{All, Some, None, option_map}
use Rattle.std.specs.declared.option.Option.{Option}
use Rattle.af_limits.specs.Limits.{most_devices}
use Rattle.af_wire.specs.declared.order.Order.{Order}
use Rattle.af_sample.specs.declared.sample_type.SampleType.{SampleType}
use Rattle.af_sample.specs.SampleTypes.{type_of_code}
use Rattle.af_sample.specs.Channels.{is_channel_count}
use Rattle.af_sample.specs.Rates.{is_listed_rate}
use Rattle.af_request.specs.declared.reply.DeviceInfo.{DeviceInfo}
use Rattle.af_request.specs.Answer.{setup}
use Rattle.af_request.specs.Fields.{u8_at, u16_at, u32_at}
use Rattle.af_request.specs.Replies.{answer_in, device_in, device_info_of, device_then, devices_in, flag_of, IsReplyTo, IsDeviceInfo}
use Rattle.af_request.specs.Opcodes as opcodes

fits_stated : (ty : SampleType) (channels rate horizon : ℕ) (line b : Bool) (d : DeviceInfo) → (is_channel_count channels && is_listed_rate rate && horizon == rate * 4) ≡ b →
    (let o : Option DeviceInfo = if b then Some (record { ty = ty; channels = channels; line = line; rate = rate; horizon = horizon }) else None in o ≡ Some d) → IsDeviceInfo d
fits_stated ty channels rate horizon line true d test is =
    let p = and_parts (is_channel_count channels && is_listed_rate rate) (horizon == rate * 4) test in
    let q = and_parts (is_channel_count channels) (is_listed_rate rate) p.0 in
    let four : (horizon == rate * 4) ≡ true = p.1 in
    let same : (let x : DeviceInfo = record { ty = ty; channels = channels; line = line; rate = rate; horizon = horizon } in x ≡ d) = cc in
    subst (λ (x : DeviceInfo). IsDeviceInfo x) same (record { channels = q.0; rate = q.1; horizon = grind (arith, nat_tests) })
fits_stated ty channels rate horizon line false d test is = cc

of_stated : (ty : Option SampleType) (channels : ℕ) (line : Option Bool) (rate horizon : ℕ) (d : DeviceInfo) → device_info_of ty channels line rate horizon ≡ Some d → IsDeviceInfo d
of_stated (Some ty) channels (Some line) rate horizon d is = fits_stated ty channels rate horizon line (is_channel_count channels && is_listed_rate rate && horizon == rate * 4) d refl is
of_stated (Some ty) channels None rate horizon d is = cc
of_stated None channels line rate horizon d is = cc

in_stated : (b : Bool) (ty : Option SampleType) (channels : ℕ) (line : Option Bool) (rate horizon : ℕ) (d : DeviceInfo) → (if b then device_info_of ty channels line rate horizon else None) ≡ Some d → IsDeviceInfo d
in_stated true ty channels line rate horizon d is = of_stated ty channels line rate horizon d is
in_stated false ty channels line rate horizon d is = cc

module _ (order : Order) where
  device_stated : (bytes : List ℕ) (d : DeviceInfo) → device_in order bytes ≡ Some d → IsDeviceInfo d
  device_stated bytes d is = in_stated (u8_at 3 bytes == 0) (type_of_code (u8_at 0 bytes)) (u8_at 1 bytes) (flag_of (u8_at 2 bytes)) (u32_at order 4 bytes) (u32_at order 8 bytes) d is

  -- n devices, each as it may be stated
  record AreStated (n : ℕ) (devices : List DeviceInfo) : Type 0 where
    number : length devices ≡ n
    each : All IsDeviceInfo devices

  none_stated : AreStated 0 []
  none_stated = record { number = refl; each = λ k d within. absurd (omega arith) }

  more_stated : (n : ℕ) (d : DeviceInfo) (devices : List DeviceInfo) → IsDeviceInfo d → AreStated n devices → AreStated (suc n) (d ∷ devices)
  more_stated n d devices first rest = record { number = ap suc rest.number; each = each } where
    each : All IsDeviceInfo (d ∷ devices)
    each zero x within = first
    each (suc k) x within = rest.each k x (omega arith)

  then_stated : (n : ℕ) (o : Option DeviceInfo) (p : Option (List DeviceInfo)) (devices : List DeviceInfo) → ((d : DeviceInfo) → o ≡ Some d → IsDeviceInfo d) → ((ds : List DeviceInfo) → p ≡ Some ds → AreStated n ds) →
      device_then o p ≡ Some devices → AreStated (suc n) devices
  then_stated n (Some d) (Some ds) devices first rest is =
      let same : d ∷ ds ≡ devices = cc in
      subst (λ (l : List DeviceInfo). AreStated (suc n) l) same (more_stated n d ds (first d refl) (rest ds refl))
  then_stated n (Some d) None devices first rest is = cc
  then_stated n None p devices first rest is = cc

  devices_stated : (n : ℕ) (bytes : List ℕ) (devices : List DeviceInfo) → devices_in order n bytes ≡ Some devices → AreStated n devices
  devices_stated zero bytes devices is = let same : [] ≡ devices = cc in subst (λ (l : List DeviceInfo). AreStated 0 l) same none_stated
  devices_stated (suc n) bytes devices is =
      then_stated n (device_in order (take 12 bytes)) (devices_in order n (drop 12 bytes)) devices (device_stated (take 12 bytes)) (devices_stated n (drop 12 bytes)) is

  -- the fields of a body's header, as they are tested
  tested : (n major minor size : ℕ) (b : Bool) → (major == 1 && minor == 0 && nat_le 1 n && nat_le n most_devices && size == 8 + 12 * n) ≡ b → b ≡ true → (1 ≤ n) × (n ≤ most_devices)
  tested n major minor size b is good = (grind (arith, nat_tests), grind (arith, nat_tests))

  body_stated : (n : ℕ) (b : Bool) (o : Option (List DeviceInfo)) (devices : List DeviceInfo) → (b ≡ true → (1 ≤ n) × (n ≤ most_devices)) → ((ds : List DeviceInfo) → o ≡ Some ds → AreStated n ds) →
      (if b then option_map setup o else None) ≡ Some (setup devices) → IsReplyTo opcodes.setup (setup devices)
  body_stated n true (Some ds) devices few all is =
      let same : ds ≡ devices = cc in
      let s : AreStated n devices = subst (λ (l : List DeviceInfo). AreStated n l) same (all ds refl) in
      let some : 1 ≤ n = (few refl).0 in
      let most : n ≤ most_devices = (few refl).1 in
      let number : length devices ≡ n = s.number in
      (refl, omega arith, omega arith, s.each)
  body_stated n true None devices few all is = cc
  body_stated n false o devices few all is = cc

  pub setup_stated : (body : List ℕ) (devices : List DeviceInfo) → answer_in order opcodes.setup body ≡ Some (setup devices) → IsReplyTo opcodes.setup (setup devices)
  setup_stated body devices is =
      let count : ℕ = u32_at order 4 body in
      let test : Bool = u16_at order 0 body == 1 && u16_at order 2 body == 0 && nat_le 1 count && nat_le count most_devices && length body == 8 + 12 * count in
      body_stated count test (devices_in order count (drop 8 body)) devices (tested count (u16_at order 0 body) (u16_at order 2 body) (length body) test refl) (devices_stated count (drop 8 body)) is
