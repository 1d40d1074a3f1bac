-- The devices of the reply to a setup, one after another.
use Rattle.std.proofs.Common.{◌≡◌, ◌<◌, ◌+◌, ◌-◌, ◌*◌, ◌∙◌, ℕ, suc, List, [], ◌∷◌, ◌++◌, take, drop, refl, ap, sym, arith}
use Rattle.std.specs.Prelude.{Option, Some, None, option_map, slice_range}
use Rattle.std.proofs.lemmas.List.{drop-drop, append_assoc}
use Rattle.af_wire.specs.declared.order.Order.{Order}
use Rattle.af_request.specs.declared.reply.DeviceInfo.{DeviceInfo}
use Rattle.af_request.specs.Replies.{device_in, device_then, devices_in}
use Rattle.af_request.proofs.FieldRoundTrips.{ap_2}

-- some devices, and then those that were read after them
abbrev pub devices_onto : List DeviceInfo → Option (List DeviceInfo) → Option (List DeviceInfo)
devices_onto devices rest = option_map (λ more. devices ++ more) rest

module _ (order : Order) where
  -- the devices from one on
  devices_in-next : (count i : ℕ) (bytes : List ℕ) → i < count →
      devices_in order (count - i) (drop (12 * i) bytes)
      ≡ device_then (device_in order (slice_range bytes (12 * i) (12 * i + 12))) (devices_in order (count - (i + 1)) (drop (12 * (i + 1)) bytes))
  devices_in-next count i bytes low =
      let left : count - i ≡ suc (count - (i + 1)) = omega arith in
      let size : 12 ≡ 12 * i + 12 - 12 * i = omega arith in
      let next : 12 * i + 12 ≡ 12 * (i + 1) = omega arith in
      ap (λ n. devices_in order n (drop (12 * i) bytes)) left
      ∙ ap_2 (λ n rest. device_then (device_in order (take n (drop (12 * i) bytes))) (devices_in order (count - (i + 1)) rest)) size (drop-drop 12 (12 * i) bytes ∙ ap (λ n. drop n bytes) next)

  -- one more device
  pub devices_more : (count i : ℕ) (bytes : List ℕ) (devices : List DeviceInfo) (d : DeviceInfo) → i < count →
      device_in order (slice_range bytes (12 * i) (12 * i + 12)) ≡ Some d →
      devices_onto devices (devices_in order (count - i) (drop (12 * i) bytes))
      ≡ devices_onto (devices ++ d ∷ []) (devices_in order (count - (i + 1)) (drop (12 * (i + 1)) bytes))
  devices_more count i bytes devices d low e =
      let rest : Option (List DeviceInfo) = devices_in order (count - (i + 1)) (drop (12 * (i + 1)) bytes) in
      ap (devices_onto devices) (devices_in-next count i bytes low ∙ ap (λ o. device_then o rest) e) ∙ onto rest
    where
      onto : (rest : Option (List DeviceInfo)) → devices_onto devices (device_then (Some d) rest) ≡ devices_onto (devices ++ d ∷ []) rest
      onto None = refl
      onto (Some more) = ap Some (sym (append_assoc devices (d ∷ []) more))

  -- bytes that are no device
  pub devices_none : (count i : ℕ) (bytes : List ℕ) (devices : List DeviceInfo) → i < count →
      device_in order (slice_range bytes (12 * i) (12 * i + 12)) ≡ None → devices_onto devices (devices_in order (count - i) (drop (12 * i) bytes)) ≡ None
  devices_none count i bytes devices low e =
      ap (devices_onto devices) (devices_in-next count i bytes low ∙ ap (λ o. device_then o (devices_in order (count - (i + 1)) (drop (12 * (i + 1)) bytes))) e)
