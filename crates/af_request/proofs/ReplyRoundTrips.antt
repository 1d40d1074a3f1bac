-- Replies that are written and read again.
use Rattle.std.proofs.Common.{◌≡◌, ◌<◌, ◌≤◌, ◌+◌, ◌-◌, ◌*◌, ◌^◌, ◌∙◌, ℕ, ℤ, zero, suc, Bool, true, false, List, [], ◌∷◌, ◌++◌, length, take, drop, replicate, refl, ap, arith}
use Rattle.std.specs.Prelude.{Some, None, ◌==◌, ◌&&◌, nat_le, if◌then◌else◌, option_map, All, FitsSigned}
use Rattle.std.specs.Int.{w16}
use Rattle.std.specs.List.{flat_map}
use Rattle.std.proofs.lemmas.Bool.{eq-eqb}
use Rattle.std.proofs.lemmas.Bool.Decides.{nat_tests}
use Rattle.std.proofs.lemmas.List.{length-append}
use Rattle.std.proofs.Math.Seq.{drop-append_seam}
use Rattle.af_limits.specs.Limits.{most_devices, longest_record}
use Rattle.af_sample.specs.declared.sample_type.SampleType.{SampleType}
use Rattle.af_sample.specs.declared.sample_type.SampleType.TheVariants.{Mu255, Alaw, Lin16, Lin32}
use Rattle.af_sample.specs.SampleTypes.{code_of, type_of_code}
use Rattle.af_sample.specs.Rates.{IsListedRate}
use Rattle.af_sample.specs.Gains.{gain_of, IsGain}
use Rattle.af_wire.specs.declared.order.Order.{Order}
use Rattle.af_wire.specs.Message.{head}
use Rattle.af_wire.specs.Order.{i16_bytes, i16_of, u16_bytes, u32_bytes, u32_of}
use Rattle.af_wire.proofs.OrderLemmas.{i16_again, u16_again, u32_again}
use Rattle.af_request.specs.declared.reply.DeviceInfo.{DeviceInfo}
use Rattle.af_request.specs.declared.reply.Controls.{Controls}
use Rattle.af_request.specs.declared.reply.Phone.{Phone}
use Rattle.af_request.specs.Answer.{Answer, setup, plain, time, played, recorded, controls, phone}
use Rattle.af_request.specs.Fields.{flag_byte, words_for, padded_bytes}
use Rattle.af_request.specs.Replies.{answer_in, body_bytes, body_words, controls_of, phone_of, reply_bytes, device_bytes, device_in, device_info_of, device_then, devices_in, flag_of, is_padded, is_plain, is_zero, IsReplyTo, IsDeviceInfo}
use Rattle.af_request.specs.Opcodes as opcodes
use Rattle.af_request.proofs.FieldRoundTrips.{ap_2, ap_3, length-padded_bytes, take-padded_bytes}

pub rate_below : (rate : ℕ) → IsListedRate rate → rate ≤ 48000
rate_below rate listed = grind (arith, nat_tests)

flag_again : (set : Bool) → flag_of (flag_byte set) ≡ Some set
flag_again true = refl
flag_again false = refl

-- a gain fits 16 bits
gain_fits : (g : ℤ) → IsGain g → FitsSigned w16 g
gain_fits g within = grind arith

module _ (order : Order) where
  gain_again : (g : ℤ) → IsGain g → gain_of (i16_of order (i16_bytes order g)) ≡ Some g
  gain_again g within = ap gain_of (i16_again order g (gain_fits g within)) ∙ grind arith

  controls_again : (c : Controls) → IsGain c.input_gain → IsGain c.output_gain → answer_in order opcodes.query_controls (body_bytes order (controls c)) ≡ Some (controls c)
  controls_again c input output =
      ap_2 (λ a b. controls_of a b (gain_of (i16_of order (i16_bytes order c.input_gain))) (gain_of (i16_of order (i16_bytes order c.output_gain))))
      (flag_again c.input_on) (flag_again c.output_on)
      ∙ ap_2 (λ g h. controls_of (Some c.input_on) (Some c.output_on) g h) (gain_again c.input_gain input) (gain_again c.output_gain output)

  phone_again : (p : Phone) → answer_in order opcodes.query_phone (body_bytes order (phone p)) ≡ Some (phone p)
  phone_again p =
      ap_3 (λ a b c. option_map phone (phone_of a b c (flag_of (flag_byte p.current)) (flag_of (flag_byte p.dead))))
      (flag_again p.wanted_off) (flag_again p.given_off) (flag_again p.ringing)
      ∙ ap_2 (λ d e. option_map phone (phone_of (Some p.wanted_off) (Some p.given_off) (Some p.ringing) d e)) (flag_again p.current) (flag_again p.dead)

  is_zero-replicate : (n : ℕ) → is_zero (replicate n 0) ≡ true
  is_zero-replicate zero = refl
  is_zero-replicate (suc n) = is_zero-replicate n

  -- a count of samples that a reply has room for is below 2^32
  below : (n : ℕ) → n ≤ longest_record → n < 2 ^ 32
  below n low = omega arith

  padded_again : (samples : List ℕ) → is_padded (length samples) (padded_bytes samples) ≡ true
  padded_again samples =
      let n : ℕ = length samples in
      let rest : drop n (padded_bytes samples) ≡ replicate (4 * words_for n - n) 0 = drop-append_seam samples (replicate (4 * words_for n - n) 0) in
      ap_2 (λ a b. a && b) (eq-eqb _ _ (length-padded_bytes samples)) (ap is_zero rest ∙ is_zero-replicate (4 * words_for n - n))

  recorded_again : (now : ℕ) (samples : List ℕ) → now < 2 ^ 32 → length samples ≤ longest_record →
      answer_in order opcodes.record (body_bytes order (recorded now samples)) ≡ Some (recorded now samples)
  recorded_again now samples low most =
      let n : ℕ = length samples in
      let rest : List ℕ = padded_bytes samples in
      ap_2 (λ t k. if is_padded k rest then Some (recorded t (take k rest)) else None) (u32_again order now low) (u32_again order n (below n most))
      ∙ ap_2 (λ b s. if b then Some (recorded now s) else None) (padded_again samples) (take-padded_bytes samples)

  type_again : (ty : SampleType) → type_of_code (code_of ty) ≡ Some ty
  type_again Mu255 = refl
  type_again Alaw = refl
  type_again Lin16 = refl
  type_again Lin32 = refl

  -- a device that may be stated is read as it is
  stated_again : (d : DeviceInfo) → IsDeviceInfo d → device_info_of (Some d.ty) d.channels (Some d.line) d.rate d.horizon ≡ Some d
  stated_again d s =
      ap_3 (λ a b c. if a && b && c then Some d else None) s.channels s.rate (eq-eqb _ _ s.horizon)

  device_again : (d : DeviceInfo) (rest : List ℕ) → IsDeviceInfo d → device_in order (take 12 (device_bytes order d ++ rest)) ≡ Some d
  device_again d rest s =
      let low : d.rate ≤ 48000 = rate_below d.rate s.rate in
      let same : d.horizon ≡ d.rate * 4 = s.horizon in
      ap_2 (λ t l. device_info_of t d.channels l (u32_of order (u32_bytes order d.rate)) (u32_of order (u32_bytes order d.horizon))) (type_again d.ty) (flag_again d.line)
      ∙ ap_2 (λ r h. device_info_of (Some d.ty) d.channels (Some d.line) r h) (u32_again order d.rate (omega arith)) (u32_again order d.horizon (omega arith))
      ∙ stated_again d s

  devices_again : (devices : List DeviceInfo) → All IsDeviceInfo devices → devices_in order (length devices) (flat_map (device_bytes order) devices) ≡ Some devices
  devices_again [] each = refl
  devices_again (d ∷ devices) each =
      ap_2 device_then (device_again d (flat_map (device_bytes order) devices) (each 0 d (omega arith)))
      (devices_again devices (λ k e low. each (suc k) e (omega arith)))

  length-devices : (devices : List DeviceInfo) → length (flat_map (device_bytes order) devices) ≡ 12 * length devices
  length-devices [] = refl
  length-devices (d ∷ devices) =
      let sum : 12 + 12 * length devices ≡ 12 * suc (length devices) = omega arith in
      length-append (device_bytes order d) (flat_map (device_bytes order) devices) ∙ ap (λ n. 12 + n) (length-devices devices) ∙ sum

  -- as many devices as a setup may have, all there
  counted : (count n size : ℕ) → count ≡ n → 1 ≤ n → n ≤ most_devices → size ≡ 8 + 12 * n → (nat_le 1 count && nat_le count most_devices && size == 8 + 12 * count) ≡ true
  counted count n size e some most whole = grind (arith, nat_tests)

  setup_again : (devices : List DeviceInfo) → 1 ≤ length devices → length devices ≤ most_devices → All IsDeviceInfo devices →
      answer_in order opcodes.setup (body_bytes order (setup devices)) ≡ Some (setup devices)
  setup_again devices some most each =
      let n : ℕ = length devices in
      let count : ℕ = u32_of order (u32_bytes order n) in
      let tail : List ℕ = flat_map (device_bytes order) devices in
      let body : List ℕ = body_bytes order (setup devices) in
      let e : count ≡ n = u32_again order n (omega arith) in
      let whole : length body ≡ 8 + 12 * n = length-append (u16_bytes order 1 ++ u16_bytes order 0 ++ u32_bytes order n) tail ∙ ap (λ k. 8 + k) (length-devices devices) in
      ap_2 (λ a b. if a == 1 && b == 0 && nat_le 1 count && nat_le count most_devices && length body == 8 + 12 * count then option_map setup (devices_in order count tail) else None) (u16_again order 1 (omega arith)) (u16_again order 0 (omega arith))
      ∙ ap (λ b. if b then option_map setup (devices_in order count tail) else None) (counted count n (length body) e some most whole)
      ∙ ap (λ k. option_map setup (devices_in order k tail)) e
      ∙ ap (option_map setup) (devices_again devices each)

  first_of_two : {A : Type 0} (b : Bool) (x y : A) → b ≡ true → (if b then x else y) ≡ x
  first_of_two b x y e = ap (λ c. if c then x else y) e

  -- a reply to a request of an opcode, from that of its only opcode
  at_opcode : (opcode only : ℕ) (a : Answer) → opcode ≡ only → answer_in order only (body_bytes order a) ≡ Some a → answer_in order opcode (body_bytes order a) ≡ Some a
  at_opcode opcode only a e h = ap (λ n. answer_in order n (body_bytes order a)) e ∙ h

  pub answer_again : (opcode : ℕ) (a : Answer) → IsReplyTo opcode a → answer_in order opcode (body_bytes order a) ≡ Some a
  answer_again opcode (setup devices) fits = at_opcode opcode opcodes.setup (setup devices) fits.0 (setup_again devices fits.1 fits.2 fits.3)
  answer_again opcode plain fits = first_of_two (is_plain opcode) (Some plain) _ fits
  answer_again opcode (time now) fits = at_opcode opcode opcodes.get_time (time now) fits.0 (ap (λ n. Some (time n)) (u32_again order now fits.1))
  answer_again opcode (played now) fits = at_opcode opcode opcodes.play (played now) fits.0 (ap (λ n. Some (played n)) (u32_again order now fits.1))
  answer_again opcode (recorded now samples) fits = at_opcode opcode opcodes.record (recorded now samples) fits.0 (recorded_again now samples fits.1 fits.2)
  answer_again opcode (controls c) fits = at_opcode opcode opcodes.query_controls (controls c) fits.0 (controls_again c fits.1 fits.2)
  answer_again opcode (phone p) fits = at_opcode opcode opcodes.query_phone (phone p) fits (phone_again p)

  -- the body of a reply has as many words as its header states
  pub length-body : (a : Answer) → length (body_bytes order a) ≡ 4 * body_words a
  length-body (setup devices) =
      let sum : 8 + 12 * length devices ≡ 4 * (2 + 3 * length devices) = omega arith in
      length-append (u16_bytes order 1 ++ u16_bytes order 0 ++ u32_bytes order (length devices)) (flat_map (device_bytes order) devices) ∙ ap (λ k. 8 + k) (length-devices devices) ∙ sum
  length-body plain = refl
  length-body (time now) = refl
  length-body (played now) = refl
  length-body (recorded now samples) =
      let sum : 8 + 4 * words_for (length samples) ≡ 4 * (2 + words_for (length samples)) = omega arith in
      length-append (u32_bytes order now ++ u32_bytes order (length samples)) (padded_bytes samples) ∙ ap (λ k. 8 + k) (length-padded_bytes samples) ∙ sum
  length-body (controls c) = refl
  length-body (phone p) = refl

  -- bytes that spell a reply have a body that is read as it
  pub spelled_again : (opcode sequence : ℕ) (a : Answer) (bytes : List ℕ) → bytes ≡ reply_bytes order opcode a sequence → IsReplyTo opcode a →
      answer_in order opcode (drop 8 bytes) ≡ Some a
  unfolding head
  spelled_again opcode sequence a bytes e fits = ap (λ m. answer_in order opcode (drop 8 m)) e ∙ answer_again opcode a fits
