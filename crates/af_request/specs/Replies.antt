-- The grammar of replies: which bodies mean which answer, and how a reply is spelled.
use Rattle.std.specs.Prelude.{◌≡◌, ◌≤◌, ◌<◌, ◌^◌, ℕ, zero, suc, ◌+◌, ◌*◌, ◌==◌, nat_le, ◌&&◌, if◌then◌else◌, Bool, true, false, ℤ, List, [], ◌∷◌, ◌++◌, All, Option, Some, None, IsTrue, length, take, drop, slice_range, option_map, ⊤}
use Rattle.std.specs.List.{list_all, list_any, flat_map}
use Rattle.af_limits.specs.Limits.{most_devices, longest_record}
use Rattle.af_wire.specs.declared.order.Order.{Order}
use Rattle.af_wire.specs.Message.{head}
use Rattle.af_wire.specs.Order.{i16_bytes, u16_bytes, u32_bytes, u32_of}
use Rattle.af_sample.specs.declared.sample_type.SampleType.{SampleType}
use Rattle.af_sample.specs.SampleTypes.{code_of, type_of_code}
use Rattle.af_sample.specs.Channels.{is_channel_count, IsChannelCount}
use Rattle.af_sample.specs.Rates.{is_listed_rate, IsListedRate}
use Rattle.af_sample.specs.Gains.{gain_of, IsGain}
use Rattle.af_request.specs.declared.reply.DeviceInfo.{DeviceInfo}
use Rattle.af_request.specs.declared.reply.Phone.{Phone}
use Rattle.af_request.specs.Answer.{Answer, setup, plain, time, played, recorded, controls, phone}
use Rattle.af_request.specs.Fields.{u8_at, u16_at, u32_at, i16_at, flag_byte, words_for, padded_bytes}
use Rattle.af_request.specs.Opcodes as opcodes

-- whether all bytes are zero, as padding is
abbrev pub is_zero : List ℕ → Bool
is_zero bytes = list_all (λ b. b == 0) bytes

-- the flag that a byte states, if it does
abbrev pub flag_of : ℕ → Option Bool
flag_of byte = if byte == 0 then Some false else if byte == 1 then Some true else None

-- a device of one or two channels, of a listed rate, that can be played to four seconds ahead
abbrev pub device_info_of : Option SampleType → ℕ → Option Bool → ℕ → ℕ → Option DeviceInfo
device_info_of (Some ty) channels (Some line) rate horizon =
    if is_channel_count channels && is_listed_rate rate && horizon == rate * 4
    then Some (record { ty = ty; channels = channels; line = line; rate = rate; horizon = horizon })
    else None
device_info_of _ _ _ _ _ = None

-- what 12 bytes of the reply to a setup say of a device
abbrev pub device_in : Order → List ℕ → Option DeviceInfo
device_in order bytes =
    if u8_at 3 bytes == 0
    then device_info_of (type_of_code (u8_at 0 bytes)) (u8_at 1 bytes) (flag_of (u8_at 2 bytes)) (u32_at order 4 bytes)
    (u32_at order 8 bytes)
    else None

-- a device and those after it
abbrev pub device_then : Option DeviceInfo → Option (List DeviceInfo) → Option (List DeviceInfo)
device_then (Some device) (Some devices) = Some (device ∷ devices)
device_then _ _ = None

-- n devices
abbrev pub devices_in : Order → ℕ → List ℕ → Option (List DeviceInfo)
devices_in order zero bytes = Some []
devices_in order (suc count) bytes = device_then (device_in order (take 12 bytes)) (devices_in order count (drop 12 bytes))

-- the reply to a setup: version 1.0, and 1 to 8 devices
abbrev pub setup_in : Order → List ℕ → Option Answer
setup_in order body = let count = u32_at order 4 body in
    if u16_at order 0 body == 1 && u16_at order 2 body == 0 && nat_le 1 count && nat_le count most_devices
    && length body == 8 + 12 * count
    then option_map setup (devices_in order count (drop 8 body))
    else None

-- the reply to a request without a value in it
abbrev pub plain_in : List ℕ → Option Answer
plain_in body = if length body == 0 then Some plain else None

-- the reply to GetTime
abbrev pub time_in : Order → List ℕ → Option Answer
time_in order body = if length body == 4 then Some (time (u32_at order 0 body)) else None

-- the reply to a Play
abbrev pub played_in : Order → List ℕ → Option Answer
played_in order body = if length body == 4 then Some (played (u32_at order 0 body)) else None

-- whether these are so many bytes, padded with zeros to a word
abbrev pub is_padded : ℕ → List ℕ → Bool
is_padded count bytes = length bytes == 4 * words_for count && is_zero (drop count bytes)

-- the reply to a Record: the time, the count of the bytes of the samples, and these, padded
abbrev pub recorded_body : Order → List ℕ → Option Answer
recorded_body order (t0 ∷ t1 ∷ t2 ∷ t3 ∷ n0 ∷ n1 ∷ n2 ∷ n3 ∷ rest) = let count = u32_of order (n0 ∷ n1 ∷ n2 ∷ n3 ∷ []) in
    if is_padded count rest then Some (recorded (u32_of order (t0 ∷ t1 ∷ t2 ∷ t3 ∷ [])) (take count rest)) else None
recorded_body order _ = None

abbrev pub controls_of : Option Bool → Option Bool → Option ℤ → Option ℤ → Option Answer
controls_of (Some input_on) (Some output_on) (Some input_gain) (Some output_gain) =
    Some (controls (record { input_on = input_on; output_on = output_on; input_gain = input_gain; output_gain = output_gain }))
controls_of _ _ _ _ = None

-- the reply to QueryControls
abbrev pub controls_in : Order → List ℕ → Option Answer
controls_in order body =
    if length body == 8 && is_zero (slice_range body 2 4)
    then controls_of (flag_of (u8_at 0 body)) (flag_of (u8_at 1 body)) (gain_of (i16_at order 4 body))
    (gain_of (i16_at order 6 body))
    else None

abbrev pub phone_of : Option Bool → Option Bool → Option Bool → Option Bool → Option Bool → Option Phone
phone_of (Some wanted_off) (Some given_off) (Some ringing) (Some current) (Some dead) =
    Some (record { wanted_off = wanted_off; given_off = given_off; ringing = ringing; current = current; dead = dead })
phone_of _ _ _ _ _ = None

-- the reply to QueryPhone
abbrev pub phone_in : List ℕ → Option Answer
phone_in body =
    if length body == 8 && is_zero (drop 5 body)
    then option_map phone
    (phone_of (flag_of (u8_at 0 body)) (flag_of (u8_at 1 body)) (flag_of (u8_at 2 body)) (flag_of (u8_at 3 body))
    (flag_of (u8_at 4 body)))
    else None

-- the replies to CreateAC, ChangeAC, FreeAC, SelectEvents, SetControls and HookSwitch have no value
abbrev pub is_plain : ℕ → Bool
is_plain opcode = list_any (λ o. opcode == o) (opcodes.create_ac ∷ opcodes.change_ac ∷ opcodes.free_ac
    ∷ opcodes.select_events ∷ opcodes.set_controls ∷ opcodes.hook_switch ∷ [])

-- the answer of a body to a request of an opcode, or to a setup, if it is such a body
abbrev pub answer_in : Order → ℕ → List ℕ → Option Answer
answer_in order opcode body =
    if is_plain opcode then plain_in body
    else if opcode == opcodes.setup then setup_in order body
    else if opcode == opcodes.get_time then time_in order body
    else if opcode == opcodes.play then played_in order body
    else if opcode == opcodes.record then recorded_body order body
    else if opcode == opcodes.query_controls then controls_in order body
    else if opcode == opcodes.query_phone then phone_in body
    else None

-- what the reply to a setup says of a device
abbrev pub device_bytes : Order → DeviceInfo → List ℕ
device_bytes order d = (code_of d.ty ∷ d.channels ∷ flag_byte d.line ∷ 0 ∷ []) ++ u32_bytes order d.rate
    ++ u32_bytes order d.horizon

-- what the reply to QueryPhone says
abbrev pub phone_bytes : Phone → List ℕ
phone_bytes p =
    flag_byte p.wanted_off ∷ flag_byte p.given_off ∷ flag_byte p.ringing ∷ flag_byte p.current ∷ flag_byte p.dead ∷ 0 ∷ 0 ∷ 0 ∷ []

-- how the body of a reply is spelled
abbrev pub body_bytes : Order → Answer → List ℕ
body_bytes order (setup devices) = u16_bytes order 1 ++ u16_bytes order 0 ++ u32_bytes order (length devices)
    ++ flat_map (device_bytes order) devices
body_bytes order plain = []
body_bytes order (time now) = u32_bytes order now
body_bytes order (played now) = u32_bytes order now
body_bytes order (recorded now samples) = u32_bytes order now ++ u32_bytes order (length samples) ++ padded_bytes samples
body_bytes order (controls c) =
    (flag_byte c.input_on ∷ flag_byte c.output_on ∷ 0 ∷ 0 ∷ []) ++ i16_bytes order c.input_gain ++ i16_bytes order c.output_gain
body_bytes order (phone p) = phone_bytes p

-- how many words the body of a reply has
abbrev pub body_words : Answer → ℕ
body_words (setup devices) = 2 + 3 * length devices
body_words plain = 0
body_words (time now) = 1
body_words (played now) = 1
body_words (recorded now samples) = 2 + words_for (length samples)
body_words (controls c) = 2
body_words (phone p) = 2

-- how a reply to a request of an opcode is spelled, with the number of that request
abbrev pub reply_bytes : Order → ℕ → Answer → ℕ → List ℕ
reply_bytes order opcode answer sequence = head order 1 opcode sequence (body_words answer) ++ body_bytes order answer

-- a reply in which a record has at most the samples that the longest reply has room for
abbrev pub FitsMessage : Answer → Type 0
FitsMessage (recorded now samples) = length samples ≤ longest_record
FitsMessage _ = ⊤

-- a device as the reply to a setup may state it
pub record IsDeviceInfo (d : DeviceInfo) : Type 0 where
  pub channels : IsChannelCount d.channels
  pub rate : IsListedRate d.rate
  pub horizon : d.horizon ≡ d.rate * 4

-- a reply that a request of an opcode may get
abbrev pub IsReplyTo : ℕ → Answer → Type 0
IsReplyTo opcode (setup devices) = (opcode ≡ opcodes.setup) × (1 ≤ length devices) × (length devices ≤ most_devices)
    × All IsDeviceInfo devices
IsReplyTo opcode plain = IsTrue (is_plain opcode)
IsReplyTo opcode (time now) = (opcode ≡ opcodes.get_time) × (now < 2 ^ 32)
IsReplyTo opcode (played now) = (opcode ≡ opcodes.play) × (now < 2 ^ 32)
IsReplyTo opcode (recorded now samples) = (opcode ≡ opcodes.record) × (now < 2 ^ 32) × (length samples ≤ longest_record)
IsReplyTo opcode (controls c) = (opcode ≡ opcodes.query_controls) × IsGain c.input_gain × IsGain c.output_gain
IsReplyTo opcode (phone p) = opcode ≡ opcodes.query_phone
