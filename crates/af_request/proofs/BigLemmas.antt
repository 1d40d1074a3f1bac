-- In Big, requests and replies are what they were before a client chose its byte order.
use Rattle.std.proofs.Common.{◌≡◌, ◌+◌, ◌-◌, ◌*◌, ◌==◌, ◌&&◌, ℕ, zero, suc, List, [], ◌∷◌, ◌++◌, length, nat_le, take, drop, refl, ap, arith}
use Rattle.std.specs.Prelude.{Some, None, if◌then◌else◌, option_map}
use Rattle.std.proofs.lemmas.Bool.Decides.{nat_tests}
use Rattle.std.proofs.lemmas.List.{drop-drop}
use Rattle.af_limits.specs.Limits.{most_devices}
use Rattle.af_wire.specs.declared.order.Order.TheVariants.{Big}
use Rattle.af_wire.specs.Message.{head}
use Rattle.af_wire.specs.Order.{u32_of}
use Rattle.af_wire.specs.big as wire
use Rattle.af_request.specs.Answer.{Answer, setup, plain, time, played, recorded, controls, phone}
use Rattle.af_request.specs.Asked.{Asked, no_op, get_time, create_ac, change_ac, free_ac, play_run, record_run, select_events, set_controls, query_controls, hook_switch, query_phone}
use Rattle.af_request.specs.Fields.{u16_at, u32_at, words_for}
use Rattle.af_request.specs.Replies.{answer_in, body_bytes, body_words, controls_in, device_then, device_in, devices_in, is_zero, is_plain, phone_in, plain_in, played_in, recorded_body, reply_bytes, setup_in, time_in}
use Rattle.af_request.specs.Requests.{request_bytes}
use Rattle.af_request.specs.big as big
use Rattle.af_request.specs.Opcodes as opcodes
use Rattle.af_request.proofs.FieldRoundTrips.{ap_2, ap_3}

pub same_requests : (a : Asked) → request_bytes Big a ≡ big.request_bytes a
same_requests no_op = refl
same_requests (get_time device) = refl
same_requests (create_ac device ac ty channels preempt play_gain record_gain) = refl
same_requests (change_ac mask ac preempt play_gain record_gain) = refl
same_requests (free_ac ac) = refl
same_requests (play_run quiet ac start samples) = refl
same_requests (record_run blocking ac start nbytes) = refl
same_requests (select_events device mask) = refl
same_requests (set_controls device mask input_on output_on input_gain output_gain) = refl
same_requests (query_controls device) = refl
same_requests (hook_switch device off) = refl
same_requests (query_phone device) = refl

same_devices : (count : ℕ) (bytes : List ℕ) → devices_in Big count bytes ≡ big.devices_in count bytes
same_devices zero bytes = refl
same_devices (suc count) bytes = ap (device_then (device_in Big (take 12 bytes))) (same_devices count (drop 12 bytes))

same_record : (body : List ℕ) → recorded_body Big body ≡ big.recorded_body body
same_record (t0 ∷ t1 ∷ t2 ∷ t3 ∷ n0 ∷ n1 ∷ n2 ∷ n3 ∷ rest) =
    let body : List ℕ = t0 ∷ t1 ∷ t2 ∷ t3 ∷ n0 ∷ n1 ∷ n2 ∷ n3 ∷ rest in
    let count : ℕ = u32_of Big (n0 ∷ n1 ∷ n2 ∷ n3 ∷ []) in
    let now : ℕ = u32_of Big (t0 ∷ t1 ∷ t2 ∷ t3 ∷ []) in
    let whole : (length rest == 4 * words_for count) ≡ (length body == 8 + 4 * words_for count) = grind (arith, nat_tests) in
    let given : count ≡ 8 + count - 8 = omega arith in
    ap_3 (λ t padding n. if t && is_zero padding then Some (recorded now (take n rest)) else None) whole (drop-drop count 8 body) given
same_record body = grind arith

same_setup : (body : List ℕ) → setup_in Big body ≡ big.setup_in body
same_setup body =
    let count : ℕ = u32_at Big 4 body in
    ap (λ devices. if u16_at Big 0 body == 1 && u16_at Big 2 body == 0 && nat_le 1 count && nat_le count most_devices && length body == 8 + 12 * count then option_map setup devices else None)
    (same_devices count (drop 8 body))

pub same_answers : (opcode : ℕ) (body : List ℕ) → answer_in Big opcode body ≡ big.answer_in opcode body
same_answers opcode body =
    ap_2 (λ devices samples.
    if is_plain opcode then plain_in body
    else if opcode == opcodes.setup then devices
    else if opcode == opcodes.get_time then time_in Big body
    else if opcode == opcodes.play then played_in Big body
    else if opcode == opcodes.record then samples
    else if opcode == opcodes.query_controls then controls_in Big body
    else if opcode == opcodes.query_phone then phone_in body
    else None)
    (same_setup body) (same_record body)

same_bodies : (a : Answer) → body_bytes Big a ≡ big.body_bytes a
same_bodies (setup devices) = refl
same_bodies plain = refl
same_bodies (time now) = refl
same_bodies (played now) = refl
same_bodies (recorded now samples) = refl
same_bodies (controls c) = refl
same_bodies (phone p) = refl

pub same_replies : (opcode : ℕ) (a : Answer) (sequence : ℕ) → reply_bytes Big opcode a sequence ≡ big.reply_bytes opcode a sequence
unfolding head wire.head
same_replies opcode a sequence = ap (λ body. wire.head 1 opcode sequence (body_words a) ++ body) (same_bodies a)
