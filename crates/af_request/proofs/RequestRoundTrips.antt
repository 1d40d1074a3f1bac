-- Requests that are written and read again.
use Rattle.std.proofs.Common.{◌≡◌, ◌<◌, ◌≤◌, ◌+◌, ◌-◌, ◌*◌, ◌∙◌, ◌^◌, ℕ, Bool, true, false, List, [], ◌∷◌, ◌++◌, length, take, drop, refl, sym, ap, subst, arith}
use Rattle.std.specs.Prelude.{Some, None, if◌then◌else◌, slice_range}
use Rattle.std.proofs.lemmas.Bool.{eq-eqb}
use Rattle.std.proofs.lemmas.List.{length-append}
use Rattle.af_limits.specs.Limits.{most_words, longest_play}
use Rattle.af_wire.specs.declared.front.Front.TheVariants.{Frame}
use Rattle.af_wire.specs.declared.order.Order.{Order}
use Rattle.af_wire.specs.Front.{frame_front, frame_with}
use Rattle.af_wire.specs.Order.{i16_bytes, u32_bytes}
use Rattle.af_wire.proofs.OrderLemmas.{i16_again, u16_again, u32_again}
use Rattle.af_request.specs.Asked.{Asked, no_op, get_time, create_ac, change_ac, free_ac, play_run, record_run, select_events, set_controls, query_controls, hook_switch, query_phone}
use Rattle.af_request.specs.Fields.{flag_byte, words_for, padded_bytes}
use Rattle.af_request.specs.Requests.{row, asked_by, asked_in, request_bytes, front, IsOneRequest, IsWritable}
use Rattle.af_request.specs.Opcodes as opcodes
use Rattle.af_request.proofs.FieldRoundTrips.{ap_2, ap_3, length-padded_bytes, take-padded_bytes}

module _ (order : Order) where
  -- a count of samples that a frame has room for is below 2^32
  below : (n : ℕ) → n ≤ longest_play → n < 2 ^ 32
  below n low = omega arith

  -- what a play has before its samples
  abbrev play_head : (quiet ac time count : ℕ) → List ℕ
  play_head quiet ac time count = front order opcodes.play quiet (4 + words_for count) ++ u32_bytes order ac ++ u32_bytes order time ++ u32_bytes order count

  -- a play has the length that it states
  length-play : (quiet ac time : ℕ) (samples : List ℕ) →
      length (play_head quiet ac time (length samples) ++ padded_bytes samples) ≡ 4 * (4 + words_for (length samples))
  length-play quiet ac time samples =
      let sum : 16 + 4 * words_for (length samples) ≡ 4 * (4 + words_for (length samples)) = omega arith in
      length-append (play_head quiet ac time (length samples)) (padded_bytes samples)
      ∙ ap (λ n. 16 + n) (length-padded_bytes samples) ∙ sum

  -- a play of the length that it states
  play_read : (quiet : Bool) (a t count ac time : ℕ) (frame samples : List ℕ) → a ≡ ac → t ≡ time → count ≡ length samples →
      length frame ≡ 4 * (4 + words_for (length samples)) → take (length samples) (drop 16 frame) ≡ samples →
      asked_by frame (row (4 + words_for count) (play_run quiet a t (slice_range frame 16 (16 + count)))) ≡ Some (play_run quiet ac time samples)
  play_read quiet a t count ac time frame samples context start size whole kept =
      let n : 16 + length samples - 16 ≡ length samples = omega arith in
      ap (λ n. asked_by frame (row (4 + words_for n) (play_run quiet a t (slice_range frame 16 (16 + n))))) size
      ∙ ap (λ b. if b then Some (play_run quiet a t (slice_range frame 16 (16 + length samples))) else None) (eq-eqb _ _ whole)
      ∙ ap_3 (λ a t s. Some (play_run quiet a t s)) context start (ap (λ n. take n (drop 16 frame)) n ∙ kept)

  play_again : (quiet : Bool) (ac time : ℕ) (samples : List ℕ) → IsWritable (play_run quiet ac time samples) →
      asked_in order (request_bytes order (play_run quiet ac time samples)) ≡ Some (play_run quiet ac time samples)
  play_again true ac time samples fits =
      play_read true _ _ _ ac time (play_head 1 ac time (length samples) ++ padded_bytes samples) samples (u32_again order ac fits.0) (u32_again order time fits.1) (u32_again order (length samples) (below _ fits.2))
      (length-play 1 ac time samples) (take-padded_bytes samples)
  play_again false ac time samples fits =
      play_read false _ _ _ ac time (play_head 0 ac time (length samples) ++ padded_bytes samples) samples (u32_again order ac fits.0) (u32_again order time fits.1) (u32_again order (length samples) (below _ fits.2))
      (length-play 0 ac time samples) (take-padded_bytes samples)

  pub request_again : (a : Asked) → IsWritable a → asked_in order (request_bytes order a) ≡ Some a
  request_again no_op fits = refl
  request_again (get_time device) fits = refl
  request_again (create_ac device ac ty channels preempt play_gain record_gain) fits =
      ap_3 (λ n x y. Some (create_ac device n ty channels preempt x y)) (u32_again order ac fits.0) (i16_again order play_gain fits.1) (i16_again order record_gain fits.2)
  request_again (change_ac mask ac preempt play_gain record_gain) fits =
      ap_3 (λ n x y. Some (change_ac mask n preempt x y)) (u32_again order ac fits.0) (i16_again order play_gain fits.1) (i16_again order record_gain fits.2)
  request_again (free_ac ac) fits = ap (λ n. Some (free_ac n)) (u32_again order ac fits)
  request_again (play_run quiet ac time samples) fits = play_again quiet ac time samples fits
  request_again (record_run true ac time nbytes) fits =
      ap_3 (λ a t n. Some (record_run true a t n)) (u32_again order ac fits.0) (u32_again order time fits.1) (u32_again order nbytes fits.2)
  request_again (record_run false ac time nbytes) fits =
      ap_3 (λ a t n. Some (record_run false a t n)) (u32_again order ac fits.0) (u32_again order time fits.1) (u32_again order nbytes fits.2)
  request_again (select_events device mask) fits = ap (λ n. Some (select_events device n)) (u32_again order mask fits)
  request_again (set_controls device mask input_on output_on input_gain output_gain) fits =
      ap_2 (λ x y. Some (set_controls device mask input_on output_on x y)) (i16_again order input_gain fits.0) (i16_again order output_gain fits.1)
  request_again (query_controls device) fits = refl
  request_again (hook_switch device off) fits = ap (λ n. Some (hook_switch device n)) (u32_again order off fits)
  request_again (query_phone device) fits = refl

  -- so many words, all there
  framed_with : (words there size : ℕ) → 0 < words → words ≤ most_words → size ≡ 4 * words → 4 * words ≤ there → frame_with words there ≡ Frame size
  framed_with words there size some most whole room = grind arith

  -- a frame of the length that it states, whatever follows it
  framed : (opcode detail words : ℕ) (body rest : List ℕ) → 0 < words → words ≤ most_words → length (front order opcode detail words ++ body) ≡ 4 * words →
      frame_front order (front order opcode detail words ++ body ++ rest) ≡ Frame (length (front order opcode detail words ++ body))
  framed opcode detail words body rest some most whole =
      let there : ℕ = length (front order opcode detail words ++ body ++ rest) in
      let sum : there ≡ length (front order opcode detail words ++ body) + length rest = length-append (front order opcode detail words ++ body) rest in
      ap (λ w. frame_with w there) (u16_again order words (omega arith))
      ∙ framed_with words there (length (front order opcode detail words ++ body)) some most whole (omega arith)

  pub request_framed : (a : Asked) (rest : List ℕ) → IsWritable a → frame_front order (request_bytes order a ++ rest) ≡ Frame (length (request_bytes order a))
  request_framed no_op rest fits = framed 1 0 1 [] rest (omega arith) (omega arith) refl
  request_framed (get_time device) rest fits = framed 2 device 1 [] rest (omega arith) (omega arith) refl
  request_framed (create_ac device ac ty channels preempt play_gain record_gain) rest fits =
      framed 3 device 4 (u32_bytes order ac ++ (ty ∷ channels ∷ preempt ∷ 0 ∷ []) ++ i16_bytes order play_gain ++ i16_bytes order record_gain) rest (omega arith) (omega arith) refl
  request_framed (change_ac mask ac preempt play_gain record_gain) rest fits =
      framed 4 mask 4 (u32_bytes order ac ++ (preempt ∷ 0 ∷ 0 ∷ 0 ∷ []) ++ i16_bytes order play_gain ++ i16_bytes order record_gain) rest (omega arith) (omega arith) refl
  request_framed (free_ac ac) rest fits = framed 5 0 2 (u32_bytes order ac) rest (omega arith) (omega arith) refl
  request_framed (play_run quiet ac time samples) rest fits =
      let most : length samples ≤ longest_play = fits.2 in
      framed 6 (flag_byte quiet) (4 + words_for (length samples)) (u32_bytes order ac ++ u32_bytes order time ++ u32_bytes order (length samples) ++ padded_bytes samples) rest
      (omega arith) (omega arith) (length-play (flag_byte quiet) ac time samples)
  request_framed (record_run blocking ac time nbytes) rest fits =
      framed 7 (flag_byte blocking) 4 (u32_bytes order ac ++ u32_bytes order time ++ u32_bytes order nbytes) rest (omega arith) (omega arith) refl
  request_framed (select_events device mask) rest fits = framed 8 device 2 (u32_bytes order mask) rest (omega arith) (omega arith) refl
  request_framed (set_controls device mask input_on output_on input_gain output_gain) rest fits =
      framed 9 device 3 ((mask ∷ input_on ∷ output_on ∷ 0 ∷ []) ++ i16_bytes order input_gain ++ i16_bytes order output_gain) rest (omega arith) (omega arith) refl
  request_framed (query_controls device) rest fits = framed 10 device 1 [] rest (omega arith) (omega arith) refl
  request_framed (hook_switch device off) rest fits = framed 11 device 2 (u32_bytes order off) rest (omega arith) (omega arith) refl
  request_framed (query_phone device) rest fits = framed 12 device 1 [] rest (omega arith) (omega arith) refl

  -- bytes that spell a request are read as it
  pub spelled_again : (a : Asked) (bytes : List ℕ) → bytes ≡ request_bytes order a → IsWritable a → asked_in order bytes ≡ Some a
  spelled_again a bytes e fits = ap (asked_in order) e ∙ request_again a fits

  -- and are one frame, whatever follows them
  pub spelled_one : (a : Asked) (bytes : List ℕ) → bytes ≡ request_bytes order a → IsWritable a → IsOneRequest order a bytes
  spelled_one a bytes e fits = subst (λ (b : List ℕ). IsOneRequest order a b) (sym e)
      (record { one = λ rest. request_framed a rest fits; asks = request_again a fits })
