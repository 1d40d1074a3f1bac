-- How long a frame is at most, and so what it asks for.
use Rattle.std.proofs.Common.{◌≡◌, ℕ, ◌+◌, ◌-◌, ◌*◌, ◌≤◌, ◌==◌, Bool, true, false, cond, List, [], ◌∷◌, length, take, drop, slice_range, option_and_then, subst, arith}
use Rattle.std.proofs.lemmas.List.{length-drop, length-take}
use Rattle.std.specs.declared.option.Option.{Option}
use Rattle.std.specs.declared.option.Option.TheVariants.{None, Some}
use Rattle.af_limits.specs.Limits.{longest_frame}
use Rattle.af_wire.specs.declared.order.Order.{Order}
use Rattle.af_wire.specs.declared.front.Front.{Front}
use Rattle.af_wire.specs.declared.front.Front.TheVariants.{NeedMore, Frame, Malformed}
use Rattle.af_wire.specs.Front.{frame_front}
use Rattle.af_request.specs.Asked.{Asked}
use Rattle.af_request.specs.Fields.{u8_at, u32_at}
use Rattle.af_request.specs.Requests.{Row, asked_by, asked_in, row_of}
use Rattle.af_request.specs.Opcodes as opcodes
use Rattle.af_model.proofs.BoolTestLemmas.{cond-some, none_some, some_is}
use Rattle.af_model.proofs.DueLemmas.{most_asked}

abbrev AtMost : Front → Type 0
AtMost NeedMore = Unit {0}
AtMost (Frame n) = n ≤ longest_frame
AtMost Malformed = Unit {0}

frame_at_most : (order : Order) (xs : List ℕ) → AtMost (frame_front order xs)
frame_at_most order [] = tt
frame_at_most order (a ∷ []) = tt
frame_at_most order (a ∷ b ∷ []) = tt
frame_at_most order (a ∷ b ∷ c ∷ []) = tt
frame_at_most order (a ∷ b ∷ c ∷ d ∷ xs) = grind arith

-- what the row of an opcode asks for
abbrev AsksFew : Option Row → Type 0
AsksFew None = Unit {0}
AsksFew (Some r) = most_asked r.asked ≤ longest_frame

either : (b : Bool) (x y : Option Row) → AsksFew x → AsksFew y → AsksFew (cond b x y)
either true x y h i = h
either false x y h i = i

slice_within : (xs : List ℕ) (a b : ℕ) → length (slice_range xs a b) ≤ length xs
slice_within xs a b = omega (arith, length-take (b - a) (drop a xs), length-drop a xs)

row_asks : (order : Order) (opcode : ℕ) (frame : List ℕ) → length frame ≤ longest_frame → AsksFew (row_of order opcode frame)
row_asks order opcode frame short =
    let within = slice_within frame 16 (16 + u32_at order 12 frame) in
    let none : 0 ≤ longest_frame = omega arith in
    either (opcode == opcodes.no_op) _ _ none (either (opcode == opcodes.get_time) _ _ none (either (opcode == opcodes.create_ac) _ _ none (either (opcode == opcodes.change_ac) _ _ none (either (opcode == opcodes.free_ac) _ _ none (either (opcode == opcodes.play) _ _ (omega (arith, within, short))
    (either (opcode == opcodes.record) _ _ (omega arith) (either (opcode == opcodes.select_events) _ _ none (either (opcode == opcodes.set_controls) _ _ none (either (opcode == opcodes.query_controls) _ _ none (either (opcode == opcodes.hook_switch) _ _ none (either (opcode == opcodes.query_phone) _ _ none tt)))))))))))

-- a request that is a frame at the front of some bytes has few frames
pub frame_asks : (order : Order) (xs : List ℕ) (n : ℕ) (request : Asked) → frame_front order xs ≡ Frame n → asked_in order (take n xs) ≡ Some request → most_asked request ≤ longest_frame
frame_asks order xs n request e asked =
    let few : n ≤ longest_frame = subst AtMost e (frame_at_most order xs) in
    let short : length (take n xs) ≤ longest_frame = omega (arith, few, length-take n xs) in
    elim (row_of order (u8_at 0 (take n xs)) (take n xs)) as (λ o. AsksFew o → option_and_then (asked_by (take n xs)) o ≡ Some request → most_asked request ≤ longest_frame) [
      | None ↦ λ h e. absurd (none_some e)
      | Some r ↦ λ h e.
          let i = cond-some (length (take n xs) == 4 * r.words) (Some r.asked) request e in
          subst (λ a. most_asked a ≤ longest_frame) (some_is i.1) h
    ] (row_asks order (u8_at 0 (take n xs)) (take n xs) short) asked
