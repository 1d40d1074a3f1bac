-- What a device that hears itself captures over all ticks.
use Rattle.std.proofs.Common.{◌≡◌, ℕ, ◌+◌, ◌-◌, ◌*◌, ◌≤◌, ◌<◌, List, [], ◌∷◌, ◌++◌, length, take, drop, replicate, refl, sym, ap, ◌∙◌, arith, append_assoc, append-nil}
use Rattle.std.proofs.lemmas.List.{take-append-le, drop-append-le, take-append-drop, length-drop, length-replicate, take-replicate, drop-replicate}
use Rattle.std.proofs.Math.Seq.{drop-append-add}
use Rattle.std.proofs.Math.Nat.{mul-le-mul_right}
use Rattle.af_loop.specs.DelayLine.{DelayState, silent_line}
use Rattle.af_loop.specs.Ticks.{Tick, TicksOnce, TicksOn, captured_in, emitted_in, frame_at, HearsItself}

-- a tick takes from the front what it captures, and adds to the back what it emits
tick_moves : (before after : DelayState) (tick : Tick) → TicksOnce before tick after → tick.captured ++ after.held ≡ before.held ++ tick.emitted
tick_moves before after tick t =
    ap (λ (xs : List ℕ). tick.captured ++ xs) (t.emits.held refl ∙ ap (λ (xs : List ℕ). xs ++ tick.emitted) (t.captures.held refl))
    ∙ sym (append_assoc tick.captured (drop (length tick.captured) before.held) tick.emitted)
    ∙ ap (λ (xs : List ℕ). (xs ++ drop (length tick.captured) before.held) ++ tick.emitted) (t.captures.sound refl)
    ∙ ap (λ (xs : List ℕ). xs ++ tick.emitted) (take-append-drop (length tick.captured) before.held)

-- what was captured, and then what is held, is what was held, and then what was emitted
pub all_moves : (ticks : List Tick) (before after : DelayState) → TicksOn before ticks after → captured_in ticks ++ after.held ≡ before.held ++ emitted_in ticks
all_moves [] before after on = ap (λ (s : DelayState). s.held) on ∙ sym (append-nil before.held)
all_moves (tick ∷ ticks) before after on =
    append_assoc tick.captured (captured_in ticks) after.held
    ∙ ap (λ (xs : List ℕ). tick.captured ++ xs) (all_moves ticks on.0 after on.2)
    ∙ sym (append_assoc tick.captured on.0.held (emitted_in ticks))
    ∙ ap (λ (xs : List ℕ). xs ++ emitted_in ticks) (tick_moves before on.0 tick on.1)
    ∙ append_assoc before.held tick.emitted (emitted_in ticks)

-- bytes within the front of a list
within_front : (from count : ℕ) (xs ys : List ℕ) → from + count ≤ length xs → take count (drop from (xs ++ ys)) ≡ take count (drop from xs)
within_front from count xs ys fits =
    let left : length (drop from xs) ≡ length xs - from = length-drop from xs in
    ap (take count) (drop-append-le from xs ys (omega (arith, fits))) ∙ take-append-le count (drop from xs) ys (omega (arith, fits, left))

-- a frame of what was captured is one of the silence and what was emitted
moved : (frame_bytes n : ℕ) (captured held silence emitted : List ℕ) → captured ++ held ≡ silence ++ emitted → (n + 1) * frame_bytes ≤ length captured →
    frame_at frame_bytes captured n ≡ frame_at frame_bytes (silence ++ emitted) n
moved frame_bytes n captured held silence emitted is fits =
    sym (within_front (n * frame_bytes) frame_bytes captured held (omega (arith, fits)))
    ∙ ap (λ (xs : List ℕ). take frame_bytes (drop (n * frame_bytes) xs)) is

later : (frame_bytes delay silent n : ℕ) (captured held emitted : List ℕ) → captured ++ held ≡ replicate (delay * frame_bytes) silent ++ emitted →
    (n + delay + 1) * frame_bytes ≤ length captured → frame_at frame_bytes captured (n + delay) ≡ frame_at frame_bytes emitted n
later frame_bytes delay silent n captured held emitted is fits =
    let silence = replicate (delay * frame_bytes) silent in
    let count : length silence ≡ delay * frame_bytes = length-replicate (delay * frame_bytes) silent in
    let place : (n + delay) * frame_bytes ≡ length silence + n * frame_bytes = omega (arith, count) in
    moved frame_bytes (n + delay) captured held silence emitted is fits
    ∙ ap (λ (k : ℕ). take frame_bytes (drop k (silence ++ emitted))) place
    ∙ ap (take frame_bytes) (drop-append-add silence emitted (n * frame_bytes))

before : (frame_bytes delay silent n : ℕ) (captured held emitted : List ℕ) → captured ++ held ≡ replicate (delay * frame_bytes) silent ++ emitted →
    n < delay → (n + 1) * frame_bytes ≤ length captured → frame_at frame_bytes captured n ≡ replicate frame_bytes silent
before frame_bytes delay silent n captured held emitted is few fits =
    let silence = replicate (delay * frame_bytes) silent in
    let count : length silence ≡ delay * frame_bytes = length-replicate (delay * frame_bytes) silent in
    let inside : (n + 1) * frame_bytes ≤ delay * frame_bytes = mul-le-mul_right frame_bytes (omega (arith, few)) in
    moved frame_bytes n captured held silence emitted is fits
    ∙ within_front (n * frame_bytes) frame_bytes silence emitted (omega (arith, count, inside))
    ∙ ap (take frame_bytes) (drop-replicate (n * frame_bytes) (delay * frame_bytes) silent)
    ∙ take-replicate frame_bytes (delay * frame_bytes - n * frame_bytes) silent (omega (arith, inside))

-- the promise
pub hears_itself : (frame_bytes delay silent : ℕ) (ticks : List Tick) (now : DelayState) → TicksOn (silent_line (delay * frame_bytes) silent) ticks now →
    HearsItself frame_bytes delay silent (captured_in ticks) (emitted_in ticks)
hears_itself frame_bytes delay silent ticks now on =
    let is = all_moves ticks (silent_line (delay * frame_bytes) silent) now on in record {
      later = λ n fits. later frame_bytes delay silent n (captured_in ticks) now.held (emitted_in ticks) is fits;
      before = λ n few fits. before frame_bytes delay silent n (captured_in ticks) now.held (emitted_in ticks) is few fits;
    }
