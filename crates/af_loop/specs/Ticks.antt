-- Ticks of a device that hears itself, and what it promises of them. In a tick a device captures first, and then emits as much.
use Rattle.std.specs.Prelude.{◌≡◌, ℕ, ◌+◌, ◌*◌, ◌≤◌, ◌<◌, List, [], ◌∷◌, ◌++◌, length, take, drop, replicate}
use Rattle.af_io.specs.declared.flow.Put.TheVariants as put
use Rattle.af_loop.specs.DelayLine.{DelayState, Captures, Emits}

-- what a device captured and emitted in one tick
pub record Tick : Type 0 where
  pub captured : List ℕ
  pub emitted : List ℕ

-- one tick
pub record TicksOnce (before : DelayState) (tick : Tick) (after : DelayState) : Type 0 where
  pub between : DelayState
  pub captures : Captures put.Done before tick.captured between
  pub emits : Emits put.Done between tick.emitted after
  pub same : length tick.emitted ≡ length tick.captured

-- ticks one after another
abbrev pub TicksOn : DelayState → List Tick → DelayState → Type 0
TicksOn before [] after = after ≡ before
TicksOn before (tick ∷ ticks) after = (next : DelayState) × TicksOnce before tick next × TicksOn next ticks after

-- all that was captured, in order
abbrev pub captured_in : List Tick → List ℕ
captured_in [] = []
captured_in (tick ∷ ticks) = tick.captured ++ captured_in ticks

-- and all that was emitted
abbrev pub emitted_in : List Tick → List ℕ
emitted_in [] = []
emitted_in (tick ∷ ticks) = tick.emitted ++ emitted_in ticks

-- The frame of a sound with this number, from 0. In what a device captured or emitted since its start, it is the frame of the
-- device time that is as many frames after the start, also where that time has wrapped.
abbrev pub frame_at : ℕ → List ℕ → ℕ → List ℕ
frame_at frame_bytes sound n = take frame_bytes (drop (n * frame_bytes) sound)

-- The promise, for each frame n since the start that was captured so far: captured(n + delay) = emitted(n), and captured(n) is
-- silence if n is before the delay.
pub record HearsItself (frame_bytes delay silent : ℕ) (captured emitted : List ℕ) : Type 0 where
  pub later : (n : ℕ) → (n + delay + 1) * frame_bytes ≤ length captured →
      frame_at frame_bytes captured (n + delay) ≡ frame_at frame_bytes emitted n
  pub before : (n : ℕ) → n < delay → (n + 1) * frame_bytes ≤ length captured →
      frame_at frame_bytes captured n ≡ replicate frame_bytes silent
