-- The delay line between what a device emits and what it captures.
use Rattle.std.specs.Prelude.{◌≡◌, ℕ, ◌+◌, ◌/◌, nat_le, if◌then◌else◌, List, ◌++◌, length, take, drop, replicate}
use Rattle.af_io.specs.declared.flow.Put.{Put}
use Rattle.af_io.specs.declared.flow.Put.TheVariants as put

-- the frames from an emit to the capture of the same sound, at a rate: those of a fortieth of a second
abbrev pub delay_frames : ℕ → ℕ
delay_frames rate = rate / 40

-- the bytes that were emitted and are not captured yet, the oldest first, and how many there may be
pub record DelayState : Type 0 where
  pub held : List ℕ
  pub delay : ℕ

-- it was just made, and holds silence
abbrev pub silent_line : ℕ → ℕ → DelayState
silent_line delay silent = record { held = replicate delay silent; delay = delay }

-- A capture gives the oldest bytes, which are not held any more. It fails exactly if fewer are held, and changes nothing then.
pub record Captures (answer : Put) (before : DelayState) (into : List ℕ) (after : DelayState) : Type 0 where
  pub answers : answer ≡ (if nat_le (length into) (length before.held) then put.Done else put.Failed)
  pub sound : answer ≡ put.Done → into ≡ take (length into) before.held
  pub held : answer ≡ put.Done → after.held ≡ drop (length into) before.held
  pub failed : answer ≡ put.Failed → after.held ≡ before.held
  pub delay : after.delay ≡ before.delay

-- An emit adds its bytes after all others. It fails exactly if there is no room for them, and changes nothing then.
pub record Emits (answer : Put) (before : DelayState) (sound : List ℕ) (after : DelayState) : Type 0 where
  pub answers : answer ≡ (if nat_le (length before.held + length sound) before.delay then put.Done else put.Failed)
  pub held : answer ≡ put.Done → after.held ≡ before.held ++ sound
  pub failed : answer ≡ put.Failed → after.held ≡ before.held
  pub delay : after.delay ≡ before.delay
