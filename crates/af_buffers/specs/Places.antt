-- How far a time is from a buffer's time.
use Rattle.std.specs.Prelude.{◌≡◌, ℕ, ◌+◌, ◌^◌, ◌<◌, ◌≤◌}
use Rattle.af_time.specs.DeviceTime.{unwrap}
use Rattle.af_buffers.specs.Horizons.{whole_time}
use Rattle.af_buffers.specs.declared.place.Place.{Place}
use Rattle.af_buffers.specs.declared.place.Place.TheVariants.{Before, Ahead}

-- the place of the whole time that a word means at a buffer's time: so many frames before that, or ahead of it
abbrev pub IsPlace : ℕ → ℕ → Place → Type 0
IsPlace start now (Before late) = (unwrap (whole_time now) start + late ≡ whole_time now) × (0 < late) × (late ≤ 2 ^ 31)
IsPlace start now (Ahead far) = (unwrap (whole_time now) start ≡ whole_time now + far) × (far < 2 ^ 31)
