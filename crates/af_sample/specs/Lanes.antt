-- Vectors of sixteen lanes.
use Rattle.std.specs.Prelude.{ℤ, List, FitsSigned}
use Rattle.std.specs.Int.{w16, w32}
use Rattle.std.specs.Simd.Lanes.{Each1}

-- each lane has 16 bits, as those of every `i16x16` do
abbrev pub AreSamples : List ℤ → Type 0
AreSamples lanes = Each1 (FitsSigned w16) lanes

-- each lane has 32 bits, as those of every `i32x16` do
abbrev pub AreWide : List ℤ → Type 0
AreWide lanes = Each1 (FitsSigned w32) lanes
