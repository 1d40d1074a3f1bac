-- The blocks in which the tools play, record and pass.
use Rattle.std.specs.Prelude.{ℕ, ◌/◌, min}

-- the bytes of the greatest block: 4,000 frames of one sample of the widest type
abbrev pub greatest_block : ℕ
greatest_block = 16000

-- the bytes of the greatest play: the greatest block, and one frame more, of two samples of the widest type
abbrev pub greatest_play : ℕ
greatest_play = 16008

-- how many frames a block has, by the bytes of a frame: as many as are asked for, or else as many as the greatest block has
abbrev pub block_frames : (asked frame : ℕ) → ℕ
block_frames asked frame = min asked (greatest_block / frame)
