-- Pieces whose commands have not ended: the blocks that came of them, and what their commands took.
use Rattle.std.specs.Prelude.{◌≡◌, ◌≤◌, ◌<◌, ℕ, ◌*◌, Bool, false, List, [], ◌∷◌, ◌++◌, length, option_map}
use Rattle.af_logger.specs.declared.block.Came.{Came}
use Rattle.af_logger.specs.declared.plan.Plan.{Plan}
use Rattle.af_logger.specs.declared.progress.Progress.{Progress}
use Rattle.af_logger.specs.Commands.{Command, Desk}
use Rattle.af_logger.specs.Pieces.{Block, file_of, frames_in, frames_of, handed_frames, lost_among, sound_of}
use Rattle.af_logger.specs.Plans.{frame_size}
use Rattle.af_logger.specs.Sound.{head_of}

pub record Draft : Type 0 where
  pub blocks : List Block
  pub taken : List ℕ

abbrev pub draft : List Block → List ℕ → Draft
draft blocks taken = record { blocks = blocks; taken = taken }

-- a block came, and its command took more
abbrev pub with_block : Draft → Block → (bytes : List ℕ) → Draft
with_block d b bytes = draft (d.blocks ++ b ∷ []) (d.taken ++ bytes)

-- a block that came, by what is known of it and its samples
abbrev pub came_as : Came → (samples : List ℕ) → Block
came_as came samples = record { frames = came.frames; lost = came.lost; samples = samples }

-- the command that was started last took bytes, and its input may be closed
abbrev pub took_by : (bytes : List ℕ) → (closed : Bool) → Desk → Desk
took_by bytes closed desk = record desk {
  last = option_map (λ (c : Command). record { given = c.given; taken = c.taken ++ bytes; closed = closed }) desk.last;
}

-- A piece that may go on is as its progress says. Its command took the first of its header and its sound, and all of that if it
-- was not cut.
pub record IsDraft (plan : Plan) (piece : Progress) (d : Draft) : Type 0 where
  pub recorded : piece.recorded ≡ frames_of d.blocks
  pub handed : piece.handed ≡ frames_in plan (length d.taken)
  pub few : piece.handed ≤ frames_of d.blocks
  pub lost : piece.lost ≡ lost_among piece.handed d.blocks
  pub sized : length (sound_of d.blocks) ≡ frames_of d.blocks * frame_size plan
  pub rest : List ℕ
  pub front : head_of plan ++ sound_of d.blocks ≡ d.taken ++ rest
  pub uncut : piece.cut ≡ false → rest ≡ []

-- What a line tells of a piece is so, and its command took the first of its sound file.
pub record IsTold (plan : Plan) (piece : Progress) (d : Draft) : Type 0 where
  pub recorded : piece.recorded ≡ frames_of d.blocks
  pub handed : piece.handed ≡ handed_frames plan d.blocks (length d.taken)
  pub lost : piece.lost ≡ lost_among piece.handed d.blocks
  pub rest : List ℕ
  pub front : file_of plan d.blocks ≡ d.taken ++ rest

-- a piece is as its progress says, and may go on until it is whole
pub record StandsFor (plan : Plan) (piece : Progress) (d : Draft) : Type 0 where
  pub told : IsTold plan piece d
  pub open_so_far : piece.recorded < plan.frames → IsDraft plan piece d
