-- Pieces of a recording: their frames, what of them was handed to their commands, and the line of each.
use Rattle.std.specs.Prelude.{◌≡◌, ◌≤◌, ◌<◌, ⊤, ℕ, zero, suc, ◌+◌, ◌-◌, ◌*◌, ◌/◌, ◌%◌, ◌^◌, min, List, [], ◌∷◌, ◌++◌, length, map, codes, decimal}
use Rattle.std.specs.List.{flat_map}
use Rattle.af_logger.specs.declared.plan.Plan.{Plan}
use Rattle.af_logger.specs.declared.job.LogJob.{LogJob}
use Rattle.af_logger.specs.Commands.{EndedCommand, Given}
use Rattle.af_logger.specs.Plans.{frame_size}
use Rattle.af_logger.specs.Sound.{head_of, pad_of}

-- a block that was recorded: how many frames it has; how many of them, the first ones, had left the server and are silence; and
-- its samples, as they are written
pub record Block : Type 0 where
  pub frames : ℕ
  pub lost : ℕ
  pub samples : List ℕ

-- a piece: its blocks, what its command took, and the status of that
pub record Piece : Type 0 where
  pub blocks : List Block
  pub taken : List ℕ
  pub status : ℕ

-- how many frames these blocks have, and their sound
abbrev pub frames_of : List Block → ℕ
frames_of [] = 0
frames_of (b ∷ blocks) = b.frames + frames_of blocks

abbrev pub sound_of : List Block → List ℕ
sound_of blocks = flat_map (λ (b : Block). b.samples) blocks

-- how many whole frames are in the first bytes of a piece
abbrev pub frames_in : Plan → (bytes : ℕ) → ℕ
frames_in plan bytes = (bytes - length (head_of plan)) / frame_size plan

-- how many frames of a piece its command was handed, if it took so many bytes, and how many it was not
abbrev pub handed_frames : Plan → List Block → (bytes : ℕ) → ℕ
handed_frames plan blocks bytes = min (frames_in plan bytes) (frames_of blocks)

abbrev pub dropped_frames : Plan → List Block → (bytes : ℕ) → ℕ
dropped_frames plan blocks bytes = frames_of blocks - handed_frames plan blocks bytes

-- how many of the first n frames had left the server
abbrev pub lost_among : (n : ℕ) → List Block → ℕ
lost_among n [] = 0
lost_among n (b ∷ blocks) = min b.lost (min n b.frames) + lost_among (n - b.frames) blocks

-- the line of a piece, by its number, the time of its first frame, the frames that were handed, lost and dropped, and a status
unfoldable pub line_text : (number at handed lost dropped status : ℕ) → List ℕ
line_text number at handed lost dropped status =
    codes "piece " ++ decimal number ++ codes " at " ++ decimal at ++ codes " frames " ++ decimal handed ++ codes " lost "
    ++ decimal lost ++ codes " dropped " ++ decimal dropped ++ codes " status " ++ decimal status ++ codes "\n"

-- the line of a piece by its number and the time of its first frame
abbrev pub line_of : Plan → (number at : ℕ) → Piece → List ℕ
line_of plan number at p =
    let handed = handed_frames plan p.blocks (length p.taken) in
    line_text number at handed (lost_among handed p.blocks) (dropped_frames plan p.blocks (length p.taken)) p.status

-- The sound file of a piece: the header of the whole piece, and the sound that came; after the whole sound, what makes it even.
abbrev pub file_of : Plan → List Block → List ℕ
file_of plan blocks = head_of plan ++ sound_of blocks ++ pad_of plan

-- what a command took is the first of the sound file of its piece
abbrev pub IsFrontOfFile : Plan → Piece → Type 0
IsFrontOfFile plan p = (rest : List ℕ) × (file_of plan p.blocks ≡ p.taken ++ rest)

-- the same of each piece
abbrev pub AreFronts : Plan → List Piece → Type 0
AreFronts plan [] = ⊤
AreFronts plan (p ∷ more) = IsFrontOfFile plan p × AreFronts plan more

-- the first frame of the piece after one
abbrev pub next_at : Plan → (at : ℕ) → ℕ
next_at plan at = (at + plan.frames) % 2 ^ 32

-- what a command is started with
abbrev pub given_of : LogJob → Plan → (number at : ℕ) → Given
given_of job plan number at = record { text = job.command.bytes; time = at; frames = plan.frames; piece = number }

-- the commands of pieces from a number and a time on
abbrev pub commands_of : LogJob → Plan → (number at : ℕ) → List Piece → List EndedCommand
commands_of job plan number at [] = []
commands_of job plan number at (p ∷ more) =
    record { given = given_of job plan number at; taken = p.taken; status = p.status }
    ∷ commands_of job plan (number + 1) (next_at plan at) more

-- their lines
abbrev pub lines_of : Plan → (number at : ℕ) → List Piece → List ℕ
lines_of plan number at [] = []
lines_of plan number at (p ∷ more) = line_of plan number at p ++ lines_of plan (number + 1) (next_at plan at) more

-- all pieces are whole but the last, which has at least a frame
abbrev pub AreWhole : Plan → List Piece → Type 0
AreWhole plan [] = ⊤
AreWhole plan (p ∷ []) = (1 ≤ frames_of p.blocks) × (frames_of p.blocks ≤ plan.frames)
AreWhole plan (p ∷ q ∷ more) = (frames_of p.blocks ≡ plan.frames) × AreWhole plan (q ∷ more)

-- all blocks of pieces, in order
abbrev pub blocks_of : List Piece → List Block
blocks_of pieces = flat_map (λ (p : Piece). p.blocks) pieces

-- The times of frames

-- n frames from a time on, each one after the one before it, across the wrap
unfoldable pub times_from : (at n : ℕ) → List ℕ
times_from at zero = []
times_from at (suc n) = at ∷ times_from ((at + 1) % 2 ^ 32) n

-- those of blocks, one after another
abbrev pub times_of_blocks : (at : ℕ) → List Block → List ℕ
times_of_blocks at [] = []
times_of_blocks at (b ∷ blocks) = times_from at b.frames ++ times_of_blocks ((at + b.frames) % 2 ^ 32) blocks

-- those of pieces: each piece has its own first time
abbrev pub times_of_pieces : Plan → (at : ℕ) → List Piece → List ℕ
times_of_pieces plan at [] = []
times_of_pieces plan at (p ∷ more) = times_of_blocks at p.blocks ++ times_of_pieces plan (next_at plan at) more
