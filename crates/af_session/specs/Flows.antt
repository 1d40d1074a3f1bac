-- The bytes of a link, as two lists.
use Rattle.std.specs.Prelude.{ℕ, ◌≤◌, List, [], length}
use Rattle.af_limits.specs.Limits.{most_unread, output_room}

-- what came in and is not used yet, and what is to go out
pub record Flow : Type 0 where
  pub rest : List ℕ
  pub pending : List ℕ

abbrev pub flow : List ℕ → List ℕ → Flow
flow rest pending = record { rest = rest; pending = pending }

-- nothing came in, and nothing is to go out
abbrev pub no_flow : Flow
no_flow = flow [] []

-- at most 32768 bytes that are not used yet, and at most 65536 that are to go out
pub record IsFlow (f : Flow) : Type 0 where
  pub rest : length f.rest ≤ most_unread
  pub pending : length f.pending ≤ output_room
