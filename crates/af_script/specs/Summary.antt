-- The summary of a log: five lines, each with a number.
use Rattle.std.specs.Prelude.{ℕ, ◌%◌, ◌^◌, Bool, true, false, List, [], ◌++◌, length, sum, codes, decimal, flat_map, count_by, Option, Some, None, if◌then◌else◌}
use Rattle.af_world.specs.declared.happening.Happening.{Happening}
use Rattle.af_world.specs.declared.happening.Happening.TheVariants as happening
use Rattle.af_world.specs.Log.{Log}
use Rattle.af_script.specs.declared.summary.Tally.{Tally}

-- the bytes that a device took, if the emit was done
abbrev pub emitted_by : Happening → List ℕ
emitted_by (happening.Emitted device sound done) = if done then sound else []
emitted_by _ = []

-- the bytes of a write; None is a failed one
abbrev pub written_bytes : Option (List ℕ) → List ℕ
written_bytes None = []
written_bytes (Some bytes) = bytes

-- the bytes that a link took
abbrev pub taken_by : Happening → List ℕ
taken_by (happening.Wrote link offered took) = written_bytes took
taken_by _ = []

-- whether a link was closed
abbrev pub is_close : Happening → Bool
is_close (happening.Closed link why) = true
is_close _ = false

-- all bytes that devices took, in order
abbrev pub bytes_emitted : Log → List ℕ
bytes_emitted log = flat_map emitted_by log

-- all bytes that links took, in order
abbrev pub bytes_taken : Log → List ℕ
bytes_taken log = flat_map taken_by log

-- a line of a name and a number
abbrev pub count_line : List ℕ → ℕ → List ℕ
count_line name number = name ++ decimal number ++ codes "\n"

-- the counts of a log: the bytes of all emits that were done, the bytes that links took, the closes, and the sum of the emitted
-- bytes modulo 2^64
abbrev pub tally_of : Log → Tally
tally_of log =
    record {
      emitted = length (bytes_emitted log);
      taken = length (bytes_taken log);
      closed = count_by is_close log;
      total = sum (bytes_emitted log) % 2 ^ 64;
    }

-- the lines of these counts, with the steps of the script before them
abbrev pub tally_lines : ℕ → Tally → List ℕ
tally_lines steps tally =
    count_line (codes "steps ") steps ++ count_line (codes "emitted ") tally.emitted ++ count_line (codes "taken ") tally.taken
    ++ count_line (codes "closed ") tally.closed ++ count_line (codes "sum ") tally.total

-- the summary of a log of n steps
abbrev pub summary : ℕ → Log → List ℕ
summary steps log = tally_lines steps (tally_of log)
