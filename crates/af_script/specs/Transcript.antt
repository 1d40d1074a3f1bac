-- The transcript of a log: a line for each happening that is seen outside.
use Rattle.std.specs.Prelude.{ℕ, Bool, true, false, List, [], ◌∷◌, ◌++◌, codes, decimal, flat_map, Option, Some, None, if◌then◌else◌}
use Rattle.hex.specs.Hex.{encode_lower}
use Rattle.af_world.specs.declared.happening.Happening.{Happening}
use Rattle.af_world.specs.declared.happening.Happening.TheVariants.{Woke, Read, Wrote, Closed, Captured, Emitted, Hooked}
use Rattle.af_world.specs.declared.happening.ReadGot.{ReadGot}
use Rattle.af_world.specs.declared.happening.ReadGot.TheVariants as got
use Rattle.af_world.specs.declared.happening.Why.{Why}
use Rattle.af_world.specs.declared.happening.Why.TheVariants as why
use Rattle.af_world.specs.Log.{Log}

-- the word for why a link was closed
abbrev pub cause_word : Why → List ℕ
cause_word why.BadSetup = codes "setup"
cause_word why.Malformed = codes "malformed"
cause_word why.Ended = codes "ended"
cause_word why.LinkFault = codes "fault"
cause_word why.Overrun = codes "overrun"

-- a line begins with a name, and a number between two spaces
abbrev pub head_of : List ℕ → ℕ → List ℕ
head_of name number = name ++ codes " " ++ decimal number ++ codes " "

-- a line of a name, a number and a text
abbrev pub line_of : List ℕ → ℕ → List ℕ → List ℕ
line_of name number text = head_of name number ++ text ++ codes "\n"

-- the line of a read of a link; only a failed one has a line
abbrev pub read_line : ℕ → ReadGot → List ℕ
read_line link (got.Given bytes) = []
read_line link got.NotYet = []
read_line link got.Ended = []
read_line link got.Failed = line_of (codes "read") link (codes "failed")

-- the line of a link that took these bytes, if there are any
abbrev pub taken_line : ℕ → List ℕ → List ℕ
taken_line link [] = []
taken_line link (b ∷ bytes) = line_of (codes "link") link (encode_lower (b ∷ bytes))

-- the line of a write to a link; None is a failed one
abbrev pub wrote_line : ℕ → Option (List ℕ) → List ℕ
wrote_line link None = line_of (codes "write") link (codes "failed")
wrote_line link (Some bytes) = taken_line link bytes

-- the line of a capture; None is a failed one
abbrev pub captured_line : ℕ → Option (List ℕ) → List ℕ
captured_line device None = line_of (codes "capture") device (codes "failed")
captured_line device (Some bytes) = []

-- the word for a hook call, off or on, that was done or failed
abbrev pub hook_word : Bool → Bool → List ℕ
hook_word off false = codes "failed"
hook_word true true = codes "offhook"
hook_word false true = codes "onhook"

-- the line of a happening; a wake has none
abbrev pub line_for : Happening → List ℕ
line_for (Woke wake) = []
line_for (Read link got) = read_line link got
line_for (Wrote link offered took) = wrote_line link took
line_for (Closed link why) = line_of (codes "closed") link (cause_word why)
line_for (Captured device frames got) = captured_line device got
line_for (Emitted device sound done) =
    if done then line_of (codes "emit") device (encode_lower sound) else line_of (codes "emit") device (codes "failed")
line_for (Hooked device off done) = line_of (codes "hook") device (hook_word off done)

-- the transcript of a log: the lines of its happenings, in order
abbrev pub transcript : Log → List ℕ
transcript log = flat_map line_for log
