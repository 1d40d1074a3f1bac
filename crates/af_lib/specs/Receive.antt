-- What the steps of an exchange do to the bytes of a link, if they are observable.
use Rattle.std.specs.Prelude.{◌≡◌, ◌<◌, ◌≤◌, ⊤, ℕ, List, [], length, take, Result, Ok, Err, Option}
use Rattle.af_limits.specs.Limits.{longest_frame, longest_message}
use Rattle.af_io.specs.Observed.{Consumed}
use Rattle.af_lib.specs.declared.fault.ConnFault.{ConnFault}
use Rattle.af_lib.specs.declared.fault.ConnFault.TheVariants as fault
use Rattle.af_lib.specs.declared.receive.Taken.{Taken}
use Rattle.af_lib.specs.declared.receive.Taken.TheVariants as taken
use Rattle.af_lib.specs.Incoming.{Incoming, event, other}
use Rattle.af_lib.specs.Answers.{and_then}
use Rattle.af_lib.specs.Observed.{BothTold}

-- a slice was filled; or fewer bytes than it has room for were left, and were all given
abbrev pub Fills : Result (Unit {0}) ConnFault → List ℕ → Option (List ℕ) → Option (List ℕ) → Type 0
Fills (Ok done) into before after = Consumed before into after
Fills (Err fault.LinkEnded) into before after = BothTold before after (λ b a. (length b < length into) × (a ≡ []))
Fills (Err fault.LinkFault) into before after = ⊤
Fills (Err fault) into before after = ⊥

-- the message that was taken and is in a buffer
abbrev pub taken_of : Taken → List ℕ → Incoming
taken_of (taken.Event e) into = event e
taken_of (taken.Other n) into = other (take n into)

-- the same, if there is one
abbrev pub taken_as : Result Taken ConnFault → List ℕ → Result Incoming ConnFault
taken_as result into = and_then (λ taken. Ok (taken_of taken into)) result

-- a message that is no event has a header, and is n bytes long
abbrev pub IsTakenWithin : Result Taken ConnFault → ℕ → Type 0
IsTakenWithin (Ok (taken.Other n)) most = (8 ≤ n) × (n ≤ most)
IsTakenWithin _ most = ⊤

-- the message that was found and is in a buffer
abbrev pub found_as : Result ℕ ConnFault → List ℕ → Result (List ℕ) ConnFault
found_as result into = and_then (λ n. Ok (take n into)) result

-- room for the longest message of a server, and for the longest frame of a request
abbrev pub HasBuffers : (input output : List ℕ) → Type 0
HasBuffers input output = (longest_message ≤ length input) × (longest_frame ≤ length output)
