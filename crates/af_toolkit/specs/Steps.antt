-- How far a tool came through a part that also writes, and what it did since.
use Rattle.std.specs.Prelude.{◌≡◌, List, ◌++◌, ℕ, Ok}
use Rattle.std.specs.declared.option.Option.{Option}
use Rattle.af_io.specs.Observed.{Appended}
use Rattle.af_toolkit.specs.Trace.{ClientState}
use Rattle.af_toolkit.specs.ToolParts.{ToolPart}

-- each request of a part got its reply, and all that it writes was written; and then these bytes were sent, and those written
pub record WroteThrough {X : Type 0} (part : ToolPart X) (w : ClientState) (asked written : List ℕ)
    (sent sent' held held' : Option (List ℕ)) : Type 0 where
  pub value : X × ClientState
  pub replied : (part w).end ≡ Ok value
  pub link : Appended sent ((part w).did.sends ++ asked) sent'
  pub sink : Appended held ((part w).did.output ++ written) held'
