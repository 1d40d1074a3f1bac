-- The entries of listens, attaches and waits.
use Rattle.std.specs.Prelude.{ℕ, Bool, List, [], ◌∷◌}
use Rattle.af_world.specs.declared.live.Ready.{Ready}
use Rattle.af_world.specs.declared.live.Ready.TheVariants as ready
use Rattle.af_world.specs.declared.live.Waited.{Waited}
use Rattle.af_world.specs.declared.live.Waited.TheVariants as answer
use Rattle.af_world.specs.declared.lifecycle.ToldKind.{ToldKind}
use Rattle.af_world.specs.declared.lifecycle.Lifecycle.{Lifecycle}
use Rattle.af_world.specs.declared.lifecycle.Lifecycle.TheVariants as lifecycle
use Rattle.af_world.specs.declared.script.DeviceSpec.{DeviceSpec}

-- the entry of a listen, if it was done
abbrev pub listened : Ready → List ℕ → List Lifecycle
listened ready.Done address = lifecycle.Listened address ∷ []
listened ready.Failed address = []
listened ready.OutOfMemory address = []

-- the entry of an attach
abbrev pub attached : Ready → ℕ → DeviceSpec → ToldKind → List Lifecycle
attached ready.Done device spec kind = lifecycle.Attached device spec kind ∷ []
attached ready.Failed device spec kind = []
attached ready.OutOfMemory device spec kind = []

-- the entry of a program that is the exchange of a telephone line
abbrev pub line_attached : Ready → ℕ → ℕ → List (List ℕ) → List Lifecycle
line_attached ready.Done device restarts words = lifecycle.LineAttached device restarts words ∷ []
line_attached ready.Failed device restarts words = []
line_attached ready.OutOfMemory device restarts words = []

-- the entry of a wait
abbrev pub waited : Bool → Waited → List Lifecycle
waited more (answer.Woke wake) = lifecycle.Waited more wake ∷ []
waited more answer.Failed = []
