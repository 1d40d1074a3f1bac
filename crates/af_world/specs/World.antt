-- The answers of a world in its log.
use Rattle.std.specs.Prelude.{ℕ, ◌≤◌, Bool, true, false, List, take}
use Rattle.std.specs.declared.option.Option.{Option}
use Rattle.std.specs.declared.option.Option.TheVariants.{None, Some}
use Rattle.af_world.specs.declared.happening.ReadGot.{ReadGot}
use Rattle.af_world.specs.declared.happening.ReadGot.TheVariants as happened
use Rattle.af_io.specs.declared.flow.Put.{Put}
use Rattle.af_io.specs.declared.flow.Put.TheVariants as put
use Rattle.af_world.specs.declared.world.LinkGot.{LinkGot}
use Rattle.af_world.specs.declared.world.LinkGot.TheVariants as got
use Rattle.af_world.specs.declared.world.LinkTook.{LinkTook}
use Rattle.af_world.specs.declared.world.LinkTook.TheVariants as took

-- the bytes that a read put into the slice
abbrev pub got_of : LinkGot → List ℕ → ReadGot
got_of (got.Bytes n) into = happened.Given (take n into)
got_of got.NotYet into = happened.NotYet
got_of got.Ended into = happened.Ended
got_of got.Failed into = happened.Failed

-- the bytes of the piece that a write took
abbrev pub took_of : LinkTook → List ℕ → Option (List ℕ)
took_of (took.Took n) piece = Some (take n piece)
took_of took.Failed piece = None

-- the bytes that a capture put into the slice
abbrev pub captured_of : Put → List ℕ → Option (List ℕ)
captured_of put.Done into = Some into
captured_of put.Failed into = None

abbrev pub is_done : Put → Bool
is_done put.Done = true
is_done put.Failed = false

-- a read gives at least one byte and at most as many as there is room for
abbrev pub LinkGotFits : LinkGot → ℕ → Type 0
LinkGotFits (got.Bytes n) room = (1 ≤ n) × (n ≤ room)
LinkGotFits got.NotYet room = Unit {0}
LinkGotFits got.Ended room = Unit {0}
LinkGotFits got.Failed room = Unit {0}

-- a write takes at most what was offered
abbrev pub TookFits : LinkTook → ℕ → Type 0
TookFits (took.Took n) offered = n ≤ offered
TookFits took.Failed offered = Unit {0}
