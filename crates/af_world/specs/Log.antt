-- What happened.
use Rattle.std.specs.Prelude.{List}
use Rattle.af_world.specs.declared.happening.Happening.{Happening}

-- all that happened to the server, in order
abbrev pub Log : Type 0
Log = List Happening
