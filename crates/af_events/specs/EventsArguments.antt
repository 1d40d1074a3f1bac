-- The arguments of the tool events, as the manual lists them.
use Rattle.std.specs.Prelude.{List, [], ◌∷◌, codes}
use Rattle.af_cli.specs.declared.argument.Values.TheVariants.{DeviceChoice, EventKinds, Number}
use Rattle.af_cli.specs.Arguments.{Listed, free, order, preset, server, wait}

-- the device whose line is meant, or all
abbrev pub devices : Listed
devices = preset (codes "device") DeviceChoice (codes "0")

-- which kinds of events, how many, and for how many milliseconds
abbrev pub kinds : Listed
kinds = preset (codes "kinds") EventKinds (codes "ring,digit,loop,hook")

abbrev pub count : Listed
count = free (codes "count") (Number 1 1000000)

abbrev pub lasting : Listed
lasting = free (codes "for") (Number 1 86400000)

unfoldable pub events_arguments : List Listed
events_arguments = server ∷ devices ∷ kinds ∷ count ∷ lasting ∷ order ∷ wait ∷ []
