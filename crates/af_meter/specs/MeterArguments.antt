-- The arguments of the tool meter, as the manual lists them.
use Rattle.std.specs.Prelude.{List, [], ◌∷◌, codes}
use Rattle.af_cli.specs.declared.argument.Values.TheVariants.{Number}
use Rattle.af_cli.specs.Arguments.{Listed, device, free, order, preset, server, wait}

-- the length of an interval, in milliseconds
abbrev pub every : Listed
every = preset (codes "every") (Number 1 60000) (codes "100")

-- how many lines
abbrev pub count : Listed
count = free (codes "count") (Number 1 1000000)

-- what counts as quiet: a limit of the peaks, and for how many milliseconds
abbrev pub below : Listed
below = free (codes "below") (Number 1 32768)

abbrev pub lasting : Listed
lasting = free (codes "for") (Number 1 3600000)

unfoldable pub meter_arguments : List Listed
meter_arguments = server ∷ device ∷ every ∷ count ∷ below ∷ lasting ∷ order ∷ wait ∷ []
