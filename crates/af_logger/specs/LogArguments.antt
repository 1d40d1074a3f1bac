-- The arguments of the tool log, as the manual lists them.
use Rattle.std.specs.Prelude.{List, [], ◌∷◌, codes}
use Rattle.af_cli.specs.declared.argument.Values.TheVariants.{Command, Form, Number}
use Rattle.af_cli.specs.Arguments.{Listed, block, device, free, needed, order, preset, server, time, type, wait}

-- the length of a piece, in seconds
abbrev pub every : Listed
every = needed (codes "every") (Number 1 86400)

-- what a shell runs for each piece
abbrev pub into : Listed
into = needed (codes "into") Command

-- how many pieces
abbrev pub count : Listed
count = free (codes "count") (Number 1 1000000)

-- what a command gets: samples, or a sound file
abbrev pub file : Listed
file = preset (codes "file") Form (codes "wave")

unfoldable pub log_arguments : List Listed
log_arguments = server ∷ every ∷ into ∷ count ∷ device ∷ file ∷ type ∷ block ∷ time ∷ order ∷ wait ∷ []
