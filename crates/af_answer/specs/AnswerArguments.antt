-- The arguments of an answering machine, as the manual lists them.
use Rattle.std.specs.Prelude.{List, [], ◌∷◌, codes}
use Rattle.af_cli.specs.declared.argument.Values.TheVariants.{Command, Number}
use Rattle.af_cli.specs.Arguments.{Listed, device, needed, preset, server, wait}

-- how many calls are taken, and at which ring
abbrev pub calls : Listed
calls = needed (codes "calls") (Number 1 1000)

abbrev pub rings : Listed
rings = preset (codes "rings") (Number 1 20) (codes "2")

-- what plays the greeting, and what records the message
abbrev pub greeting : Listed
greeting = needed (codes "greeting") Command

abbrev pub message : Listed
message = needed (codes "message") Command

unfoldable pub answer_arguments : List Listed
answer_arguments = server ∷ calls ∷ greeting ∷ message ∷ device ∷ rings ∷ wait ∷ []
