-- The arguments of a machine that hears its caller, as the manual lists them: those of an answering machine, and two more.
use Rattle.std.specs.Prelude.{List, [], ◌∷◌, codes}
use Rattle.af_cli.specs.declared.argument.Values.TheVariants.{Digits, Flag}
use Rattle.af_cli.specs.Arguments.{Listed, device, free, server, wait}
use Rattle.af_answer.specs.AnswerArguments.{calls, greeting, message, rings}

-- which digits end a command, and whether a caller who hangs up does
abbrev pub until : Listed
until = free (codes "until") Digits

abbrev pub hang_up : Listed
hang_up = free (codes "hang-up") Flag

unfoldable pub attendant_arguments : List Listed
attendant_arguments = server ∷ calls ∷ greeting ∷ message ∷ device ∷ rings ∷ until ∷ hang_up ∷ wait ∷ []
