use Rattle.std.proofs.Common.{◌≡◌, List, ℕ}
use Rattle.af_cli.specs.Events.{kinds_in, kinds_of}
use Rattle.af_cli.proofs.PieceLemmas.{Pieces}
use Rattle.af_cli.proofs.events.kinds_in.Given as goal

abbrev pub invariant-loop-name : goal.invariant-loop-name
invariant-loop-name l = (names : List (List ℕ)) × Pieces l.name-iterator names × (kinds_of l.kinds names ≡ kinds_in l.text)
