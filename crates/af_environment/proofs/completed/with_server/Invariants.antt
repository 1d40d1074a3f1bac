use Rattle.std.proofs.Common.{◌≡◌, ◌++◌, drop, map, string_bytes}
use Rattle.af_environment.specs.Completed.{with_server}
use Rattle.af_environment.proofs.completed.with_server.Given as goal

abbrev pub invariant-loop-word : goal.invariant-loop-word
invariant-loop-word l = l.run ++ map string_bytes (drop l.word-index l.rest) ≡ with_server l.server l.words
