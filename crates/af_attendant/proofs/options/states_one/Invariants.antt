use Rattle.std.proofs.Common.{◌≡◌, drop, map, string_bytes}
use Rattle.af_attendant.specs.AttendantWords.{states_one}
use Rattle.af_attendant.proofs.options.states_one.Given as goal

abbrev pub invariant-loop-word : goal.invariant-loop-word
invariant-loop-word l = states_one (map string_bytes (drop l.word-index l.words)) ≡ states_one (map string_bytes l.words)
