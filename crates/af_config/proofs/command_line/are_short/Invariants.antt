use Rattle.std.proofs.Common.{◌≡◌, drop, map}
use Rattle.arrayvec.specs.ArrayString.{ArrayString}
use Rattle.af_config.specs.Stating.{are_short}
use Rattle.af_config.proofs.command_line.are_short.Given as goal

abbrev pub invariant-loop-word : goal.invariant-loop-word
invariant-loop-word l = are_short l.longest (map (λ (word : ArrayString). word.bytes) l.words) ≡ are_short l.longest (map (λ (word : ArrayString). word.bytes) (drop l.word-index l.words))
