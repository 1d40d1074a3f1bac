use Rattle.std.proofs.Common.{◌≡◌, ◌∷◌, ◌++◌, drop, map}
use Rattle.std.specs.Process.{command_args, command_program}
use Rattle.arrayvec.specs.ArrayString.{ArrayString}
use Rattle.af_process.specs.Acts.{words_of}
use Rattle.af_process.proofs.command_line.command_of.Given as goal

abbrev pub invariant-loop-word : goal.invariant-loop-word
invariant-loop-word l = (command_program l.command ∷ (command_args l.command ++ map (λ (word : ArrayString). word.bytes) (drop l.word-index l.word-items))) ≡ words_of l.words
