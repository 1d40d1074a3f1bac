use Rattle.std.proofs.Common.{◌≡◌, drop, map}
use Rattle.af_config.specs.Stating.{has_program}
use Rattle.af_config.specs.Kept.{owned_program}
use Rattle.af_config.proofs.line_program.has_program.Given as goal

abbrev pub invariant-loop-program : goal.invariant-loop-program
invariant-loop-program l = has_program (map owned_program l.programs) l.device ≡ has_program (map owned_program (drop l.program-index l.programs)) l.device
