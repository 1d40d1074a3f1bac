use Rattle.std.proofs.Common.{◌≡◌, drop}
use Rattle.af_cli.specs.Digits.{are_digits}
use Rattle.af_cli.proofs.digits.are_digits.Given as goal

abbrev pub invariant-loop-code : goal.invariant-loop-code
invariant-loop-code l = are_digits (drop l.code-index l.codes) ≡ are_digits l.codes
