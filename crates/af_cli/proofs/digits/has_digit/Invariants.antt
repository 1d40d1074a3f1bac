use Rattle.std.proofs.Common.{◌≡◌, drop}
use Rattle.af_cli.specs.Digits.{has_digit}
use Rattle.af_cli.proofs.digits.has_digit.Given as goal

abbrev pub invariant-loop-digit : goal.invariant-loop-digit
invariant-loop-digit l = has_digit (drop l.digit-index l.digits) l.code ≡ has_digit l.digits l.code
