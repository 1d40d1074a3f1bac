use Rattle.std.proofs.Common.{◌≡◌, ◌*◌, length}
use Rattle.af_random.specs.Exercise.{copies_of}
use Rattle.af_random.proofs.generate.repeated.Given as goal

abbrev pub invariant-loop-round : goal.invariant-loop-round
invariant-loop-round l = record {
  same : l.bytes.items ≡ copies_of l.round l.pattern;
  size : length l.bytes.items ≡ l.round * 2;
}
