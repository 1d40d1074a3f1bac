use Rattle.std.proofs.Common.{◌≡◌, map, unsigned_abs}
use Rattle.std.specs.List.{range_with_len}
use Rattle.af_sample.specs.Samples.{decoded, piece}
use Rattle.af_tools.specs.Record.{greatest_of}
use Rattle.af_tools.proofs.record.peak.Given as goal

abbrev pub invariant-loop-i : goal.invariant-loop-i
invariant-loop-i l = l.peak ≡ greatest_of (map unsigned_abs (map (λ k. decoded l.ty (piece l.ty l.block k)) (range_with_len 0 l.i)))
