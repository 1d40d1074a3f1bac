use Rattle.std.proofs.Common.{◌≡◌, ◌≤◌, ◌+◌, ◌*◌, ◌^◌, ◌++◌, List, ℤ, map}
use Rattle.std.specs.List.{range_with_len}
use Rattle.af_sample.specs.declared.sample_type.SampleType.TheVariants.{Lin16}
use Rattle.af_sample.specs.Samples.{decoded, piece}
use Rattle.af_meter.specs.Tallies.{IsTally}
use Rattle.af_meter.proofs.level.tally_block.Given as goal

abbrev pub invariant-loop-i : goal.invariant-loop-i
invariant-loop-i l = record {
  few : l.tally.squares ≤ l.fn.before.squares + l.i * 2 ^ 32;
  tally : (samples : List ℤ) → IsTally l.fn.before samples →
      IsTally l.tally (samples ++ map (λ k. decoded Lin16 (piece Lin16 l.block (l.channels * k + l.channel))) (range_with_len 0 l.i));
}
