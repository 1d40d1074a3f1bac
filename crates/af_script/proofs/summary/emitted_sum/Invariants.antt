use Rattle.std.proofs.Common.{◌≡◌, ◌%◌, ◌^◌, take}
use Rattle.std.specs.Prelude.{sum}
use Rattle.af_script.specs.Summary.{bytes_emitted}
use Rattle.af_script.proofs.summary.emitted_sum.Given as goal

abbrev pub invariant-loop-happening : goal.invariant-loop-happening
invariant-loop-happening l = l.total ≡ sum (bytes_emitted (take l.happening-index l.log)) % 2 ^ 64
