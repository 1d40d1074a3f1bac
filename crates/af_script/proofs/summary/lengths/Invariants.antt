use Rattle.std.proofs.Common.{◌≡◌, ◌*◌, ◌^◌, ◌≤◌, length, take}
use Rattle.af_script.specs.Summary.{bytes_emitted, bytes_taken}
use Rattle.af_script.proofs.summary.lengths.Given as goal

abbrev pub invariant-loop-happening : goal.invariant-loop-happening
invariant-loop-happening l = record {
  emitted : l.emitted ≡ length (bytes_emitted (take l.happening-index l.log));
  emitted_bound : l.emitted ≤ l.happening-index * 2 ^ 64;
  taken : l.taken ≡ length (bytes_taken (take l.happening-index l.log));
  taken_bound : l.taken ≤ l.happening-index * 2 ^ 64;
}
