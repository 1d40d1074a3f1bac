use Rattle.std.proofs.Common.{◌≡◌, take}
use Rattle.std.specs.Prelude.{sum_by}
use Rattle.af_outside.specs.Tape.{bytes_sent_by}
use Rattle.af_outside.proofs.links.all_bytes_sent.Given as goal

abbrev pub invariant-loop-step : goal.invariant-loop-step
invariant-loop-step l = l.count ≡ sum_by (bytes_sent_by l.link) (take l.step-index l.steps)
