use Rattle.std.proofs.Common.{◌≡◌, ◌≤◌}
use Rattle.af_io.specs.declared.dial.Dialed.TheVariants as dialed
use Rattle.af_io.specs.Observed.{FaultCounted}
use Rattle.af_io.specs.Dial.{GivesNext, IsUnhurt}
use Rattle.af_patience.specs.Tried.{Tried}
use Rattle.af_patience.proofs.dial.PatientDialDial.dial.Given as goal

abbrev pub invariant-loop : goal.invariant-loop
invariant-loop g l = record {
  count : g.D.Dial.faults l.fn.self.dial ≤ g.D.Dial.faults l.self.dial;
  cause : l.answer ≡ dialed.Failed → FaultCounted (g.D.Dial.faults l.fn.self.dial) (g.D.Dial.faults l.self.dial);
  fresh : IsUnhurt g.D.Far.Link.faults l.answer;
  hurt : g.D.Dial.hurt l.self.dial ≡ g.D.Dial.hurt l.fn.self.dial;
  back : g.D.Dial.back l.self.dial ≡ g.D.Dial.back l.fn.self.dial;
  gives : GivesNext g.D.Far.Link.left g.D.Far.Link.sent l.answer (g.D.Dial.links l.fn.self.dial) (g.D.Dial.links l.self.dial);
  step : Tried g.D.Dial.dials l.address l.answer l.fn.self.dial l.self.dial;
}
