use Rattle.std.proofs.Common.{ap, ◌∙◌}
use Rattle.af_live.specs.Readings.{late_millis}
use Rattle.af_live.specs.RealWorld.{RealState}
use Rattle.af_live.proofs.mio_world.MioWorld.late_millis.Goals as goal

pub returns : goal.returns
returns g c = c.late_millis.ensures ∙ ap (late_millis c.self.inside.step) c.last_reading.ensures
    ∙ ap (λ (s : RealState). late_millis s.clock.step s.round.last) c.self.view_is
