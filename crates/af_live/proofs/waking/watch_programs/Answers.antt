use Rattle.af_live.proofs.waking.watch_programs.Goals.{in-Some, in_default}
use Rattle.af_live.proofs.waking.watch_programs.Goals as goal

pub loop-device-preserved : goal.loop-device-preserved
loop-device-preserved g c = elim c.match-card.branch [ in-Some w ↦ cc | in_default w ↦ cc ]
