use Rattle.std.proofs.Common.{rules}
use Rattle.af_script.proofs.TapeRunLemmas.{plays_start, wake_fits, plays_more, fewer_left, plays_end}
use Rattle.af_script.proofs.run.run_tape.Goals as goal

pub loop-wake-init : goal.loop-wake-init
loop-wake-init c = plays_start _ _ _ _ c.in_ok-core.ensures c.requires.made

pub turn-requires : goal.turn-requires
turn-requires c = wake_fits _ _ _ c.loop-wake.tape c.step.new.self c.in-Some.wake c.loop-wake.invariant c.in-Some.ensures c.requires.steps

pub loop-wake-preserved : goal.loop-wake-preserved
loop-wake-preserved c = plays_more _ _ _ _ c.loop-wake.tape c.step.new.self c.turn.new.world c.in-Some.wake c.loop-wake.invariant c.in-Some.ensures c.turn.ensures.turns c.turn.ensures.leads (search rules)

pub loop-wake-smaller : goal.loop-wake-smaller
loop-wake-smaller c = fewer_left c.loop-wake.tape c.step.new.self c.turn.new.world c.in-Some.wake c.in-Some.ensures c.turn.ensures.leads

pub returns : goal.returns
returns c = plays_end _ _ _ c.loop-wake.tape c.step.new.self c.loop-wake.invariant (search rules)
