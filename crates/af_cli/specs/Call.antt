-- What a call asks.
use Rattle.std.specs.Prelude.{ℕ}
use Rattle.af_cli.specs.declared.call.Call.{Call}
use Rattle.af_cli.specs.declared.call.Call.TheVariants as call
use Rattle.af_cli.specs.Ranges.{IsAddress, IsPaced, IsRanged}
use Rattle.af_cli.specs.Words.{Job, one, relay}

-- the job of a call
abbrev pub job_of_call : Call → Job
job_of_call (call.One c) = one c.server.now c.order c.task
job_of_call (call.Relay c) = relay c.from.now c.to.now c.order c.job

-- for how many seconds a refused dial of it is tried again
abbrev pub wait_of_call : Call → ℕ
wait_of_call (call.One c) = c.wait
wait_of_call (call.Relay c) = c.wait

-- its values are in their ranges
abbrev pub IsCall : Call → Type 0
IsCall (call.One c) = IsRanged c.task × IsAddress c.server.now
IsCall (call.Relay c) = IsPaced c.job × IsAddress c.from.now × IsAddress c.to.now
