-- The ranges of the values of a job.
use Rattle.std.specs.Prelude.{◌≤◌, ⊤, length}
use Rattle.af_limits.specs.Limits.{longest_address}
use Rattle.clap.specs.Words.{Text}
use Rattle.af_cli.specs.declared.job.PassJob.{PassJob}
use Rattle.af_cli.specs.declared.job.Task.{Task}
use Rattle.af_cli.specs.declared.job.Task.TheVariants as task

-- the values of a task that bound a tool's buffer are in range
abbrev pub IsRanged : Task → Type 0
IsRanged (task.Play job) = (1 ≤ job.block) × (job.block ≤ 4000)
IsRanged (task.Record job) = (1 ≤ job.block) × (job.block ≤ 4000) × (1 ≤ job.stop_blocks) × (job.stop_blocks ≤ 1000000)
IsRanged (task.Set job) = ⊤
IsRanged task.List = ⊤

-- the values of a relay's job that bound its buffer and its arithmetic are in range
abbrev pub IsPaced : PassJob → Type 0
IsPaced job = (1 ≤ job.block) × (job.block ≤ 4000) × (job.delay ≤ 3000)

-- an address can be dialled
abbrev pub IsAddress : Text → Type 0
IsAddress server = (1 ≤ length server) × (length server ≤ longest_address)
