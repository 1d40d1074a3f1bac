-- What a job means on its device: its intervals are so many frames.
use Rattle.std.specs.Prelude.{◌≤◌, ◌<◌, ℕ, ◌*◌, ◌/◌, max, IfSome, Option, None, Some}
use Rattle.af_sample.specs.Channels.{IsChannelCount}
use Rattle.af_request.specs.declared.reply.DeviceInfo.{DeviceInfo}
use Rattle.af_meter.specs.declared.job.MeterJob.{MeterJob}
use Rattle.af_meter.specs.declared.job.Quiet.{Quiet}
use Rattle.af_meter.specs.declared.plan.Plan.{Plan}
use Rattle.af_meter.specs.declared.plan.QuietSpan.{QuietSpan}

-- how many frames so many milliseconds are at a rate: whole frames, and at least one
abbrev pub frames_in : (rate milliseconds : ℕ) → ℕ
frames_in rate milliseconds = max (rate * milliseconds / 1000) 1

-- what counts as quiet at a rate, if only changes are written
abbrev pub span_at : (rate : ℕ) → Option Quiet → Option QuietSpan
span_at rate None = None
span_at rate (Some quiet) = Some (record { below = quiet.below; frames = frames_in rate quiet.milliseconds })

-- what a job measures on its device
abbrev pub plan_of : MeterJob → DeviceInfo → Plan
plan_of job device = record {
  channels = device.channels;
  frames = frames_in device.rate job.every;
  quiet = span_at device.rate job.quiet;
}

-- a job by words that are valid
pub record IsMeterJob (job : MeterJob) : Type 0 where
  pub every : job.every ≤ 60000
  pub quiet : IfSome job.quiet (λ q. q.milliseconds ≤ 3600000)

-- what can be measured: intervals of at most a minute, at the greatest rate
pub record IsPlan (plan : Plan) : Type 0 where
  pub channels : IsChannelCount plan.channels
  pub some : 1 ≤ plan.frames
  pub few : plan.frames ≤ 2880000
  pub quiet : IfSome plan.quiet (λ span. (1 ≤ span.frames) × (span.frames ≤ 172800000))
