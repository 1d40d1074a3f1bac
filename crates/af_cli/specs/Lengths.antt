-- How much a job records: frames, or seconds of a device.
use Rattle.std.specs.Prelude.{ℕ, ◌*◌, None, min}
use Rattle.std.specs.Option.{option_map_or}
use Rattle.af_cli.specs.declared.job.RecordJob.{RecordJob}

-- the most frames, and the most seconds
abbrev pub most_frames : ℕ
most_frames = 2147483647

abbrev pub most_seconds : ℕ
most_seconds = 2147483

-- the job on a device of this rate: its seconds are that many frames, or the most
abbrev pub at_rate : (rate : ℕ) → RecordJob → RecordJob
at_rate rate job = record (job) {
  frames = option_map_or (λ seconds. min (seconds * rate) most_frames) job.seconds job.frames;
  seconds = None;
}
