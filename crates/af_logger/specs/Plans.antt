-- What a job means on its device: pieces of so many frames, and how their samples are written.
use Rattle.std.specs.Prelude.{◌≡◌, ◌≢◌, ◌≤◌, ◌<◌, ℕ, ◌+◌, ◌-◌, ◌*◌, ◌/◌, ◌%◌, ◌^◌, min, length, IfSome, Option, None, Some, option_map, unwrap_or}
use Rattle.af_sample.specs.Channels.{IsChannelCount}
use Rattle.af_sample.specs.SampleTypes.{frame_bytes}
use Rattle.af_sample.specs.declared.sample_type.SampleType.{SampleType}
use Rattle.af_sample.specs.declared.sample_type.SampleType.TheVariants as ty
use Rattle.af_sound.specs.declared.head.Coding.{Coding}
use Rattle.af_sound.specs.declared.head.Coding.TheVariants as coded
use Rattle.af_sound.specs.declared.head.SoundForm.{SoundForm}
use Rattle.af_sound.specs.declared.head.SoundForm.TheVariants.{Au, Wave}
use Rattle.af_sound.specs.Served.{HasWholePairs}
use Rattle.af_request.specs.declared.reply.DeviceInfo.{DeviceInfo}
use Rattle.af_cli.specs.Sizes.{block_frames, greatest_block}
use Rattle.af_logger.specs.declared.job.LogJob.{LogJob}
use Rattle.af_logger.specs.declared.plan.Plan.{Plan}

-- after how many pieces a job is done: one without a count has more to record than there is time for
abbrev pub count_of : LogJob → ℕ
count_of job = unwrap_or job.count (2 ^ 64 - 1)

-- the type that is recorded: in a file, samples of 32 bits become samples of 16
abbrev pub recorded_type : Option SoundForm → SampleType → SampleType
recorded_type (Some form) ty.Mu255 = ty.Mu255
recorded_type (Some form) ty.Alaw = ty.Alaw
recorded_type (Some form) ty.Lin16 = ty.Lin16
recorded_type (Some form) ty.Lin32 = ty.Lin16
recorded_type None ty = ty

-- the coding of a sample type in a file: 16 bits have the most significant byte first in an .au file, and last in a WAVE file
abbrev pub coding_in : SoundForm → SampleType → Coding
coding_in form ty.Mu255 = coded.Mu255
coding_in form ty.Alaw = coded.Alaw
coding_in Au ty.Lin16 = coded.Lin16Big
coding_in Au ty.Lin32 = coded.Lin16Big
coding_in Wave ty.Lin16 = coded.Lin16Little
coding_in Wave ty.Lin32 = coded.Lin16Little

-- what a job records on a device
abbrev pub plan_of : LogJob → DeviceInfo → Plan
plan_of job device =
    let ty = recorded_type job.form (unwrap_or job.ty device.ty) in
    record {
      form = job.form;
      ty = ty;
      coding = option_map (λ form. coding_in form ty) job.form;
      channels = device.channels;
      rate = device.rate;
      horizon = device.horizon;
      block = block_frames job.block (frame_bytes ty device.channels);
      frames = job.every * device.rate;
    }

-- the bytes of a frame
abbrev pub frame_size : Plan → ℕ
frame_size plan = frame_bytes plan.ty plan.channels

-- a job by words that are valid
pub record IsLogJob (job : LogJob) : Type 0 where
  pub block : (1 ≤ job.block) × (job.block ≤ 4000)
  pub every : (1 ≤ job.every) × (job.every ≤ 86400)
  pub count : IfSome job.count (λ n. 0 < n)
  pub command : (1 ≤ length job.command.bytes) × (length job.command.bytes ≤ 200)

-- what can be recorded: pieces of at most a day at the greatest rate, in blocks that fit into the room for one
pub record IsPlan (plan : Plan) : Type 0 where
  pub channels : IsChannelCount plan.channels
  pub coding : IfSome plan.form (λ form. plan.coding ≡ Some (coding_in form plan.ty))
  pub none : plan.form ≡ None → plan.coding ≡ None
  pub written : IfSome plan.coding (λ c. (c ≢ coded.U8) × ((n : ℕ) → HasWholePairs c (n * frame_size plan)))
  pub rate : 1 ≤ plan.rate
  pub horizon : plan.horizon ≡ plan.rate * 4
  pub block : (1 ≤ plan.block) × (plan.block * frame_size plan ≤ greatest_block)
  pub frames : (1 ≤ plan.frames) × (plan.frames < 2 ^ 32)
