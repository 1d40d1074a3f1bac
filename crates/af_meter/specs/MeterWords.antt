-- The arguments of the tool meter: they are one simple command of clap, and they ask what its matches state.
use Rattle.std.specs.Prelude.{ℕ, ◌&&◌, if◌then◌else◌, Bool, false, List, [], ◌∷◌, Option, Some, None, codes, is_some}
use Rattle.std.specs.Str.{bytes_eq}
use Rattle.clap.specs.Words.{App, Row, Text, matches_of, takes}
use Rattle.af_wire.specs.declared.order.Order.{Order}
use Rattle.af_cli.specs.Arguments.{device, server}
use Rattle.af_cli.specs.Numbers.{◌>>=◌}
use Rattle.af_cli.specs.Words.{address_at, command_app, device_at, number_at, order_at, stated_number_at, wait_at}
use Rattle.af_meter.specs.MeterArguments.{meter_arguments}
use Rattle.af_meter.specs.MeterArguments as argument
use Rattle.af_meter.specs.declared.job.MeterJob.{MeterJob}
use Rattle.af_meter.specs.declared.job.Quiet.{Quiet}
use Rattle.af_meter.specs.declared.options.MeterCall.{MeterCall}

-- what the arguments ask: a server, the byte order of the connection, and a job
pub record MeterWords : Type 0 where
  pub server : Text
  pub order : Order
  pub job : MeterJob

abbrev pub words_of_call : MeterCall → MeterWords
words_of_call call = record { server = call.server.now; order = call.order; job = call.job }

-- the command of the tool
unfoldable pub meter_app : App
meter_app = command_app (codes "meter") meter_arguments

-- what counts as quiet, if that is stated: a limit and for how long, which need each other
abbrev pub quiet_in : (below lasting : Option ℕ) → Option (Option Quiet)
quiet_in None None = Some None
quiet_in (Some below) (Some lasting) = Some (Some (record { below = below; milliseconds = lasting }))
quiet_in (Some below) None = None
quiet_in None (Some lasting) = None

abbrev pub quiet_at : List Row → Option (Option Quiet)
quiet_at rows = do
  below ← stated_number_at argument.below rows
  lasting ← stated_number_at argument.lasting rows
  quiet_in below lasting

-- the milliseconds of an interval, and how many lines
abbrev pub every_at : List Row → Option ℕ
every_at rows = number_at argument.every rows

abbrev pub stated_count : List Row → Option (Option ℕ)
stated_count rows = stated_number_at argument.count rows

abbrev pub job_at : List Row → Option MeterJob
job_at rows = do
  device ← device_at device rows
  every ← every_at rows
  count ← stated_count rows
  (quiet : Option Quiet) ← quiet_at rows
  Some (record { device = device; every = every; count = count; quiet = quiet })

-- what the matches of the command ask, if each value is in its range; how long the server is waited for is no matter of the job
abbrev pub meter_in : List Row → Option MeterWords
meter_in rows = do
  server ← address_at server rows
  order ← order_at rows
  wait ← wait_at rows
  (job : MeterJob) ← job_at rows
  Some (record { server = server; order = order; job = job })

-- the first word names the tool
abbrev pub names_meter : List Text → Bool
names_meter [] = false
names_meter (name ∷ words) = bytes_eq name (codes "meter")

-- what arguments ask that name the tool, if each value is in its range
unfoldable pub meter_call : List Text → Option MeterWords
meter_call words = if names_meter words then meter_in (matches_of meter_app words) else None

-- for how many seconds arguments that name the tool have a refused dial tried again
unfoldable pub meter_wait : List Text → Option ℕ
meter_wait words = if names_meter words then wait_at (matches_of meter_app words) else None

-- the arguments are valid: they name the tool, its command takes them, and each value is in its range
unfoldable pub is_meter_spelled : List Text → Bool
is_meter_spelled words = names_meter words && takes meter_app words && is_some (meter_call words)
