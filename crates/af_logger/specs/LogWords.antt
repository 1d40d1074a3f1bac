-- The arguments of the tool log: they are one simple command of clap, and they ask what its matches state.
use Rattle.std.specs.Prelude.{◌≤◌, ℕ, ◌&&◌, if◌then◌else◌, Bool, false, length, List, [], ◌∷◌, Option, Some, None, codes, is_some}
use Rattle.std.specs.Str.{bytes_eq}
use Rattle.clap.specs.Words.{App, Row, Text, matches_of, takes}
use Rattle.af_sample.specs.declared.sample_type.SampleType.{SampleType}
use Rattle.af_sound.specs.declared.head.SoundForm.{SoundForm}
use Rattle.af_wire.specs.declared.order.Order.{Order}
use Rattle.af_cli.specs.Arguments.{block, device, server, time}
use Rattle.af_cli.specs.Numbers.{◌>>=◌, form_in}
use Rattle.af_cli.specs.Words.{address_at, command_app, device_at, longest_command, number_at, order_at, stated_number_at, text_at, type_at, value_of, wait_at}
use Rattle.af_logger.specs.LogArguments.{log_arguments}
use Rattle.af_logger.specs.LogArguments as argument
use Rattle.af_logger.specs.declared.job.LogJob.{LogJob}
use Rattle.af_logger.specs.declared.options.LogCall.{LogCall}

-- what the arguments ask: a server, the byte order of the connection, and the values of a job
pub record LogWords : Type 0 where
  pub server : Text
  pub order : Order
  pub device : ℕ
  pub ty : Option SampleType
  pub form : Option SoundForm
  pub block : ℕ
  pub every : ℕ
  pub count : Option ℕ
  pub time : Option ℕ
  pub command : Text

-- the arguments that ask for a job with its server
abbrev pub words_of_job : Text → Order → LogJob → LogWords
words_of_job server order job = record {
  server = server;
  order = order;
  device = job.device;
  ty = job.ty;
  form = job.form;
  block = job.block;
  every = job.every;
  count = job.count;
  time = job.time;
  command = job.command.bytes;
}

abbrev pub words_of_call : LogCall → LogWords
words_of_call call = words_of_job call.server.now call.order call.job

-- the command of the tool
unfoldable pub log_app : App
log_app = command_app (codes "log") log_arguments

-- what a piece is: a sound file, or samples
abbrev pub form_at : List Row → Option (Option SoundForm)
form_at rows = value_of argument.file rows >>= form_in

-- what the matches of the command ask, if each value is in its range; how long the server is waited for is no matter of the job
abbrev pub log_in : List Row → Option LogWords
log_in rows = do
  server ← address_at server rows
  order ← order_at rows
  wait ← wait_at rows
  device ← device_at device rows
  ty ← type_at rows
  form ← form_at rows
  block ← number_at block rows
  every ← number_at argument.every rows
  count ← stated_number_at argument.count rows
  time ← stated_number_at time rows
  command ← text_at argument.into longest_command rows
  Some (record {
    server = server;
    order = order;
    device = device;
    ty = ty;
    form = form;
    block = block;
    every = every;
    count = count;
    time = time;
    command = command;
  })

-- the first word names the tool
abbrev pub names_log : List Text → Bool
names_log [] = false
names_log (name ∷ words) = bytes_eq name (codes "log")

-- what arguments ask that name the tool, if each value is in its range
unfoldable pub log_call : List Text → Option LogWords
log_call words = if names_log words then log_in (matches_of log_app words) else None

-- for how many seconds arguments that name the tool have a refused dial tried again
unfoldable pub log_wait : List Text → Option ℕ
log_wait words = if names_log words then wait_at (matches_of log_app words) else None

-- the arguments are valid: they name the tool, its command takes them, and each value is in its range
unfoldable pub is_log_spelled : List Text → Bool
is_log_spelled words = names_log words && takes log_app words && is_some (log_call words)
