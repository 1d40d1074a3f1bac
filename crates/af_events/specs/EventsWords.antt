-- The arguments of the tool events: they are one simple command of clap, and they ask what its matches state.
use Rattle.std.specs.Prelude.{ℕ, ◌&&◌, if◌then◌else◌, Bool, false, List, [], ◌∷◌, Option, Some, None, codes, is_some}
use Rattle.std.specs.Str.{bytes_eq}
use Rattle.clap.specs.Words.{App, Row, Text, matches_of, takes}
use Rattle.af_wire.specs.declared.order.Order.{Order}
use Rattle.af_cli.specs.Arguments.{server}
use Rattle.af_cli.specs.declared.events.DeviceChoice.{DeviceChoice}
use Rattle.af_cli.specs.declared.events.EventKinds.{EventKinds}
use Rattle.af_cli.specs.Events.{choice_in, kinds_in}
use Rattle.af_cli.specs.Numbers.{◌>>=◌}
use Rattle.af_cli.specs.Words.{address_at, command_app, order_at, stated_number_at, value_of, wait_at}
use Rattle.af_events.specs.EventsArguments.{events_arguments}
use Rattle.af_events.specs.EventsArguments as argument
use Rattle.af_events.specs.declared.job.EventsJob.{EventsJob}
use Rattle.af_events.specs.declared.options.EventsCall.{EventsCall}

-- what the arguments ask: a server, the byte order of the connection, and a job
pub record EventsWords : Type 0 where
  pub server : Text
  pub order : Order
  pub job : EventsJob

abbrev pub words_of_call : EventsCall → EventsWords
words_of_call call = record { server = call.server.now; order = call.order; job = call.job }

-- the command of the tool
unfoldable pub events_app : App
events_app = command_app (codes "events") events_arguments

-- whose lines, which kinds, how many events, and for how long
abbrev pub choice_at : List Row → Option DeviceChoice
choice_at rows = value_of argument.devices rows >>= choice_in

abbrev pub kinds_at : List Row → Option EventKinds
kinds_at rows = value_of argument.kinds rows >>= kinds_in

abbrev pub stated_count : List Row → Option (Option ℕ)
stated_count rows = stated_number_at argument.count rows

abbrev pub stated_lasting : List Row → Option (Option ℕ)
stated_lasting rows = stated_number_at argument.lasting rows

abbrev pub job_at : List Row → Option EventsJob
job_at rows = do
  devices ← choice_at rows
  kinds ← kinds_at rows
  count ← stated_count rows
  lasting ← stated_lasting rows
  Some (record { devices = devices; kinds = kinds; count = count; lasting = lasting })

-- what the matches of the command ask, if each value is in its range; how long the server is waited for is no matter of the job
abbrev pub events_in : List Row → Option EventsWords
events_in rows = do
  server ← address_at server rows
  order ← order_at rows
  wait ← wait_at rows
  (job : EventsJob) ← job_at rows
  Some (record { server = server; order = order; job = job })

-- the first word names the tool
abbrev pub names_events : List Text → Bool
names_events [] = false
names_events (name ∷ words) = bytes_eq name (codes "events")

-- what arguments ask that name the tool, if each value is in its range
unfoldable pub events_call : List Text → Option EventsWords
events_call words = if names_events words then events_in (matches_of events_app words) else None

-- for how many seconds arguments that name the tool have a refused dial tried again
unfoldable pub events_wait : List Text → Option ℕ
events_wait words = if names_events words then wait_at (matches_of events_app words) else None

-- the arguments are valid: they name the tool, its command takes them, and each value is in its range
unfoldable pub is_events_spelled : List Text → Bool
is_events_spelled words = names_events words && takes events_app words && is_some (events_call words)
