-- The arguments of a machine that hears its caller: they are one simple command of clap, and they ask what its matches state.
use Rattle.std.specs.Prelude.{ℕ, ◌&&◌, ◌||◌, if◌then◌else◌, Bool, true, false, List, [], ◌∷◌, Option, Some, None}
use Rattle.std.specs.Prelude.{codes, eqb, is_some}
use Rattle.std.specs.List.{starts_with}
use Rattle.std.specs.Option.{option_map_or}
use Rattle.std.specs.Str.{bytes_eq}
use Rattle.clap.specs.Words.{App, Row, Text, matches_of, takes}
use Rattle.af_cli.specs.Arguments.{device, server}
use Rattle.af_cli.specs.Digits.{states_digits}
use Rattle.af_cli.specs.Numbers.{◌>>=◌}
use Rattle.af_cli.specs.Words.{address_at, command_app, device_at, is_set, longest_command, number_at, text_at, value_of, wait_at}
use Rattle.af_answer.specs.declared.job.AnswerJob.{AnswerJob}
use Rattle.af_answer.specs.AnswerArguments as answer
use Rattle.af_answer.specs.AnswerWords.{names_answer}
use Rattle.af_attendant.specs.AttendantArguments.{attendant_arguments}
use Rattle.af_attendant.specs.AttendantArguments as argument
use Rattle.af_attendant.specs.declared.job.AttendantJob.{AttendantJob}
use Rattle.af_attendant.specs.declared.options.AttendantCall.{AttendantCall}

-- the values of a job of an answering machine
pub record AnswerValues : Type 0 where
  pub device : ℕ
  pub rings : ℕ
  pub calls : ℕ
  pub greeting : Text
  pub message : Text

abbrev pub answer_values : AnswerJob → AnswerValues
answer_values job =
    record {
      device = job.device;
      rings = job.rings;
      calls = job.calls;
      greeting = job.greeting.bytes;
      message = job.message.bytes;
    }

-- what the arguments ask: a server, and the values of a job, whose commands find that server in their environment
pub record AttendantWords : Type 0 where
  pub server : Text
  pub until : Text
  pub hang_up : Bool
  pub answer : AnswerValues
  pub told : Text

abbrev pub words_of_job : Text → AttendantJob → AttendantWords
words_of_job server job =
    record {
      server = server;
      until = job.until.bytes;
      hang_up = job.hang_up;
      answer = answer_values job.answer;
      told = job.server.bytes;
    }

abbrev pub words_of_call : AttendantCall → AttendantWords
words_of_call call = words_of_job call.server.now call.job

-- the command of the machine
unfoldable pub attendant_app : App
attendant_app = command_app (codes "answer") attendant_arguments

-- the digits that end a command: none, if none are stated
abbrev pub until_or_none : Option Text → Option Text
until_or_none None = Some []
until_or_none (Some text) = if states_digits text then Some text else None

abbrev pub until_at : List Row → Option Text
until_at rows = until_or_none (value_of argument.until rows)

-- what an answering machine is asked to do
abbrev pub answer_at : List Row → Option AnswerValues
answer_at rows = do
  device ← device_at device rows
  rings ← number_at answer.rings rows
  calls ← number_at answer.calls rows
  greeting ← text_at answer.greeting longest_command rows
  message ← text_at answer.message longest_command rows
  Some (record { device = device; rings = rings; calls = calls; greeting = greeting; message = message })

-- what the matches of the command ask, if each value is in its range; how long the server is waited for is no matter of the job
abbrev pub words_in : List Row → Option AttendantWords
words_in rows = do
  server ← address_at server rows
  wait ← wait_at rows
  until ← until_at rows
  values ← answer_at rows
  Some (record { server = server; until = until; hang_up = is_set argument.hang_up rows; answer = values; told = server })

-- a word is `--hang-up`, `--until`, or begins with `--until=`
abbrev pub is_of_attendant : Text → Bool
is_of_attendant word =
    bytes_eq word (codes "--hang-up") || bytes_eq word (codes "--until") || starts_with eqb word (codes "--until=")

abbrev pub states_one : List Text → Bool
states_one [] = false
states_one (word ∷ words) = if is_of_attendant word then true else states_one words

-- the words name an answering machine, and one of them is such
abbrev pub names_attendant : List Text → Bool
names_attendant words = names_answer words && states_one words

-- what arguments ask that name the machine, if each value is in its range
unfoldable pub attendant_call : List Text → Option AttendantWords
attendant_call words = if names_attendant words then words_in (matches_of attendant_app words) else None

-- for how many seconds arguments that name the machine have a refused dial tried again
unfoldable pub attendant_wait : List Text → Option ℕ
attendant_wait words = if names_attendant words then wait_at (matches_of attendant_app words) else None

-- the arguments are valid: they name the machine, its command takes them, and each value is in its range
unfoldable pub is_attendant_spelled : List Text → Bool
is_attendant_spelled words = names_attendant words && takes attendant_app words && is_some (attendant_call words)
