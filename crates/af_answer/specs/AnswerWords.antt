-- The arguments of an answering machine: they are one simple command of clap, and they ask what its matches, which clap defines,
-- state.
use Rattle.std.specs.Prelude.{ℕ, ◌&&◌, if◌then◌else◌, Bool, false, List, [], ◌∷◌, Option, Some, None, codes, is_some}
use Rattle.std.specs.Str.{bytes_eq}
use Rattle.clap.specs.Words.{App, Row, Text, matches_of, takes}
use Rattle.af_cli.specs.Arguments.{device, server}
use Rattle.af_cli.specs.Numbers.{◌>>=◌}
use Rattle.af_cli.specs.Words.{address_at, command_app, device_at, longest_command, number_at, text_at, wait_at}
use Rattle.af_answer.specs.AnswerArguments.{answer_arguments}
use Rattle.af_answer.specs.AnswerArguments as argument
use Rattle.af_answer.specs.declared.job.AnswerJob.{AnswerJob}
use Rattle.af_answer.specs.declared.options.AnswerCall.{AnswerCall}

-- what the arguments ask: a server, and the values of a job
pub record AnswerWords : Type 0 where
  pub server : Text
  pub device : ℕ
  pub rings : ℕ
  pub calls : ℕ
  pub greeting : Text
  pub message : Text

-- the arguments that ask for a job with its server
abbrev pub words_of_job : Text → AnswerJob → AnswerWords
words_of_job server job =
    record {
      server = server;
      device = job.device;
      rings = job.rings;
      calls = job.calls;
      greeting = job.greeting.bytes;
      message = job.message.bytes;
    }

abbrev pub words_of_call : AnswerCall → AnswerWords
words_of_call call = words_of_job call.server.now call.job

-- the command of the answering machine
unfoldable pub answer_app : App
answer_app = command_app (codes "answer") answer_arguments

-- what the matches of the command ask, if each value is in its range; how long the server is waited for is no matter of the job
abbrev pub words_in : List Row → Option AnswerWords
words_in rows = do
  server ← address_at server rows
  wait ← wait_at rows
  device ← device_at device rows
  rings ← number_at argument.rings rows
  calls ← number_at argument.calls rows
  greeting ← text_at argument.greeting longest_command rows
  message ← text_at argument.message longest_command rows
  Some (record { server = server; device = device; rings = rings; calls = calls; greeting = greeting; message = message })

-- the first word names the machine
abbrev pub names_answer : List Text → Bool
names_answer [] = false
names_answer (name ∷ words) = bytes_eq name (codes "answer")

-- what arguments ask that name the machine, if each value is in its range
unfoldable pub answer_words : List Text → Option AnswerWords
answer_words words = if names_answer words then words_in (matches_of answer_app words) else None

-- for how many seconds arguments that name the machine have a refused dial tried again
unfoldable pub answer_wait : List Text → Option ℕ
answer_wait words = if names_answer words then wait_at (matches_of answer_app words) else None

-- the arguments are valid: they name the machine, its command takes them, and each value is in its range
unfoldable pub is_answer_spelled : List Text → Bool
is_answer_spelled words = names_answer words && takes answer_app words && is_some (answer_words words)
