-- The words of a tool that states no server, with the server of the environment.
use Rattle.std.specs.Prelude.{◌≡◌, ℕ, Bool, true, false, List, [], ◌∷◌, ◌||◌, if◌then◌else◌, codes, bytes_eq, is_some, Option, Some}
use Rattle.af_cli.specs.Words.{is_spelled, job}
use Rattle.af_answer.specs.AnswerWords.{answer_words, is_answer_spelled, names_answer}
use Rattle.af_attendant.specs.AttendantWords.{attendant_call, is_attendant_spelled, names_attendant}
use Rattle.af_events.specs.EventsWords.{events_call, is_events_spelled, names_events}
use Rattle.af_logger.specs.LogWords.{is_log_spelled, log_call, names_log}
use Rattle.af_meter.specs.MeterWords.{is_meter_spelled, meter_call, names_meter}
use Rattle.af_environment.specs.declared.named.Named.{Named}
use Rattle.af_environment.specs.declared.named.Named.TheVariants as tool

-- the tools that have one server
abbrev pub is_tool_of_one : List ℕ → Bool
is_tool_of_one name = bytes_eq name (codes "aplay") || bytes_eq name (codes "arecord") || bytes_eq name (codes "aset")
    || bytes_eq name (codes "list") || bytes_eq name (codes "answer") || bytes_eq name (codes "events")
    || bytes_eq name (codes "meter")
    || bytes_eq name (codes "log")

-- the first word names such a tool
abbrev pub has_one_server : List (List ℕ) → Bool
has_one_server [] = false
has_one_server (name ∷ words) = is_tool_of_one name

-- the words with a server after the name of the tool
abbrev pub with_server : List ℕ → List (List ℕ) → List (List ℕ)
with_server server [] = []
with_server server (name ∷ words) = name ∷ server ∷ words

-- what the words name
abbrev pub named_tool : List (List ℕ) → Named
named_tool words =
    if names_attendant words then tool.Attendant
    else if names_answer words then tool.Answer
    else if names_events words then tool.Events
    else if names_meter words then tool.Meter
    else if names_log words then tool.Log
    else tool.Other

-- the words ask for something: for calls to be answered, for events to be told, for a device to be measured or
-- recorded in pieces, or for the job of another tool
abbrev pub asks_as : Named → List (List ℕ) → Bool
asks_as tool.Attendant words = is_some (attendant_call words)
asks_as tool.Answer words = is_some (answer_words words)
asks_as tool.Events words = is_some (events_call words)
asks_as tool.Meter words = is_some (meter_call words)
asks_as tool.Log words = is_some (log_call words)
asks_as tool.Other words = is_some (job words)

unfoldable pub asks : List (List ℕ) → Bool
asks words = asks_as (named_tool words) words

-- the words are valid, so that they are never Usage
abbrev pub is_valid_as : Named → List (List ℕ) → Bool
is_valid_as tool.Attendant words = is_attendant_spelled words
is_valid_as tool.Answer words = is_answer_spelled words
is_valid_as tool.Events words = is_events_spelled words
is_valid_as tool.Meter words = is_meter_spelled words
is_valid_as tool.Log words = is_log_spelled words
is_valid_as tool.Other words = is_spelled words

unfoldable pub is_valid : List (List ℕ) → Bool
is_valid words = is_valid_as (named_tool words) words

-- these words were run: the stated ones with the text of the variable put in, and they ask for something
pub record IsPutIn (server : Option (List ℕ)) (words run : List (List ℕ)) : Type 0 where
  pub text : List ℕ
  pub set : server ≡ Some text
  pub of_one : has_one_server words ≡ true
  pub put : run ≡ with_server text words
  pub asked : asks run ≡ true
