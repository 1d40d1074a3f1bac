-- The tool log by its words: its server is dialled, the link set up in a byte order, and the device is recorded in pieces.
use Rattle.std.specs.Prelude.{◌≡◌, ◌⊎◌, true, ℕ, List, ◌∷◌, Ok, Err, Option, Some}
use Rattle.af_io.specs.Observed.{Appended}
use Rattle.af_io.specs.Flow.{AppendedPrefix}
use Rattle.af_io.specs.Dial.{AppendedBack, ToldLink}
use Rattle.af_wire.specs.declared.order.Order.{Order}
use Rattle.af_wire.specs.Front.{setup_bytes}
use Rattle.af_request.specs.declared.reply.DeviceInfo.{DeviceInfo}
use Rattle.af_lib.specs.declared.fault.ConnFault.{ConnFault}
use Rattle.af_toolkit.specs.declared.end.ToolEnd.{ToolEnd}
use Rattle.af_toolkit.specs.declared.end.ToolEnd.TheVariants as tool
use Rattle.af_toolkit.specs.Trace.{client_after_setup, fault_end, setup_answer}
use Rattle.af_toolkit.specs.Ends.{is_outer}
use Rattle.af_logger.specs.declared.job.LogJob.{LogJob}
use Rattle.af_logger.specs.Commands.{Desk}
use Rattle.af_logger.specs.Logged.{RanBy, device_of}
use Rattle.af_logger.specs.LogWords.{LogWords, words_of_job}

-- what is observable of a tool beside its link: its commands, and what its sink holds
pub record Seen : Type 0 where
  pub desk : Option Desk
  pub held : Option (List ℕ)

abbrev pub seen_as : (desk : Option Desk) → (held : Option (List ℕ)) → Seen
seen_as desk held = record { desk = desk; held = held }

-- A setup was sent and was answered with a fault, as which the tool ended; or something from outside ended it before that.
abbrev pub IsNotSetUp : Order → (input : List ℕ) → ToolEnd → (sent sent' : Option (List ℕ)) → Type 0
IsNotSetUp order input how sent sent' =
    ((is_outer how ≡ true) × AppendedPrefix sent (setup_bytes order) sent')
    ⊎ ((f : ConnFault) × (how ≡ fault_end f) × (setup_answer order input ≡ Err f) × Appended sent (setup_bytes order) sent')

-- What came of a link that gives these bytes, in a byte order: it was not set up, and nothing was started or written; or it was,
-- and all that is said of the tool on a connection holds of what was done after its setup.
abbrev pub RanOver : Order → LogJob → (input : List ℕ) → ToolEnd → (sent sent' : Option (List ℕ)) → (seen seen' : Seen) → Type 0
RanOver order job input how sent sent' seen seen' =
    (IsNotSetUp order input how sent sent' × (seen' ≡ seen))
    ⊎ ((devices : List DeviceInfo) × (begun : Option (List ℕ)) × (setup_answer order input ≡ Ok devices)
    × Appended sent (setup_bytes order) begun
    × RanBy (device_of job devices) job (client_after_setup order input) how begun sent'
    seen.desk seen'.desk seen.held seen'.held)

-- the server could not be dialled, or there was no memory for that
abbrev pub IsUndialled : ToolEnd → Type 0
IsUndialled how = (how ≡ tool.DialFault) ⊎ (how ≡ tool.OutOfMemory)

-- The first link was dialled, the tool ran over it with a job that these words ask for, and it was given back with all that it
-- had been sent.
pub record RanAsked (asked : LogWords) (how : ToolEnd) (links : List ToldLink) (links' : Option (List ToldLink))
    (back back' : Option (List (List ℕ))) (seen seen' : Seen) : Type 0 where
  pub job : LogJob
  pub is_asked : words_of_job asked.server asked.order job ≡ asked
  pub first : ToldLink
  pub rest : List ToldLink
  pub links_are : links ≡ first ∷ rest
  pub links_stay : links' ≡ Some rest
  pub sent : Option (List ℕ)
  pub given_back : AppendedBack back sent back'
  pub ran : RanOver asked.order job first.gives how (Some first.sent) sent seen seen'

-- This came of it, if a dial is observable: nothing, if the server could not be dialled.
abbrev pub RunsAsked : {D : Type 0} → (links : D → Option (List ToldLink)) → (back : D → Option (List (List ℕ))) →
    LogWords → ToolEnd → (dial dial' : D) → (seen seen' : Seen) → Type 0
RunsAsked links back asked how dial dial' seen seen' = (told : List ToldLink) → links dial ≡ Some told →
    (IsUndialled how × (links dial' ≡ Some told) × (back dial' ≡ back dial) × (seen' ≡ seen))
    ⊎ RanAsked asked how told (links dial') (back dial) (back dial') seen seen'

-- memory ran out before the server was dialled
abbrev pub IsIdle : {A : Type 0} → ToolEnd → (before after : A) → Type 0
IsIdle how before after = (how ≡ tool.OutOfMemory) × (after ≡ before)
