-- The tool events by its words: its server is dialled, the link set up in a byte order, and events are told.
use Rattle.std.specs.Prelude.{◌≡◌, ◌⊎◌, true, ℕ, List, ◌∷◌, Ok, Err, Option, Some}
use Rattle.af_io.specs.Observed.{Appended}
use Rattle.af_io.specs.Flow.{AppendedPrefix}
use Rattle.af_io.specs.Dial.{AppendedBack, ToldLink}
use Rattle.af_wire.specs.declared.order.Order.{Order}
use Rattle.af_wire.specs.Front.{setup_bytes}
use Rattle.af_request.specs.declared.reply.DeviceInfo.{DeviceInfo}
use Rattle.af_lib.specs.declared.fault.ConnFault.{ConnFault}
use Rattle.af_toolkit.specs.declared.end.ToolEnd.{ToolEnd}
use Rattle.af_toolkit.specs.declared.end.ToolEnd.TheVariants as tool
use Rattle.af_toolkit.specs.Trace.{client_after_setup, fault_end, setup_answer}
use Rattle.af_toolkit.specs.Ends.{is_outer}
use Rattle.af_events.specs.declared.end.EventsEnd.{EventsEnd}
use Rattle.af_events.specs.declared.end.EventsEnd.TheVariants as end
use Rattle.af_events.specs.declared.job.EventsJob.{EventsJob}
use Rattle.af_events.specs.EventsWords.{EventsWords}
use Rattle.af_events.specs.Trace.{missing}
use Rattle.af_events.specs.Told.{RanBy}

-- A setup was sent and was answered with a fault, as which the tool ended; or something from outside ended it before that.
abbrev pub IsNotSetUp : Order → (input : List ℕ) → ToolEnd → (sent sent' : Option (List ℕ)) → Type 0
IsNotSetUp order input how sent sent' =
    ((is_outer how ≡ true) × AppendedPrefix sent (setup_bytes order) sent')
    ⊎ ((f : ConnFault) × (how ≡ fault_end f) × (setup_answer order input ≡ Err f) × Appended sent (setup_bytes order) sent')

-- What came of a link that gives these bytes, in a byte order: it was not set up, and nothing was written; or it was, and all
-- that is said of the tool on a connection holds of what was done after its setup.
abbrev pub RanOver : Order → EventsJob → (input : List ℕ) → EventsEnd → (sent sent' held held' : Option (List ℕ)) → Type 0
RanOver order job input how sent sent' held held' =
    ((ended : ToolEnd) × (how ≡ end.Tool ended) × IsNotSetUp order input ended sent sent' × (held' ≡ held))
    ⊎ ((devices : List DeviceInfo) × (begun : Option (List ℕ)) × (setup_answer order input ≡ Ok devices)
    × Appended sent (setup_bytes order) begun
    × RanBy (missing job.devices devices) job devices (client_after_setup order input) how begun sent' held held')

-- the server could not be dialled, or there was no memory for that
abbrev pub IsUndialled : EventsEnd → Type 0
IsUndialled how = (how ≡ end.Tool tool.DialFault) ⊎ (how ≡ end.Tool tool.OutOfMemory)

-- The first link was dialled, the tool ran over it, and it was given back with all that it had been sent.
pub record RanAsked (asked : EventsWords) (how : EventsEnd) (links : List ToldLink) (links' : Option (List ToldLink))
    (back back' : Option (List (List ℕ))) (held held' : Option (List ℕ)) : Type 0 where
  pub first : ToldLink
  pub rest : List ToldLink
  pub links_are : links ≡ first ∷ rest
  pub links_stay : links' ≡ Some rest
  pub sent : Option (List ℕ)
  pub given_back : AppendedBack back sent back'
  pub ran : RanOver asked.order asked.job first.gives how (Some first.sent) sent held held'

-- This came of it, if a dial is observable: nothing, if the server could not be dialled.
abbrev pub RunsAsked : {D K : Type 0} → (links : D → Option (List ToldLink)) → (back : D → Option (List (List ℕ))) →
    (held : K → Option (List ℕ)) → EventsWords → EventsEnd → (dial dial' : D) → (sink sink' : K) → Type 0
RunsAsked links back held asked how dial dial' sink sink' = (told : List ToldLink) → links dial ≡ Some told →
    (IsUndialled how × (links dial' ≡ Some told) × (back dial' ≡ back dial) × (sink' ≡ sink))
    ⊎ RanAsked asked how told (links dial') (back dial) (back dial') (held sink) (held sink')

-- memory ran out before the server was dialled
abbrev pub IsIdle : {A : Type 0} → EventsEnd → (before after : A) → Type 0
IsIdle how before after = (how ≡ end.Tool tool.OutOfMemory) × (after ≡ before)
