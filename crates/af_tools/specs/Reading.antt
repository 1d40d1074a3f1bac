-- How aplay reads its source: the front of a file, and block after block. What a tool has done, and why it ended.
use Rattle.std.specs.Prelude.{◌≡◌, ◌<◌, ◌≤◌, ◌⊎◌, ◌↔◌, ◌||◌, ◌&&◌, ℕ, Bool, true, false, List, [], ◌∷◌, ◌++◌, length, take, drop}
use Rattle.std.specs.Prelude.{Result, Ok, Err, IfOk, IsErrOf, Option, None, Some, IsSome, IsSomeAnd, slice_get, unwrap_or}
use Rattle.af_io.specs.Observed.{Consumed, CountsFault}
use Rattle.af_io.specs.Flow.{ConsumedWithin, IsSpent, ConsumedTooMuch}
use Rattle.af_sound.specs.declared.head.SoundFault.{SoundFault}
use Rattle.af_sound.specs.declared.head.SoundForm.{SoundForm}
use Rattle.af_sound.specs.declared.head.SoundHead.{SoundHead}
use Rattle.af_sound.specs.Heads.{HasFault, IsHead}
use Rattle.af_toolkit.specs.declared.end.ToolEnd.{ToolEnd}
use Rattle.af_toolkit.specs.declared.end.ToolEnd.TheVariants as end
use Rattle.af_tools.specs.declared.fill.FillFault.{FillFault}
use Rattle.af_tools.specs.declared.fill.FillFault.TheVariants as fill
use Rattle.af_tools.specs.Sounds.{most_bytes, stated_room, FitsStated, IsPlayable, reads_front, reads_sound}
use Rattle.af_lib.specs.Calls.{ConnState, as_done}
use Rattle.af_toolkit.specs.Trace.{Trace, ClientState, Finish, answer_on, bad_sound, channel_mismatch, client_after_setup}
use Rattle.af_toolkit.specs.Trace.{done, not_dialled, refused, too_long}
use Rattle.af_toolkit.specs.Trace.{mismatch, no_device, setup_answer, sound_cut, sound_lost, tool_end}
use Rattle.af_toolkit.specs.Ends.{client_of, has_done_all, is_of_all, is_of_link, is_of_link_or_sink, is_outer, EndsFor, IsKept}
use Rattle.af_toolkit.specs.Ends.{ObservedTrace, ToolRan}
use Rattle.af_toolkit.specs.ToolParts.{tool_sight, tooling}
use Rattle.af_toolkit.specs.Parts.{Goes}
use Rattle.af_sound.specs.declared.head.HeadStep.TheVariants as step
use Rattle.af_sound.specs.Fronts.{front_of}
use Rattle.af_request.specs.declared.reply.DeviceInfo.{DeviceInfo}
use Rattle.af_cli.specs.declared.job.PlayJob.{PlayJob}
use Rattle.af_tools.specs.declared.sound.FileHead.{FileHead}
use Rattle.af_tools.specs.declared.sound.SourceSound.{SourceSound}
use Rattle.clap.specs.Words.{Text}
use Rattle.af_io.specs.Dial.{ToldLink}
use Rattle.af_wire.specs.declared.order.Order.{Order}
use Rattle.af_cli.specs.declared.job.Task.{Task}
use Rattle.af_cli.specs.declared.job.Task.TheVariants as task
use Rattle.af_cli.specs.Words.{Job, one}
use Rattle.af_tools.specs.Play.{PlayPart, aplay_trace, play_context, play_finish, IsPlayed}

-- how aplay ends if its source gave no block
abbrev pub fill_end : FillFault → ToolEnd
fill_end fill.ReadFault = end.ReadFault
fill_end fill.TooLong = end.TooLong

-- a source gave more than n bytes, and at most as many as there was room for
pub record ConsumedAbove (most room : ℕ) (before after : Option (List ℕ)) : Type 0 where
  pub bytes : List ℕ
  pub consumed : Consumed before bytes after
  pub beyond : most < length bytes
  pub within : length bytes ≤ room

-- what a source had left before it gave these bytes, by what it has left now
abbrev pub left_before : List ℕ → Option (List ℕ) → Option (List ℕ)
left_before bytes None = None
left_before bytes (Some rest) = Some (bytes ++ rest)

-- The block that was read has n bytes: as many as it has room for, or fewer at the end of the source or of the stated sound.
pub record IsNextBlock (room allowed : ℕ) (len : Option ℕ) (count : ℕ) (after : Option (List ℕ)) : Type 0 where
  pub within : count ≤ room
  pub permitted : count ≤ allowed
  pub stated : FitsStated len count
  pub ended : count < room → IsSpent after ⊎ (len ≡ Some count)

-- the first block was read, and stands at the front of these bytes
pub record IsFirstBlock (room allowed : ℕ) (len : Option ℕ) (count : ℕ) (bytes : List ℕ) (before after : Option (List ℕ)) :
    Type 0 where
  pub consumed : Consumed before (take count bytes) after
  pub next : IsNextBlock room allowed len count after

-- it was read early, before the device's time was asked, or is left for later
abbrev pub IsEarlyBlock : (room allowed : ℕ) → (len early : Option ℕ) → List ℕ → (before after : Option (List ℕ)) → Type 0
IsEarlyBlock room allowed len (Some count) bytes before after = IsFirstBlock room allowed len count bytes before after
IsEarlyBlock room allowed len None bytes before after = after ≡ before

-- A source was read for a block: this is the block, or the source gave more than is allowed, or a read failed.
pub record FillsBlock (room allowed : ℕ) (len : Option ℕ) (result : Result ℕ FillFault) (bytes : List ℕ)
    (before after : Option (List ℕ)) : Type 0 where
  pub had : IfOk result (λ count. IsFirstBlock room allowed len count bytes before after)
  pub long : IsErrOf result fill.TooLong → ConsumedAbove allowed (stated_room len room) before after
  pub cut : IsErrOf result fill.ReadFault → ConsumedWithin allowed before after
  pub part : IsErrOf result fill.ReadFault → ConsumedWithin room before after

-- bytes that are read before a sound: none, or a header that states this length
abbrev pub HeadIs : Option SoundForm → List ℕ → Option ℕ → Type 0
HeadIs None bytes len = (bytes ≡ []) × (len ≡ None)
HeadIs (Some form) bytes len = (head : SoundHead) × IsHead form bytes head × (head.length ≡ len)

-- the source gave these n bytes before its sound
pub record ConsumedHead (form : Option SoundForm) (count : ℕ) (len : Option ℕ) (before after : Option (List ℕ)) : Type 0 where
  pub bytes : List ℕ
  pub consumed : Consumed before bytes after
  pub all : length bytes ≡ count
  pub within : count ≤ most_bytes
  pub is_head : HeadIs form bytes len

-- A part that reads a sound ended: done at the end of the sound, and too long exactly where the source gave more than n bytes.
pub record TakesSound {X : Type 0} (len : Option ℕ) (most : ℕ) (result : Result X ToolEnd) (before after : Option (List ℕ)) :
    Type 0 where
  pub bytes : List ℕ
  pub consumed : Consumed before bytes after
  pub spent : IfOk result (λ _. IsSpent after ⊎ (len ≡ Some (length bytes)))
  pub long : IsErrOf result end.TooLong → most < length bytes
  pub within : (IsErrOf result end.TooLong → ⊥) → length bytes ≤ most

-- the source gave a header, and as much sound as that states
pub record ConsumedSound (form : Option SoundForm) (before after : Option (List ℕ)) : Type 0 where
  pub front : List ℕ
  pub sound : List ℕ
  pub consumed : Consumed before (front ++ sound) after
  pub is_head : HeadIs form front (Some (length sound))

-- the source gave bytes that end where the fault of a header shows
pub record ConsumedFault (form : Option SoundForm) (fault : SoundFault) (before after : Option (List ℕ)) : Type 0 where
  pub bytes : List ℕ
  pub consumed : Consumed before bytes after
  pub has : IsSomeAnd form (λ of. HasFault of bytes fault)

-- the source ended within a header: neither all that it gave, nor any front of it, is a header or has a fault
pub record ConsumedCut (form : Option SoundForm) (before after : Option (List ℕ)) : Type 0 where
  pub bytes : List ℕ
  pub consumed : Consumed before bytes after
  pub spent : IsSpent after
  pub undecided : IsSomeAnd form (λ of. (front rest : List ℕ) → bytes ≡ front ++ rest →
      ((head : SoundHead) → IsHead of front head → ⊥) × ((fault : SoundFault) → HasFault of front fault → ⊥))

-- Each end for a source shows in the bytes that it gave. This says which end it was.
pub record EndShows (form : Option SoundForm) (ended : ToolEnd → Type 0) (before after : Option (List ℕ)) : Type 0 where
  pub long : ended end.TooLong → ConsumedTooMuch most_bytes before after
  pub within : (ended end.TooLong → ⊥) → ConsumedWithin most_bytes before after
  pub bad : (fault : SoundFault) → ended (end.BadSound fault) → ConsumedFault form fault before after
  pub cut : ended end.SoundCut → ConsumedCut form before after

-- What a tool makes of its source: only a tool that reads one changes it, and each end for it shows in the bytes that it gave.
pub record UsesSource {S : Type 0} (left : S → Option (List ℕ)) (faults : S → ℕ) (reads : Bool) (form : Option SoundForm)
    (how : ToolEnd) (source source' : S) : Type 0 where
  pub untouched : reads ≡ false → source' ≡ source
  pub memory : how ≡ end.OutOfMemory → source' ≡ source
  pub unfound : (n : ℕ) → how ≡ end.NoDevice n → source' ≡ source
  pub spent : has_done_all how ≡ true → reads ≡ true → IsSpent (left source') ⊎ ConsumedSound form (left source) (left source')
  pub shows : EndShows form (λ other. how ≡ other) (left source) (left source')
  pub failed : CountsFault (how ≡ end.ReadFault) (faults source) (faults source')

-- a source that is read is observable and gives these bytes, and what is left of them afterwards is observable too
abbrev pub TellsIfRead : {S : Type 0} → (gives : S → Option (List ℕ)) → (reads : Bool) → List ℕ → (source source' : S) → Type 0
TellsIfRead gives reads bytes source source' = reads ≡ true → (gives source ≡ Some bytes) × IsSome (gives source')

-- how a part of aplay went that also reads, over an observable source, which stays observable
abbrev pub GoesReading : {L S X : Type 0} → (left sent : L → Option (List ℕ)) → (gives : S → Option (List ℕ)) →
    (conn conn' : ConnState L) → (source source' : S) → (List ℕ → PlayPart X) → Result X ToolEnd → Type 0
GoesReading left sent gives conn conn' source source' part result =
    (bytes : List ℕ) (held : Option (List ℕ)) → gives source ≡ Some bytes → IsSome (gives source') →
    Goes (tooling play_finish) (part bytes) result (tool_sight left sent conn held) (tool_sight left sent conn' held)

-- how a tool followed its trace, over an observable link, and an observable source if the tool reads it
abbrev pub FollowsTrace : {L S K : Type 0} → (left sent : L → Option (List ℕ)) → (gives : S → Option (List ℕ)) →
    (held : K → Option (List ℕ)) →
    (reads : Bool) → ToolEnd → (link link' : L) → (source source' : S) → (sink sink' : K) → (List ℕ → List ℕ → Trace) → Type 0
FollowsTrace left sent gives held reads how link link' source source' sink sink' trace =
    (input bytes : List ℕ) → left link ≡ Some input → TellsIfRead gives reads bytes source source' →
    ObservedTrace (trace input bytes) how (sent link) (sent link') (held sink) (held sink')

-- the ends of reading a header, and those of a source that is to be played on a device
abbrev pub is_of_front : ToolEnd → Bool
is_of_front end.ReadFault = true
is_of_front end.TooLong = true
is_of_front end.SoundCut = true
is_of_front (end.BadSound fault) = true
is_of_front _ = false

abbrev pub is_of_sound : ToolEnd → Bool
is_of_sound (end.RateMismatch from to) = true
is_of_sound (end.ChannelMismatch from to) = true
is_of_sound how = is_of_front how

-- the ends of reporting what was played
abbrev pub is_of_played : (strict : Bool) → ToolEnd → Bool
is_of_played strict end.SinkFault = true
is_of_played strict how = is_of_all strict how

-- the ends of a part that also reads the source
abbrev pub is_of_blocks : ToolEnd → Bool
is_of_blocks end.ReadFault = true
is_of_blocks end.TooLong = true
is_of_blocks how = is_of_link how

-- the ends of a tool of one link, which ends for its source only if it reads one, and for lost sound only if it is strict
abbrev pub is_of_tool : (reads strict : Bool) → ToolEnd → Bool
is_of_tool reads strict end.Done = true
is_of_tool reads strict end.SoundLost = strict
is_of_tool reads strict (end.NoDevice devices) = true
is_of_tool reads strict how = is_of_link_or_sink how || (is_of_sound how && reads)

-- The front of a file was read, and the source stands after it; or the tool ends as it does there, or for something from outside.
abbrev pub HeadCame : SoundForm → List ℕ → Result FileHead ToolEnd → Option (List ℕ) → Type 0
HeadCame form bytes (Ok file) left =
    (front_of form bytes ≡ record { says = step.Head file.head; size = file.size }) × (left ≡ Some (drop file.size bytes))
HeadCame form bytes (Err how) left = EndsFor (reads_front (front_of form bytes)) how

-- the same of what a source gives to be played on a device
abbrev pub SoundCame : PlayJob → DeviceInfo → List ℕ → Result SourceSound ToolEnd → Option (List ℕ) → Type 0
SoundCame job device bytes (Ok sound) left =
    (rest : List ℕ) × (left ≡ Some rest) × (reads_sound job.form job device bytes ≡ Ok (sound, rest))
SoundCame job device bytes (Err how) left = EndsFor (reads_sound job.form job device bytes) how

-- the device of a job exists, and the link gives the reply that the context of the job was made on it
abbrev pub GivesContext : PlayJob → List DeviceInfo → ClientState → Type 0
GivesContext job devices w = (device : DeviceInfo) × (slice_get devices job.device ≡ Some device)
    × (answer_on (play_context job (unwrap_or job.ty device.ty) device.channels) as_done w ≡ Ok tt)

-- the first link of a dial, whose setup was answered with these devices
pub record SetUpFirst (order : Order) (links : List ToldLink) : Type 0 where
  pub link : ToldLink
  pub rest : List ToldLink
  pub links_are : links ≡ link ∷ rest
  pub devices : List DeviceInfo
  pub set : setup_answer order link.gives ≡ Ok devices

-- the first link that a dial gives is set up, and gives that reply
abbrev pub DialGivesContext : Order → PlayJob → List ToldLink → Type 0
DialGivesContext order job links = (first : SetUpFirst order links)
    × GivesContext job first.devices (client_after_setup order first.link.gives)

-- If a task is to play a source without a header, that is as it was, unless this says that the context was made.
abbrev pub ReadsLate : {S : Type 0} → Task → (made : PlayJob → Type 0) → (source source' : S) → Type 0
ReadsLate t made source source' = (job : PlayJob) → t ≡ task.Play job → job.form ≡ None → (source' ≡ source) ⊎ made job

-- the same for a job, over a dial
abbrev pub JobReadsLate : {D S : Type 0} → (links : D → Option (List ToldLink)) → Job → D → (source source' : S) → Type 0
JobReadsLate links j dial source source' =
    (server : Text) (order : Order) (t : Task) → j ≡ one server order t →
    ReadsLate t (λ job. (told : List ToldLink) → links dial ≡ Some told → DialGivesContext order job told) source source'

-- a tool on a device ran, strict or not, over a connection whose link is observable
abbrev pub RunsTool : {L K : Type 0} → (left sent : L → Option (List ℕ)) → (held : K → Option (List ℕ)) →
    (ClientState → Trace) → ℕ → (strict : Bool) → ToolEnd → (conn conn' : ConnState L) → (sink sink' : K) → Type 0
RunsTool left sent held trace device strict how conn conn' sink sink' = (input : List ℕ) → left conn.link ≡ Some input →
    ToolRan ((device < length conn.devices) × IsKept strict (trace (client_of conn input))) (trace (client_of conn input)) how
    (sent conn.link) (sent conn'.link) (held sink) (held sink')

-- a device that does not exist, a source that is no sound file, or two whose rates or channels differ
abbrev pub is_unfit : Finish → Bool
is_unfit (no_device devices) = true
is_unfit (mismatch from to) = true
is_unfit (channel_mismatch from to) = true
is_unfit (bad_sound fault) = true
is_unfit sound_cut = true
is_unfit sound_lost = false
is_unfit done = false
is_unfit not_dialled = false
is_unfit too_long = false
is_unfit (refused fault) = false

-- A tool ends for an unfit device or source exactly where its trace does, unless something from outside has ended it.
pub record EndsIfUnfit (trace : Trace) (how : ToolEnd) : Type 0 where
  pub only : (finish : Finish) → is_unfit finish ≡ true → how ≡ tool_end finish → trace.finish ≡ finish
  pub always : (finish : Finish) → is_unfit finish ≡ true → trace.finish ≡ finish →
      (how ≡ tool_end finish) ⊎ (is_outer how ≡ true)

-- aplay ran, and is done if it gets a sound that its device plays, and is not strict or loses none of it. If it did all, each
-- block was played at its time and is heard.
pub record AplayRan (job : PlayJob) (devices : List DeviceInfo) (bytes : List ℕ) (w : ClientState) (how : ToolEnd)
    (sent sent' held held' : Option (List ℕ)) : Type 0 where
  pub ran : ToolRan (IsPlayable job devices bytes × IsKept job.strict (aplay_trace job devices bytes w))
      (aplay_trace job devices bytes w) how sent sent' held held'
  pub heard : has_done_all how ≡ true → IsPlayed job devices bytes w how sent sent' held held'
  pub unfit : EndsIfUnfit (aplay_trace job devices bytes w) how

-- the same over a connection with an observable link, and an observable source, which stays so
abbrev pub RunsAplay : {L S K : Type 0} → (left sent : L → Option (List ℕ)) → (gives : S → Option (List ℕ)) →
    (held : K → Option (List ℕ)) →
    PlayJob → ToolEnd → (conn conn' : ConnState L) → (source source' : S) → (sink sink' : K) → Type 0
RunsAplay left sent gives held job how conn conn' source source' sink sink' =
    (input bytes : List ℕ) → left conn.link ≡ Some input → gives source ≡ Some bytes → IsSome (gives source') →
    AplayRan job conn.devices bytes (client_of conn input) how (sent conn.link) (sent conn'.link) (held sink) (held sink')

-- a tool ends for a missing device exactly where its number is not below the number of devices, which the end carries
abbrev pub LacksDevice : ℕ → List DeviceInfo → ToolEnd → Type 0
LacksDevice device devices how = (n : ℕ) → (how ≡ end.NoDevice n) ↔ ((n ≡ length devices) × (length devices ≤ device))
