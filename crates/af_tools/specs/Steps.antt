-- In what order aplay reads and sends: it reads a block once those before it were played, and asks for the time once it has one.
use Rattle.std.specs.Prelude.{◌≡◌, ◌<◌, ◌≤◌, ◌⊎◌, ◌+◌, ℕ, List, [], ◌∷◌, ◌++◌, length, slice_get, Ok, IsSome, Option, None, Some}
use Rattle.af_io.specs.Observed.{Appended, Consumed}
use Rattle.af_io.specs.Flow.{AppendedPrefix, IsSpent}
use Rattle.af_toolkit.specs.Parts.{goes_on, has_value}
use Rattle.af_request.specs.declared.reply.DeviceInfo.{DeviceInfo}
use Rattle.af_request.specs.Asked.{get_time}
use Rattle.af_request.specs.Requests.{request_bytes}
use Rattle.af_lib.specs.Calls.{ConnState, as_done, as_time}
use Rattle.af_sound.specs.declared.head.SoundForm.{SoundForm}
use Rattle.af_sound.specs.Fronts.{front_of}
use Rattle.af_toolkit.specs.declared.end.ToolEnd.{ToolEnd}
use Rattle.af_toolkit.specs.declared.end.ToolEnd.TheVariants as end
use Rattle.af_toolkit.specs.Ends.{client_of}
use Rattle.af_cli.specs.declared.job.PlayJob.{PlayJob}
use Rattle.af_cli.specs.Sizes.{greatest_block}
use Rattle.af_toolkit.specs.Trace.{ClientState}
use Rattle.af_toolkit.specs.ToolParts.{doing}
use Rattle.af_tools.specs.declared.sound.SourceSound.{SourceSound}
use Rattle.af_tools.specs.Pacing.{course_from}
use Rattle.af_tools.specs.Sounds.{most_bytes, block_bytes, reads_sound}
use Rattle.af_tools.specs.declared.pace.Course.{Course}
use Rattle.af_tools.specs.Play.{PlayPart, play_asks, play_context, job_pace, played_frames, plays_sound}

-- each request of a part was sent and got its reply, and then these bytes were sent
pub record WentThrough {X : Type 0} (part : PlayPart X) (w : ClientState) (more : List ℕ) (sent sent' : Option (List ℕ)) :
    Type 0 where
  pub value : X × ClientState
  pub replied : (part w).end ≡ Ok value
  pub link : Appended sent ((part w).did.sends ++ more) sent'

-- the first block of a sound is among n bytes that were read: it is full, or the source or the stated sound ends with it
abbrev pub HasFirst : SourceSound → (frames count : ℕ) → (left : Option (List ℕ)) → Type 0
HasFirst sound frames count left = (block_bytes sound frames ≤ count) ⊎ (IsSpent left ⊎ (sound.length ≡ Some count))

-- A sound was read in step with what was sent: blocks that were all played, and at most one block more. If a read failed, nothing
-- was sent since those blocks. The first block is there, unless this says why not.
pub record ReadsInStep {X : Type 0} (sound : SourceSound) (frames : ℕ) (before : List ℕ → PlayPart X) (w : ClientState)
    (failed late : Type 0) (left left' sent sent' : Option (List ℕ)) : Type 0 where
  pub played : List ℕ
  pub ahead : List ℕ
  pub read : Consumed left (played ++ ahead) left'
  pub one_block : length ahead ≤ block_bytes sound frames
  pub past : (more : List ℕ) × WentThrough (before played) w more sent sent'
  pub stopped : failed → WentThrough (before played) w [] sent sent'
  pub first : HasFirst sound frames (length (played ++ ahead)) left' ⊎ late

-- after the context was made: nothing, if no block was played; else the time was asked for, and these bytes were played
abbrev pub plays_so_far : PlayJob → SourceSound → DeviceInfo → List ℕ → PlayPart Course
plays_so_far job sound device [] = has_value doing (course_from (record { 0 = 0 }))
plays_so_far job sound device (b ∷ bytes) = goes_on doing (play_asks (get_time job.device) as_time) (λ now.
    plays_sound sound (played_frames job device.rate sound.ty sound.channels)
    (job_pace job device.rate sound.ty sound.channels now) now (b ∷ bytes))

-- what is sent before the block after these bytes of a sound is read
abbrev pub plays_before : PlayJob → SourceSound → DeviceInfo → List ℕ → PlayPart Course
plays_before job sound device bytes =
    goes_on doing (play_asks (play_context job sound.ty sound.channels) as_done) (λ _. plays_so_far job sound device bytes)

-- a header that leaves a block of what a source may give
abbrev pub LeavesBlock : SourceSound → Type 0
LeavesBlock sound = sound.head + greatest_block ≤ most_bytes

-- at most the request for the context was sent
abbrev pub SentContext : PlayJob → SourceSound → ClientState → (sent sent' : Option (List ℕ)) → Type 0
SentContext job sound w sent sent' = AppendedPrefix sent (request_bytes w.order (play_context job sound.ty sound.channels)) sent'

-- A sound was played so far: nothing of it was read, and at most the request for the context was sent; or it was read in step.
abbrev pub PlaysInStep : PlayJob → SourceSound → DeviceInfo → ClientState → (failed : Type 0) →
    (left left' sent sent' : Option (List ℕ)) → Type 0
PlaysInStep job sound device w failed left left' sent sent' =
    ((left' ≡ left) × SentContext job sound w sent sent')
    ⊎ ReadsInStep sound (played_frames job device.rate sound.ty sound.channels) (plays_before job sound device) w
    (failed × LeavesBlock sound) (SentContext job sound w sent sent' ⊎ (most_bytes < sound.head + greatest_block))
    left left' sent sent'

-- how many bytes of a file are before its sound: its header, or all up to the fault or the end that shows that it has none
abbrev pub head_size : Option SoundForm → List ℕ → ℕ
head_size None bytes = 0
head_size (Some form) bytes = (front_of form bytes).size

-- of these bytes a source has given at most those before the sound
pub record GaveHead (form : Option SoundForm) (bytes : List ℕ) (left : Option (List ℕ)) : Type 0 where
  pub read : List ℕ
  pub gave : Consumed (Some bytes) read left
  pub within : length read ≤ head_size form bytes

-- what a source gives is a sound for a device that is there, and was played so far
pub record PlaysSource (job : PlayJob) (devices : List DeviceInfo) (bytes : List ℕ) (w : ClientState) (failed : Type 0)
    (left' sent sent' : Option (List ℕ)) : Type 0 where
  pub device : DeviceInfo
  pub is_there : slice_get devices job.device ≡ Some device
  pub sound : SourceSound
  pub rest : List ℕ
  pub gives : reads_sound job.form job device bytes ≡ Ok (sound, rest)
  pub steps : PlaysInStep job sound device w failed (Some rest) left' sent sent'

-- aplay reads in step with what it sends: at most a header before it sends anything, and then its sound
abbrev pub AplaySteps : PlayJob → List DeviceInfo → List ℕ → ClientState → (failed : Type 0) →
    (left' sent sent' : Option (List ℕ)) → Type 0
AplaySteps job devices bytes w failed left' sent sent' =
    (GaveHead job.form bytes left' × Appended sent [] sent') ⊎ PlaysSource job devices bytes w failed left' sent sent'

-- the same over a connection with an observable link, and an observable source, which stays so
abbrev pub RunsInStep : {L S : Type 0} → (left sent : L → Option (List ℕ)) → (gives : S → Option (List ℕ)) →
    PlayJob → ToolEnd → (conn conn' : ConnState L) → (source source' : S) → Type 0
RunsInStep left sent gives job how conn conn' source source' =
    (input bytes : List ℕ) → left conn.link ≡ Some input → gives source ≡ Some bytes → IsSome (gives source') →
    AplaySteps job conn.devices bytes (client_of conn input) (how ≡ end.ReadFault) (gives source')
    (sent conn.link) (sent conn'.link)
