-- The deferred requests, as the server keeps them.
use Rattle.std.specs.Prelude.{◌≡◌, ◌≢◌, ℕ, ◌+◌, ◌-◌, ◌*◌, ◌%◌, ◌^◌, ◌<◌, ◌≤◌, ◌==◌, Bool, false, List, [], ◌∷◌, ◌++◌, length, map, filter, not, slice_get, slice_index_or}
use Rattle.std.specs.declared.option.Option.TheVariants.{Some}
use Rattle.af_limits.specs.Limits.{longest_play, longest_record}
use Rattle.af_wait.specs.declared.Wait.{Wait}
use Rattle.af_wait.specs.Waits.{is_due, is_waiting, wait_after_frames}
use Rattle.af_model.specs.State.{DeviceState, Deferred, deferred_play, deferred_record, Deferral}
use Rattle.af_model.specs.Reply.{horizon_of}
use Rattle.af_model.specs.Waiting.{due_time}
use Rattle.af_buffers.specs.PlayBuffer.{frames_within}
use Rattle.af_state.specs.Kept.{KeptDevice}
use Rattle.af_sample.specs.Channels.{AreWholeFrames, frame_count}
use Rattle.af_sample.specs.SampleTypes.{frame_bytes}

-- a deferred request: its link, its device, the frames that are left, and its work; of the start only the 32-bit word is kept
pub record KeptDeferral : Type 0 where
  pub wait : Wait
  pub deferred : Deferred

-- a link has a request deferred for n frames of a device
abbrev pub deferral_of : ℕ → ℕ → ℕ → Deferred → KeptDeferral
deferral_of link device left deferred =
    record { wait = record { link = link; device = device; left = left }; deferred = deferred }

-- a wait, joined with what the room of its link holds
abbrev pub kept_deferral : List Deferred → Wait → KeptDeferral
kept_deferral room w = record { wait = w; deferred = slice_index_or room w.link (deferred_play false 0 [] false) }

abbrev pub waits_of : List KeptDeferral → List Wait
waits_of ks = map (λ k. k.wait) ks

-- whether a link has a deferred request
abbrev pub has_waiting : List KeptDeferral → ℕ → Bool
has_waiting ks link = is_waiting (waits_of ks) link

-- whether a request is deferred for a device, and due
abbrev pub kept_due : ℕ → KeptDeferral → Bool
kept_due device k = is_due device k.wait

-- after n frames of a device have passed
abbrev pub deferral_after_frames : ℕ → ℕ → KeptDeferral → KeptDeferral
deferral_after_frames device n k = record k { wait = wait_after_frames device n k.wait }

-- the deferred requests, without that of a link
abbrev pub kept_without : ℕ → List KeptDeferral → List KeptDeferral
kept_without link ks = filter (λ k. not (k.wait.link == link)) ks

-- each waits for at least one more frame
abbrev pub AreLater : List KeptDeferral → Type 0
AreLater [] = Unit {0}
AreLater (k ∷ ks) = (0 < k.wait.left) × AreLater ks

-- so does each that is not due for a device
abbrev pub AreLaterBut : ℕ → List KeptDeferral → Type 0
AreLaterBut device [] = Unit {0}
AreLaterBut device (k ∷ ks) = (kept_due device k ≡ false → 0 < k.wait.left) × AreLaterBut device ks

-- each is of this link, and waits for at least one frame
abbrev pub AreNew : ℕ → List KeptDeferral → Type 0
AreNew link [] = Unit {0}
AreNew link (k ∷ ks) = (k.wait.link ≡ link) × (0 < k.wait.left) × AreNew link ks

-- at most one request was deferred, of this link, after all others, and for at least one frame
pub record OnlyQueues (link : ℕ) (old new : List KeptDeferral) : Type 0 where
  pub more : List KeptDeferral
  pub is : new ≡ old ++ more
  pub are_new : AreNew link more

-- no deferred request of another link came or went, and if each waited for a frame or more, each still does
pub record LeavesOthers (link : ℕ) (old new : List KeptDeferral) : Type 0 where
  pub later : AreLater old → AreLater new
  pub others : (j : ℕ) → j ≢ link → has_waiting new j ≡ has_waiting old j

-- a request with the word of its start
abbrev pub with_start_word : Deferred → Deferred
with_start_word (deferred_play quiet start sound preempt) = deferred_play quiet (start % 2 ^ 32) sound preempt
with_start_word (deferred_record c start frames) = deferred_record c (start % 2 ^ 32) frames

-- a request has at most the samples that a play or a record may have on a device with so many channels, and a play has whole
-- frames
abbrev pub IsShort : ℕ → Deferred → Type 0
IsShort channels (deferred_play quiet start sound preempt) = (length sound ≤ longest_play) × AreWholeFrames channels sound
IsShort channels (deferred_record c start frames) = (frames ≤ longest_record)
    × (frames * frame_bytes c.ty channels ≤ longest_record)

-- the start of a request is near a time: if it is completed then it loses nothing, and its word means its start
abbrev pub IsNear : ℕ → ℕ → Deferred → Type 0
IsNear horizon now (deferred_play quiet start sound preempt) = (now ≤ start) × (start < now + 2 ^ 31)
IsNear horizon now (deferred_record c start frames) = (now ≤ start + horizon) × (start < now + 2 ^ 31)

-- a play ends within a device's horizon
abbrev pub DeferredEndsWithin : KeptDevice → Deferred → Type 0
DeferredEndsWithin d (deferred_play quiet start sound preempt) = frame_count d.next.channels sound ≤ frames_within d.next start
DeferredEndsWithin d (deferred_record c start frames) = Unit {0}

-- a request can complete on a device: it is short enough, and ends within the horizon
abbrev pub CanComplete : KeptDevice → Deferred → Type 0
CanComplete d deferred = IsShort d.next.channels deferred × DeferredEndsWithin d deferred

-- What is kept of a deferred request stands for it: the frames that are left are the due time less now.
pub record StandsForDeferral (devices : List DeviceState) (k : KeptDeferral) (w : Deferral) : Type 0 where
  pub link : k.wait.link ≡ w.link
  pub device : k.wait.device ≡ w.device
  pub deferred : k.deferred ≡ with_start_word w.deferred
  pub state : DeviceState
  pub here : slice_get devices w.device ≡ Some state
  pub left : k.wait.left ≡ due_time state.channels (horizon_of state) w.deferred - state.now
  pub near : IsNear (horizon_of state) state.now w.deferred
  pub short : IsShort state.channels w.deferred

-- what is kept stands for the deferred requests, one by one
abbrev pub StandForDeferrals : List DeviceState → List KeptDeferral → List Deferral → Type 0
StandForDeferrals devices [] [] = Unit {0}
StandForDeferrals devices [] (w ∷ ws) = ⊥
StandForDeferrals devices (k ∷ ks) [] = ⊥
StandForDeferrals devices (k ∷ ks) (w ∷ ws) = StandsForDeferral devices k w × StandForDeferrals devices ks ws
