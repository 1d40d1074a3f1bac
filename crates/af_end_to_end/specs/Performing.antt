-- What a link performs in a turn: the requests that it takes off its input, in their order, and what they come to.
use Rattle.std.specs.Prelude.{◌≡◌, ◌≤◌, ◌⊎◌, ℕ, ◌+◌, ◌%◌, ◌^◌, ◌==◌, ◌&&◌, not, Bool, true, false, is_none, List, [], ◌∷◌, ◌++◌, length, take, drop, filter, slice_get, if◌then◌else◌}
use Rattle.std.specs.List.{All, fold}
use Rattle.std.specs.declared.option.Option.{Option}
use Rattle.std.specs.declared.option.Option.TheVariants.{None, Some}
use Rattle.af_limits.specs.Limits.{longest_tick}
use Rattle.af_time.specs.DeviceTime.{unwrap}
use Rattle.af_context.specs.declared.Context.{Context}
use Rattle.af_context.specs.Contexts.{context_of, creation, reference, with_changed, with_settings, without_context}
use Rattle.af_wire.specs.declared.order.Order.{Order}
use Rattle.af_wire.specs.declared.front.Front.TheVariants.{Frame}
use Rattle.af_wire.specs.declared.front.SetupFront.TheVariants as setup
use Rattle.af_wire.specs.Front.{frame_front, setup_front}
use Rattle.af_sample.specs.Heard.{AcceptedPlay}
use Rattle.af_request.specs.Asked.{Asked, create_ac, change_ac, free_ac, play_run, record_run}
use Rattle.af_request.specs.Requests.{asked_in}
use Rattle.af_world.specs.Log.{Log}
use Rattle.af_model.specs.State.{Deferral, Deferred, DeviceState, LinkState, State, deferred_play, deferred_record, slot_at}
use Rattle.af_model.specs.Checks.{context_refusal}
use Rattle.af_model.specs.ContextRequests.{change_refusal, creation_refusal, named_gain, named_preempt, requested_context}
use Rattle.af_model.specs.Play.{are_frames, entry_now, sent_sound}
use Rattle.af_model.specs.Perform.{channels_at}
use Rattle.af_model.specs.LinkHistory.{history}
use Rattle.af_model.specs.Turn.{IsTurn}

-- What is taken off the input

-- these requests are the first of these bytes, and then there is a rest
abbrev pub AreAsked : Order → List Asked → List ℕ → List ℕ → Type 0
AreAsked order [] bytes rest = rest ≡ bytes
AreAsked order (asked ∷ more) bytes rest = (n : ℕ) × (frame_front order bytes ≡ Frame n)
    × (asked_in order (take n bytes) ≡ Some asked) × AreAsked order more (drop n bytes) rest

-- The same of a link that may not be set up before, or after: its setup comes first, and states its byte order.
abbrev pub AreTaken : (set_up_before set_up_after : Bool) → (before after : Order) → List Asked → List ℕ → List ℕ → Type 0
AreTaken false false before after asked bytes rest = (asked ≡ []) × (rest ≡ bytes)
AreTaken false true before after asked bytes rest =
    (setup_front bytes ≡ setup.Setup after) × AreAsked after asked (drop 8 bytes) rest
AreTaken true true before after asked bytes rest = (after ≡ before) × AreAsked before asked bytes rest
AreTaken true false before after asked bytes rest = ⊥

-- a link that had this input, and was given more bytes, took these requests off
abbrev pub Takes : LinkState → List ℕ → List Asked → LinkState → Type 0
Takes l given asked m = AreTaken l.is_set_up m.is_set_up l.order m.order asked (l.rest ++ given) m.rest

-- the number of the last request, after these were counted
abbrev pub counted : ℕ → List Asked → ℕ
counted sequence asked = fold (λ n a. (n + 1) % 2 ^ 16) sequence asked

-- The contexts

-- the contexts of a link after a request, by the channels of each device
abbrev pub contexts_after : (ℕ → Option ℕ) → List Context → Asked → List Context
contexts_after channels contexts (create_ac d ac ty n preempt play_gain record_gain) =
    if is_none (creation_refusal (channels d) d ty n preempt play_gain record_gain)
    && is_none (context_refusal ac (creation contexts ac))
    then contexts ++ requested_context d ac ty preempt play_gain record_gain ∷ [] else contexts
contexts_after channels contexts (change_ac mask ac preempt play_gain record_gain) =
    if is_none (change_refusal contexts mask ac preempt play_gain record_gain)
    then with_changed contexts ac
    (with_settings (named_gain mask 1 play_gain) (named_gain mask 2 record_gain) (named_preempt mask preempt))
    else contexts
contexts_after channels contexts (free_ac ac) =
    if is_none (context_refusal ac (reference contexts ac)) then without_context contexts ac else contexts
contexts_after channels contexts _ = contexts

-- and after several, one after another
abbrev pub contexts_by : (ℕ → Option ℕ) → List Context → List Asked → List Context
contexts_by channels contexts asked = fold (contexts_after channels) contexts asked

-- The plays

-- a play of a link: its context, as it is then, the time that it states, and its bytes
pub record SentPlay : Type 0 where
  pub context : Context
  pub time : ℕ
  pub bytes : List ℕ

-- a play that is whole frames, and one at least
abbrev pub play_on : Option ℕ → Context → ℕ → List ℕ → List SentPlay
play_on None c time bytes = []
play_on (Some n) c time bytes =
    if are_frames n c (length bytes) && not (length (sent_sound c bytes) == 0)
    then (record { context = c; time = time; bytes = bytes }) ∷ [] else []

abbrev pub play_by : (ℕ → Option ℕ) → Option Context → ℕ → List ℕ → List SentPlay
play_by channels None time bytes = []
play_by channels (Some c) time bytes = play_on (channels c.device) c time bytes

-- the play that a request is, if it is one with a frame and is not refused
abbrev pub play_of_request : (ℕ → Option ℕ) → List Context → Asked → List SentPlay
play_of_request channels contexts (play_run quiet ac time bytes) = play_by channels (context_of contexts ac) time bytes
play_of_request channels contexts _ = []

-- the plays among requests, each with its context as those before it left it
abbrev pub plays_by : (ℕ → Option ℕ) → List Context → List Asked → List SentPlay
plays_by channels contexts [] = []
plays_by channels contexts (asked ∷ more) =
    play_of_request channels contexts asked ++ plays_by channels (contexts_after channels contexts asked) more

-- the deferred requests of link k
abbrev pub own_waiting : ℕ → List Deferral → List Deferral
own_waiting k waiting = filter (λ w. w.link == k) waiting

-- a play is accepted by a device now, or deferred, at the time that it means now
abbrev pub IsTakenUp : ℕ → DeviceState → List Deferral → SentPlay → Type 0
IsTakenUp k device waiting sent =
    ((i : ℕ) × (slice_get device.accepted i ≡ Some (entry_now sent.context device sent.time sent.bytes)))
    ⊎ ((i : ℕ) × (quiet : Bool) × (slice_get (own_waiting k waiting) i ≡ Some (record {
      link = k;
      device = sent.context.device;
      deferred = deferred_play quiet (unwrap device.now sent.time) (sent_sound sent.context sent.bytes) sent.context.preempt;
    })))

pub record IsPlayedNow (k : ℕ) (devices : List DeviceState) (waiting : List Deferral) (sent : SentPlay) : Type 0 where
  pub device : DeviceState
  pub is_there : slice_get devices sent.context.device ≡ Some device
  pub has_frame : (length (sent_sound sent.context sent.bytes) == 0) ≡ false
  pub taken_up : IsTakenUp k device waiting sent

-- a play that was deferred is accepted now, unless it has no frame; and the same is said of no record
abbrev pub IsAcceptedNow : List DeviceState → ℕ → Deferred → Type 0
IsAcceptedNow devices d (deferred_play quiet start sound preempt) =
    (length sound ≡ 0) ⊎ ((device : DeviceState) × (i : ℕ) × (slice_get devices d ≡ Some device)
    × (slice_get device.accepted i ≡ Some (record { start = start; samples = sound; preempt = preempt; at = device.now })))
IsAcceptedNow devices d (deferred_record c start frames) = Unit {0}

-- a request that was deferred still is, or completes now
abbrev pub IsFollowedUp : ℕ → List DeviceState → List Deferral → Deferral → Type 0
IsFollowedUp k devices waiting w =
    ((i : ℕ) × (slice_get (own_waiting k waiting) i ≡ Some w)) ⊎ IsAcceptedNow devices w.device w.deferred

-- whether a request is never deferred
abbrev pub is_prompt : Asked → Bool
is_prompt (play_run quiet ac time bytes) = false
is_prompt (record_run blocking ac time bytes) = false
is_prompt _ = true

-- whether the last of these requests is, or this, if there are none
abbrev pub ends_prompt : Bool → List Asked → Bool
ends_prompt before asked = fold (λ b a. is_prompt a) before asked

-- A turn

-- What a turn makes of a device: its time rises, by 4096 sample periods at most; it keeps its rate and its channels; and what it
-- has accepted stays, with what it accepts since.
pub record GoesOn (d e : DeviceState) : Type 0 where
  pub rises : d.now ≤ e.now
  pub few : e.now ≤ d.now + longest_tick
  pub rate : e.rate ≡ d.rate
  pub channels : e.channels ≡ d.channels
  pub more : List AcceptedPlay
  pub accepted : e.accepted ≡ d.accepted ++ more

-- of each device
abbrev pub AllGoOn : List DeviceState → List DeviceState → Type 0
AllGoOn ds es =
    (i : ℕ) (d : DeviceState) → slice_get ds i ≡ Some d → (e : DeviceState) × (slice_get es i ≡ Some e) × GoesOn d e

-- What link k performs in a turn, in which its reads gave these bytes: the requests that it takes off its input, in their order,
-- each once. Its contexts become what they make of them. Each device goes on. Each play among the requests is accepted or
-- deferred, and each request that was deferred still is or completes, at the time that its device has after the turn. If the last
-- request is never deferred, none of the link is then.
pub record Performs (k : ℕ) (s : State) (l : LinkState) (given : List ℕ) (t : State) (m : LinkState) : Type 0 where
  pub asked : List Asked
  pub takes : Takes l given asked m
  pub numbered : m.sequence ≡ counted l.sequence asked
  pub contexts : m.contexts ≡ contexts_by (channels_at s.devices) l.contexts asked
  pub channels : (d : ℕ) → channels_at t.devices d ≡ channels_at s.devices d
  pub devices : AllGoOn s.devices t.devices
  pub plays : All (IsPlayedNow k t.devices t.waiting) (plays_by (channels_at s.devices) l.contexts asked)
  pub followed : All (IsFollowedUp k t.devices t.waiting) (own_waiting k s.waiting)
  pub idle : (b : Bool) → (b ≡ true → own_waiting k s.waiting ≡ []) → ends_prompt b asked ≡ true →
      own_waiting k t.waiting ≡ []

-- this holds of each turn and each link that is open before it, and open and not closing after it
abbrev pub PerformsInTurns : Type 0
PerformsInTurns = (k : ℕ) (s : State) (part : Log) (t : State) (l m : LinkState) → IsTurn s part t →
    (slot_at k s).link ≡ Some l → (slot_at k t).link ≡ Some m → m.closing ≡ None →
    Performs k s l (history k part).gave t m
