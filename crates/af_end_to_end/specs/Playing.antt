-- What a link performs in a run, turn by turn, and what becomes of its plays.
use Rattle.std.specs.Prelude.{◌≡◌, ◌≤◌, ◌⊎◌, ℕ, ◌^◌, Bool, true, List, [], ◌∷◌, ◌++◌, flat_map, map, slice_get, IfSome, IsSomeAnd}
use Rattle.std.specs.List.{All}
use Rattle.std.specs.declared.option.Option.{Option}
use Rattle.std.specs.declared.option.Option.TheVariants.{None, Some}
use Rattle.af_time.specs.DeviceTime.{unwrap}
use Rattle.af_sample.specs.Rates.{IsListedRate}
use Rattle.af_context.specs.declared.Context.{Context}
use Rattle.af_request.specs.Asked.{Asked}
use Rattle.af_world.specs.declared.script.DeviceSpec.{DeviceSpec}
use Rattle.af_world.specs.Log.{Log}
use Rattle.af_model.specs.State.{DeviceState, LinkState, State, deferred_play, slot_at}
use Rattle.af_model.specs.Play.{sent_sound}
use Rattle.af_model.specs.Perform.{channels_at}
use Rattle.af_model.specs.LinkHistory.{history}
use Rattle.af_model.specs.Turn.{IsTurn}
use Rattle.af_model.specs.Run.{end_state}
use Rattle.af_end_to_end.specs.Performing.{Performs, SentPlay, Takes, contexts_after, contexts_by, counted, ends_prompt, own_waiting, play_of_request}

-- Turns

-- a turn: its part of the log, and the state after it
pub record Turn : Type 0 where
  pub part : Log
  pub after : State

-- turns, one after another
abbrev pub AreTurns : State → List Turn → Type 0
AreTurns s [] = Unit {0}
AreTurns s (turn ∷ more) = IsTurn s turn.part turn.after × AreTurns turn.after more

abbrev pub end_of : State → List Turn → State
end_of s [] = s
end_of s (turn ∷ more) = end_of turn.after more

-- link k is open, and not closing
abbrev pub StaysOpen : ℕ → Turn → Type 0
StaysOpen k turn = IsSomeAnd (slot_at k turn.after).link (λ l. l.closing ≡ None)

-- the bytes that the reads of link k gave
abbrev pub given_in : ℕ → List Turn → List ℕ
given_in k turns = flat_map (λ turn. (history k turn.part).gave) turns

-- What is performed

-- a request that a link performed, and the state after the turn in which it did
pub record Performance : Type 0 where
  pub asked : Asked
  pub after : State

abbrev pub performed_in : Turn → List Asked → List Performance
performed_in turn asked = map (λ a. record { asked = a; after = turn.after }) asked

abbrev pub requests_of : List Performance → List Asked
requests_of done = map (λ p. p.asked) done

-- link k performed these requests in these turns, each in its turn, and came from one state to another
abbrev pub PerformsIn : ℕ → State → LinkState → List Turn → List Performance → LinkState → Type 0
PerformsIn k s l [] done end = (done ≡ []) × (end ≡ l)
PerformsIn k s l (turn ∷ more) done end =
    (m : LinkState) × ((slot_at k turn.after).link ≡ Some m)
    × (p : Performs k s l (history k turn.part).gave turn.after m) × (rest : List Performance)
    × (done ≡ performed_in turn p.asked ++ rest) × PerformsIn k turn.after m more rest end

-- Its plays

-- a play, and the state after the turn in which it was performed
pub record PlayedAt : Type 0 where
  pub sent : SentPlay
  pub after : State

abbrev pub played_at : State → List SentPlay → List PlayedAt
played_at after plays = map (λ sent. record { sent = sent; after = after }) plays

-- the plays among what was performed, each with its context as those before it left it
abbrev pub plays_in : (ℕ → Option ℕ) → List Context → List Performance → List PlayedAt
plays_in channels contexts [] = []
plays_in channels contexts (p ∷ more) =
    played_at p.after (play_of_request channels contexts p.asked)
    ++ plays_in channels (contexts_after channels contexts p.asked) more

-- A play that was performed when the time of its device was now is among those that the device has accepted: from the time that
-- it means at that moment on, with the gain and the preempt of its context. It was accepted at that moment, or later by its
-- start.
pub record IsAccepted (now : ℕ) (device : DeviceState) (sent : SentPlay) : Type 0 where
  pub place : ℕ
  pub at : ℕ
  pub is : slice_get device.accepted place ≡ Some (record {
    start = unwrap now sent.time;
    samples = sent_sound sent.context sent.bytes;
    preempt = sent.context.preempt;
    at = at;
  })
  pub not_before : now ≤ at
  pub by_start : (at ≡ now) ⊎ (at ≤ unwrap now sent.time)

-- it is still deferred
abbrev pub IsDeferred : ℕ → ℕ → State → SentPlay → Type 0
IsDeferred k now s sent = (i : ℕ) × (quiet : Bool) × (slice_get (own_waiting k s.waiting) i ≡ Some (record {
  link = k;
  device = sent.context.device;
  deferred = deferred_play quiet (unwrap now sent.time) (sent_sound sent.context sent.bytes) sent.context.preempt;
}))

-- what became of a play by a later state
pub record IsTakenUpBy (k : ℕ) (end : State) (x : PlayedAt) : Type 0 where
  pub then_device : DeviceState
  pub was_there : slice_get x.after.devices x.sent.context.device ≡ Some then_device
  pub since_begin : 2 ^ 32 ≤ then_device.now
  pub device : DeviceState
  pub is_there : slice_get end.devices x.sent.context.device ≡ Some device
  pub rises : then_device.now ≤ device.now
  pub channels : device.channels ≡ then_device.channels
  pub taken_up : IsAccepted then_device.now device x.sent ⊎ IsDeferred k then_device.now end x.sent

-- A run

-- What link k performs in turns through which it stays open: the requests that it takes off its input, in their order, each once;
-- and each play among them is accepted, or still deferred.
pub record PlaysOn (k : ℕ) (s : State) (l : LinkState) (turns : List Turn) : Type 0 where
  pub done : List Performance
  pub end : LinkState
  pub performs : PerformsIn k s l turns done end
  pub takes : Takes l (given_in k turns) (requests_of done) end
  pub numbered : end.sequence ≡ counted l.sequence (requests_of done)
  pub contexts : end.contexts ≡ contexts_by (channels_at s.devices) l.contexts (requests_of done)
  pub plays : All (IsTakenUpBy k (end_of s turns)) (plays_in (channels_at s.devices) l.contexts done)
  pub idle : (b : Bool) → (b ≡ true → own_waiting k s.waiting ≡ []) → ends_prompt b (requests_of done) ≡ true →
      own_waiting k (end_of s turns).waiting ≡ []

-- this holds from each state of a run on, with devices of listed rates
abbrev pub PlaysInRun : List DeviceSpec → Log → Type 0
PlaysInRun config log =
    All (λ c. IsListedRate c.rate) config →
    IfSome (end_state config log)
    (λ s. (k : ℕ) (l : LinkState) (turns : List Turn) → (slot_at k s).link ≡ Some l → AreTurns s turns →
    All (StaysOpen k) turns → PlaysOn k s l turns)
