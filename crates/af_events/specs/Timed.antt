-- What a client goes through in a job for a time, step after step.
use Rattle.std.specs.Prelude.{◌≡◌, ◌⊎◌, ◌≤◌, ◌+◌, ℕ, true, false, List, [], ◌∷◌, slice_get, Ok, Some}
use Rattle.af_time.specs.declared.DevTime.{DevTime}
use Rattle.af_wire.specs.declared.event.Event.{Event}
use Rattle.af_request.specs.declared.reply.DeviceInfo.{DeviceInfo}
use Rattle.af_toolkit.specs.ToolParts.{begins}
use Rattle.af_toolkit.specs.Trace.{ClientState}
use Rattle.af_events.specs.declared.job.EventsJob.{EventsJob}
use Rattle.af_events.specs.declared.span.Span.{Span}
use Rattle.af_events.specs.Spans.{frame_time, frames_of, is_over}
use Rattle.af_events.specs.Trace.{after_event, clock_context, hears_frame, selects_all}

-- a client is handed an event that it keeps, or waits until a frame has gone by
pub data Step : Type 0 where
  handed : (e : Event) → Step
  waited : Step

-- the events that it is handed
abbrev pub events_among : List Step → List Event
events_among [] = []
events_among (handed e ∷ steps) = e ∷ events_among steps
events_among (waited ∷ steps) = events_among steps

-- how far it has come: the client, the time that the device told last, and the number of the frame that it waits for next
pub record Place : Type 0 where
  pub client : ClientState
  pub told : ℕ
  pub number : ℕ

-- It waits for a frame only once all events that came are told and none was lost, as long as the time is not over and a frame is
-- left. The reply tells the time.
pub record Waits (span : Span) (start : ℕ) (p q : Place) : Type 0 where
  pub all : p.client.ring.events ≡ []
  pub early : is_over span start p.told ≡ false
  pub one_left : p.number ≤ frames_of span
  pub answered : (hears_frame span.channels (frame_time span start p.number) p.client).end ≡ Ok (record { 0 = q.told }, q.client)
  pub next : q.number ≡ p.number + 1

-- From one place it comes to another by these steps. Each event that it is handed is the oldest that it keeps. No event was lost
-- before a step.
abbrev pub AreSteps : Span → (start : ℕ) → Place → List Step → Place → Type 0
AreSteps span start p [] q = p ≡ q
AreSteps span start p (handed e ∷ steps) q =
    (p.client.ring.lost ≡ 0) × (slice_get p.client.ring.events 0 ≡ Some e)
    × AreSteps span start (record p { client = after_event p.client }) steps q
AreSteps span start p (waited ∷ steps) q =
    (p.client.ring.lost ≡ 0) × (between : Place) × Waits span start p between × AreSteps span start between steps q

-- The server was asked for the events that are wanted, and none was lost until its last reply. The context was made, and the
-- device told its time. Then the client came through these steps.
pub record HeardFor (span : Span) (job : EventsJob) (devices : List DeviceInfo) (w : ClientState)
    (steps : List Step) : Type 0 where
  pub from : ClientState
  pub selected : (selects_all job.devices job.kinds devices w).end ≡ Ok (tt, from)
  pub kept : from.ring.lost ≡ 0
  pub start : DevTime
  pub there : ClientState
  pub begun : (begins (clock_context span) span.device from).end ≡ Ok (start, there)
  pub last : Place
  pub came : AreSteps span start.0 (record { client = there; told = start.0; number = 1 }) steps last

-- all events that came until the last reply are told and none was lost, and at that the time is over or no frame is left
pub record IsTimeOver (span : Span) (start : ℕ) (last : Place) : Type 0 where
  pub all : last.client.ring.events ≡ []
  pub kept : last.client.ring.lost ≡ 0
  pub over : (is_over span start last.told ≡ true) ⊎ (last.number ≡ frames_of span + 1)
