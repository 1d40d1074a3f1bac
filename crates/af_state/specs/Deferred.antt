-- Plays and records, and the deferred requests that hold them.
use Rattle.std.specs.Prelude.{ℕ, ℤ, List}
use Rattle.af_model.specs.State.{Deferred, deferred_play, deferred_record}
use Rattle.af_state.specs.declared.deferred_request.Play.{Play as SoundPlay}
use Rattle.af_state.specs.declared.deferred_request.Record.{Record as FrameRecord}
use Rattle.af_state.specs.declared.deferred_request.DeferredWork.{DeferredWork}
use Rattle.af_state.specs.declared.deferred_request.DeferredWork.TheVariants.{Play, Record}

-- a play and a record as they are held
abbrev pub deferred_of_play : SoundPlay → Deferred
deferred_of_play p = deferred_play p.quiet p.start.0 p.sound.now p.preempt

abbrev pub deferred_of_record : FrameRecord → Deferred
deferred_of_record r = deferred_record r.context r.start.0 r.frames

-- a request, by what is kept of it
abbrev pub deferred_as : DeferredWork → ℕ → List ℤ → Deferred
deferred_as (Play quiet preempt) start sound = deferred_play quiet start sound preempt
deferred_as (Record context frames) start sound = deferred_record context start frames
