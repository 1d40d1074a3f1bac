-- The rules of a call: when the hook moves, when a command starts, when its end is asked for, and when it is waited for.
use Rattle.std.specs.Prelude.{◌≡◌, ⊤, ℕ, ◌||◌, ◌&&◌, not, if◌then◌else◌, Bool, true, false, List, [], ◌∷◌, Option, None, Some}
use Rattle.af_wire.specs.declared.event.Event.{Event}
use Rattle.af_process.specs.declared.act.BeganGot.{BeganGot}
use Rattle.af_process.specs.declared.act.BeganGot.TheVariants as got
use Rattle.af_command.specs.Acts.{Told, begun, ended, finished, looked}
use Rattle.af_attendant.specs.declared.job.AttendantJob.{AttendantJob}
use Rattle.af_attendant.specs.Line.{asks_end, is_hang_up}
use Rattle.af_attendant.specs.AttendantTrace.{AttendantFinish, Effect, Work, does_act, hears, moves_hook, sends_byte, writes_byte}
use Rattle.af_attendant.specs.AttendantTrace.{off_hook_fault, watch_fault}

-- Where a machine stands in a call. Its hook is on; or it is off and no command runs, and the caller has hung up or not; or a
-- command runs, which the last look has said or not; or the event was just heard that ends it, and its end is asked for next; or
-- that was asked for.
pub data Stage : Type 0 where
  on_hook : Stage
  off_hook : (gone : Bool) → Stage
  running : (gone runs : Bool) → Stage
  ending : (gone : Bool) → Stage
  was_ended : (gone : Bool) → Stage

-- the stage after an event: a command that runs is ended exactly at an event that asks for that
abbrev pub heard_at : AttendantJob → Event → Stage → Option Stage
heard_at job e on_hook = Some on_hook
heard_at job e (off_hook gone) = Some (off_hook (is_hang_up job e || gone))
heard_at job e (running gone runs) =
    if runs && asks_end job e then Some (ending (is_hang_up job e || gone)) else Some (running (is_hang_up job e || gone) runs)
heard_at job e (ending gone) = None
heard_at job e (was_ended gone) = Some (was_ended (is_hang_up job e || gone))

-- the hook is taken off only where it is on, and put on only where no command runs
abbrev pub moved_at : Bool → Stage → Option Stage
moved_at true on_hook = Some (off_hook false)
moved_at false (off_hook gone) = Some on_hook
moved_at _ _ = None

-- A command starts only where the hook is off, no other runs, and the caller has not hung up.
abbrev pub begun_at : BeganGot → Stage → Option Stage
begun_at (got.Child child) (off_hook false) = Some (running false true)
begun_at got.Failed (off_hook false) = Some (off_hook false)
begun_at got.NoMemory (off_hook false) = Some (off_hook false)
begun_at _ _ = None

abbrev pub looked_at : Bool → Stage → Option Stage
looked_at runs (running gone true) = Some (running gone runs)
looked_at runs _ = None

-- the end of a command is asked for exactly where the event was just heard that ends it
abbrev pub ended_at : Stage → Option Stage
ended_at (ending gone) = Some (was_ended gone)
ended_at _ = None

-- it is waited for where it runs, or its end was asked for
abbrev pub finished_at : Stage → Option Stage
finished_at (running gone runs) = Some (off_hook gone)
finished_at (was_ended gone) = Some (off_hook gone)
finished_at _ = None

abbrev pub acted_at : Told → Stage → Option Stage
acted_at (begun words got) stage = begun_at got stage
acted_at (looked runs) stage = looked_at runs stage
acted_at ended stage = ended_at stage
acted_at (finished status) stage = finished_at stage

-- before the end that an event asks for nothing is sent
abbrev pub sent_at : Stage → Option Stage
sent_at (ending gone) = None
sent_at stage = Some stage

-- a line is written only while the hook is on
abbrev pub written_at : Stage → Option Stage
written_at on_hook = Some on_hook
written_at _ = None

-- the stage after one thing that a machine does; none where a rule is broken
abbrev pub stage_after : AttendantJob → Effect → Stage → Option Stage
stage_after job (moves_hook off) stage = moved_at off stage
stage_after job (sends_byte b) stage = sent_at stage
stage_after job (hears e) stage = heard_at job e stage
stage_after job (does_act act) stage = acted_at act stage
stage_after job (writes_byte b) stage = written_at stage

-- the stage after some work, where no rule was broken
abbrev pub then_stage : (Stage → Option Stage) → Option Stage → Option Stage
then_stage next None = None
then_stage next (Some stage) = next stage

abbrev pub stages : AttendantJob → Work → Stage → Option Stage
stages job [] stage = Some stage
stages job (effect ∷ work) stage = then_stage (stages job work) (stage_after job effect stage)

-- Where a machine is left that ends for this. The hook is on, as it was sent; but where an OffHook was answered with a fault it
-- is off, and where a GetTime beside a command was, that command still runs.
abbrev pub LeftAt : AttendantFinish → Stage → Type 0
LeftAt (off_hook_fault fault) stage = stage ≡ off_hook false
LeftAt (watch_fault fault) stage = (gone : Bool) × (runs : Bool) × (stage ≡ running gone runs)
LeftAt _ stage = stage ≡ on_hook
