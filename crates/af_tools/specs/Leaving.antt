-- How aplay leaves its device: it frees its context, and before that it may wait for the last frame.
use Rattle.std.specs.Prelude.{ℕ, ◌+◌, ◌-◌, ◌%◌, ◌^◌, ◌&&◌, nat_lt, if◌then◌else◌, Bool, List, ◌++◌, Option, None, Some}
use Rattle.af_request.specs.Asked.{free_ac}
use Rattle.af_request.specs.Requests.{request_bytes}
use Rattle.af_lib.specs.Calls.{as_done}
use Rattle.af_toolkit.specs.ToolParts.{ToolPart, asks}
use Rattle.af_tools.specs.Pacing.{once_past, waiting_bytes}
use Rattle.af_wire.specs.declared.order.Order.{Order}

-- the time of the frame that is waited for: the last of n from a start on, if one was asked for and there is one
abbrev pub drained : Bool → (start frames : ℕ) → Option ℕ
drained drain start frames = if drain && nat_lt 0 frames then Some ((start + (frames - 1)) % 2 ^ 32) else None

-- a frame of so many bytes is waited for, if there is one to wait for, and the context is freed
abbrev pub leaves : (frame : ℕ) (last : Option ℕ) → ToolPart (Unit {0})
leaves frame last = once_past frame last (asks (free_ac 1) as_done)

-- what is sent for that
abbrev pub leaving_bytes : Order → (frame : ℕ) (last : Option ℕ) → List ℕ
leaving_bytes order frame last = waiting_bytes order frame last ++ request_bytes order (free_ac 1)
