-- A connection on which the hook is held off.
use Rattle.std.specs.Prelude.{◌≡◌, ℕ, zero, suc, List, [], ◌++◌, Option, None, Result, IsOk}
use Rattle.af_io.specs.Observed.{Appended}
use Rattle.af_wire.specs.declared.order.Order.{Order}
use Rattle.af_toolkit.specs.Ends.{KeepsConnectionBy}
use Rattle.af_answer.specs.declared.end.AnswerEnd.{AnswerEnd}
use Rattle.af_answer.specs.declared.end.AnswerEnd.TheVariants as end
use Rattle.af_lib.specs.Calls.{ConnState}
use Rattle.af_request.specs.Asked.{get_time, hook_switch}
use Rattle.af_request.specs.Requests.{request_bytes}

-- so many requests for the time of a device
abbrev pub times_asked : Order → (device : ℕ) → (times : ℕ) → List ℕ
times_asked order device zero = []
times_asked order device (suc n) = times_asked order device n ++ request_bytes order (get_time device)

-- The last request that moved a hook took that of a device off: if the bytes that the link was sent are observable, these are
-- some bytes, then this request, and then only requests for the time of that device. The connection can still be used.
pub record IsHeldOff {L : Type 0} (sent : L → Option (List ℕ)) (device : ℕ) (conn : ConnState L) : Type 0 where
  pub times : ℕ
  pub before : Option (List ℕ)
  pub last : Appended before (request_bytes conn.order (hook_switch device 1) ++ times_asked conn.order device times)
      (sent conn.link)
  pub usable : conn.cause ≡ None

-- What a part that runs a command does to its connection: all that it sends asks for the time of the device, so the hook is held
-- off, as it was.
pub record HoldsOff {L X : Type 0} (left sent : L → Option (List ℕ)) (faults : L → ℕ) (device : ℕ) (old new : ConnState L)
    (result : Result X AnswerEnd) : Type 0 where
  pub keeps : KeepsConnectionBy end.LinkFault left faults old new result
  pub off_hook : IsOk result → IsHeldOff sent device new
