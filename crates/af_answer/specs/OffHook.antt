-- A connection on which the hook is off.
use Rattle.std.specs.Prelude.{◌≡◌, ℕ, List, Option, None}
use Rattle.af_io.specs.Observed.{Appended}
use Rattle.af_lib.specs.Calls.{ConnState}
use Rattle.af_request.specs.Asked.{hook_switch}
use Rattle.af_request.specs.Requests.{request_bytes}

-- The last request that was sent took the hook of a device off: if the bytes that the link was sent are observable, these are
-- some bytes and then this request. The connection can still be used.
pub record IsOffHook {L : Type 0} (sent : L → Option (List ℕ)) (conn : ConnState L) : Type 0 where
  pub device : ℕ
  pub before : Option (List ℕ)
  pub last : Appended before (request_bytes conn.order (hook_switch device 1)) (sent conn.link)
  pub usable : conn.cause ≡ None
