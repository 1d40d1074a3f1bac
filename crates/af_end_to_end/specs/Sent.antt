-- What a client sends on a link, and how much of it the server has read.
use Rattle.std.specs.Prelude.{◌≡◌, ◌≢◌, ℕ, Bool, true, false, List, ◌++◌, flat_map, IfSome}
use Rattle.std.specs.List.{All}
use Rattle.std.specs.declared.option.Option.{Option}
use Rattle.std.specs.declared.option.Option.TheVariants.{None, Some}
use Rattle.af_wire.specs.declared.order.Order.{Order}
use Rattle.af_wire.specs.Begins.{BeginsWith}
use Rattle.af_wire.specs.declared.front.Front.TheVariants.{NeedMore}
use Rattle.af_wire.specs.declared.front.SetupFront.TheVariants as setup
use Rattle.af_wire.specs.Front.{frame_front, setup_bytes, setup_front}
use Rattle.af_request.specs.Asked.{Asked}
use Rattle.af_request.specs.Requests.{request_bytes, IsWritable}
use Rattle.af_world.specs.declared.happening.Why.{Why}
use Rattle.af_world.specs.declared.happening.Why.TheVariants as why
use Rattle.af_world.specs.declared.script.DeviceSpec.{DeviceSpec}
use Rattle.af_world.specs.Log.{Log}
use Rattle.af_model.specs.State.{LinkState, slot_at}
use Rattle.af_model.specs.LinkHistory.{LinkHistory, history}
use Rattle.af_model.specs.Waiting.{has_deferral}
use Rattle.af_model.specs.Advance.{takes_more}
use Rattle.af_model.specs.Run.{end_state}

-- requests in a byte order, one after another
abbrev pub spelled : Order → List Asked → List ℕ
spelled order requests = flat_map (request_bytes order) requests

-- what a client sends: the setup of a byte order, and then requests
abbrev pub client_bytes : Order → List Asked → List ℕ
client_bytes order requests = setup_bytes order ++ spelled order requests

-- the first of these requests were read from the bytes that the link gave, in their order, and then there is a rest
pub record HasRead (order : Order) (requests : List Asked) (gave rest : List ℕ) : Type 0 where
  pub done : List Asked
  pub more : List Asked
  pub in_order : requests ≡ done ++ more
  pub taken : gave ≡ client_bytes order done ++ rest

-- An open link reads what its client sends: nothing before the whole setup is there, and then the first requests, in the byte
-- order of the client. All that is complete is read, unless a request is deferred or too much waits to be sent.
pub record ReadsOn (order : Order) (requests : List Asked) (gave : List ℕ) (waits : Bool) (l : LinkState) : Type 0 where
  pub is_order : l.order ≡ order
  pub has_read : HasRead order requests gave l.rest
  pub all_complete : takes_more waits l ≡ true → frame_front order l.rest ≡ NeedMore

pub record ReadsSetup (gave : List ℕ) (waits : Bool) (l : LinkState) : Type 0 where
  pub none_taken : l.rest ≡ gave
  pub incomplete : takes_more waits l ≡ true → setup_front gave ≡ setup.NeedMore

abbrev pub ReadsBy : Bool → Order → List Asked → List ℕ → Bool → LinkState → Type 0
ReadsBy false order requests gave waits l = ReadsSetup gave waits l
ReadsBy true order requests gave waits l = ReadsOn order requests gave waits l

-- a link is not closed for what its client sent
pub record IsNoFault (cause : Why) : Type 0 where
  pub setup : cause ≢ why.BadSetup
  pub requests : cause ≢ why.Malformed

-- the same of a link that may be closing
abbrev pub ReadsUntil : Order → List Asked → List ℕ → Bool → LinkState → Option Why → Type 0
ReadsUntil order requests gave waits l None = ReadsBy l.is_set_up order requests gave waits l
ReadsUntil order requests gave waits l (Some cause) = IsNoFault cause

-- and of one that may be closed, with its history
abbrev pub Reads : Order → List Asked → LinkHistory → Bool → Option LinkState → Type 0
Reads order requests h waits None = IfSome h.closed IsNoFault
Reads order requests h waits (Some l) = ReadsUntil order requests h.gave waits l l.closing

-- this holds of each link after a run, if what it gave is the first of what a client sends
abbrev pub ReadsWhatIsSent : List DeviceSpec → Log → Type 0
ReadsWhatIsSent config log =
    IfSome (end_state config log)
    (λ s. (k : ℕ) (order : Order) (requests : List Asked) → All IsWritable requests →
    BeginsWith (history k log).gave (client_bytes order requests) →
    Reads order requests (history k log) (has_deferral s.waiting k) (slot_at k s).link)
