-- Each link is closed for the cause that the log shows.
use Rattle.std.specs.Prelude.{◌≡◌, ◌⊎◌, ℕ, ◌+◌, ◌-◌, ◌<◌, Bool, true, false, List, [], ◌∷◌, ◌++◌, length, take, drop, is_none, is_some, IfSome}
use Rattle.af_limits.specs.Limits.{event_limit}
use Rattle.af_wire.specs.declared.order.Order.{Order}
use Rattle.af_wire.specs.declared.front.Front.{Front}
use Rattle.af_wire.specs.declared.front.Front.TheVariants.{NeedMore, Frame, Malformed}
use Rattle.af_wire.specs.declared.front.SetupFront.TheVariants as front
use Rattle.af_wire.specs.Front.{setup_front, frame_front}
use Rattle.af_request.specs.Requests.{asked_in}
use Rattle.af_world.specs.declared.happening.Why.{Why}
use Rattle.af_world.specs.declared.happening.Why.TheVariants as why
use Rattle.af_world.specs.declared.script.DeviceSpec.{DeviceSpec}
use Rattle.af_world.specs.Log.{Log}
use Rattle.af_model.specs.State.{slot_at}
use Rattle.af_model.specs.LinkHistory.{LinkHistory, history}
use Rattle.af_model.specs.Run.{end_state}

-- requests of so many bytes each are the first of these bytes, and then there is a rest
abbrev pub AreRequests : Order → List ℕ → List ℕ → List ℕ → Type 0
AreRequests order [] bytes rest = rest ≡ bytes
AreRequests order (n ∷ sizes) bytes rest =
    (frame_front order bytes ≡ Frame n) × (is_some (asked_in order (take n bytes)) ≡ true)
    × AreRequests order sizes (drop n bytes) rest

-- a good setup of a byte order and requests in it are the first of these bytes, and then there is a rest
pub record IsServedTo (order : Order) (bytes rest : List ℕ) : Type 0 where
  pub setup : setup_front bytes ≡ front.Setup order
  pub sizes : List ℕ
  pub requests : AreRequests order sizes (drop 8 bytes) rest

-- All that is complete in these bytes is served: they are less than a setup; or a good setup, requests in its order, and then
-- less than a frame.
abbrev pub AreServed : List ℕ → Type 0
AreServed bytes =
    (setup_front bytes ≡ front.NeedMore)
    ⊎ ((order : Order) × (rest : List ℕ) × IsServedTo order bytes rest × (frame_front order rest ≡ NeedMore))

-- whether bytes begin with what is no frame in this byte order, or with a frame that is no request
abbrev pub is_malformed : Order → Front → List ℕ → Bool
is_malformed order NeedMore bytes = false
is_malformed order Malformed bytes = true
is_malformed order (Frame n) bytes = is_none (asked_in order (take n bytes))

-- nothing failed, the link did not end, and it took all that was queued for it
pub record ShowsNoOther (h : LinkHistory) (owed : ℕ) : Type 0 where
  pub failed : h.has_failed ≡ false
  pub ended : h.has_ended ≡ false
  pub all_taken : owed ≡ 0

-- What the history of a link shows if it is closed for a cause, and has not taken so many of the bytes that were queued for it. A
-- read or a write of it failed. Or an event of 20 bytes found no room beside what was to be sent, and no read had reported its
-- end. Or a read reported its end, and all that its reads gave is served. Or its first bytes are no good setup. Or its bytes are
-- malformed after a good setup and requests in its order.
abbrev pub IsCause : Why → LinkHistory → ℕ → Type 0
IsCause why.LinkFault h owed = h.has_failed ≡ true
IsCause why.Overrun h owed = (h.has_failed ≡ false) × (h.has_ended ≡ false) × (event_limit < owed + 20)
IsCause why.Ended h owed = (h.has_failed ≡ false) × (h.has_ended ≡ true) × (owed ≡ 0) × AreServed h.gave
IsCause why.BadSetup h owed = ShowsNoOther h owed × (order : Order) × (value : ℕ)
    × (setup_front h.gave ≡ front.BadSetup order value)
IsCause why.Malformed h owed =
    ShowsNoOther h owed × (order : Order) × (rest : List ℕ) × IsServedTo order h.gave rest
    × (is_malformed order (frame_front order rest) rest ≡ true)

-- the bytes that were queued for a link and not taken
abbrev pub owed_of : LinkHistory → List ℕ → ℕ
owed_of h said = length said - length h.took

-- after a run, the log shows the cause for which a link was closed, if it is not open again
abbrev pub ShowsCauses : List DeviceSpec → Log → Type 0
ShowsCauses config log =
    IfSome (end_state config log)
    (λ s. (k : ℕ) → IfSome (history k log).closed
    (λ cause. IsCause cause (history k log) (owed_of (history k log) (slot_at k s).said)))

-- so it does for each close in a log, after the turn that has it
abbrev pub ClosesForCauses : List DeviceSpec → Log → Type 0
ClosesForCauses config log = (part rest : Log) → log ≡ part ++ rest → ShowsCauses config part
