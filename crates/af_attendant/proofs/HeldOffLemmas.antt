-- The hook is held off by what is sent, and by what is not.
use Rattle.std.proofs.Common.{◌≡◌, ℕ, List, [], ◌++◌, append_assoc, append-nil, arith, sym, suc, subst, ap, ◌∙◌, refl, Ok, Err, Option, None, Result}
use Rattle.af_io.specs.Observed.{Appended}
use Rattle.af_io.proofs.AppendedLemmas.{appended_on}
use Rattle.af_time.specs.declared.DevTime.{DevTime}
use Rattle.af_lib.specs.Calls.{Called, ConnState, as_done, as_time}
use Rattle.af_request.specs.Asked.{get_time, hook_switch}
use Rattle.af_request.specs.Requests.{request_bytes}
use Rattle.af_toolkit.specs.Ends.{KeepsConnectionBy}
use Rattle.af_attendant.specs.AttendantParts.{KeepsLink}
use Rattle.af_answer.proofs.AnswerPartLemmas.{StaysUsable}
use Rattle.af_attendant.specs.HeldOff.{HoldsOff, IsHeldOff, times_asked}

module _ {L : Type 0} {left sent : L → Option (List ℕ)} {faults : L → ℕ} {device : ℕ} {old new : ConnState L} where
  -- the hook was taken off, and nothing was sent since
  pub took_off : {u : Unit {0}} → Called left sent faults (hook_switch device 1) as_done old new (Ok u) → old.cause ≡ None → IsHeldOff sent device new
  took_off called usable =
      let order = ap (λ (conn : ConnState _). conn.order) (called.keeps usable) in
      let sends = (called.exchanged usable).sends.whole (λ e. cc e) in
      record {
        times = 0;
        before = sent old.link;
        last = rw append-nil (subst (λ o. Appended (sent old.link) (request_bytes o (hook_switch device 1)) (sent new.link)) (sym order) sends);
        usable = ap (λ (conn : ConnState _). conn.cause) (called.keeps usable);
      }

  -- the time of the device was asked for
  pub held_on : {t : DevTime} → Called left sent faults (get_time device) as_time old new (Ok t) → IsHeldOff sent device old → IsHeldOff sent device new
  held_on called held =
      let kept = called.keeps held.usable in
      let order = ap (λ (conn : ConnState _). conn.order) kept in
      let sends = (called.exchanged held.usable).sends.whole (λ e. cc e) in
      let hook = request_bytes old.order (hook_switch device 1) in
      let asked = request_bytes old.order (get_time device) in
      let all : Appended held.before (hook ++ (times_asked old.order device held.times ++ asked)) (sent new.link) =
      subst (λ l. Appended held.before l (sent new.link)) (append_assoc hook (times_asked old.order device held.times) asked)
      (appended_on held.before (sent old.link) (sent new.link) (hook ++ times_asked old.order device held.times) asked held.last sends) in
      record {
        times = suc held.times;
        before = held.before;
        last = subst (λ o. Appended held.before (request_bytes o (hook_switch device 1) ++ (times_asked o device held.times ++ request_bytes o (get_time device))) (sent new.link)) (sym order) all;
        usable = ap (λ (conn : ConnState _). conn.cause) kept;
      }

-- events were taken from the ring
pub held_kept : {L : Type 0} {sent : L → Option (List ℕ)} {device : ℕ} {old new : ConnState L} → KeepsLink old new → IsHeldOff sent device old → IsHeldOff sent device new
held_kept same held = record {
  times = held.times;
  before = held.before;
  last = rw same held.last;
  usable = ap (λ (conn : ConnState _). conn.cause) same ∙ held.usable;
}

-- a connection stays usable where the time was asked for, and events were taken from the ring
pub watched_on : {L : Type 0} {left sent : L → Option (List ℕ)} {faults : L → ℕ} {device : ℕ} {first old middle new : ConnState L} {t : DevTime} → StaysUsable left faults first old → Called left sent faults (get_time device) as_time old middle (Ok t) → KeepsLink middle new → StaysUsable left faults first new
watched_on {left} {faults = faults} stays called same =
    let kept = called.keeps stays.usable in
    let exchanged = called.exchanged stays.usable in
    let link = ap (λ (conn : ConnState _). conn.link) same in
    record {
      usable = ap (λ (conn : ConnState _). conn.cause) same ∙ ap (λ (conn : ConnState _). conn.cause) kept;
      devices = ap (λ (conn : ConnState _). conn.devices) same ∙ ap (λ (conn : ConnState _). conn.devices) kept ∙ stays.devices;
      tells = λ told. rw link (exchanged.tells (stays.tells told));
      count = omega (arith, ap faults link, exchanged.count, stays.count);
    }

pub stays_holds : {L X : Type 0} {left sent : L → Option (List ℕ)} {faults : L → ℕ} {device : ℕ} {old new : ConnState L} {x : X} → StaysUsable left faults old new → IsHeldOff sent device new → HoldsOff {X = X} left sent faults device old new (Ok x)
stays_holds stays held = record {
  keeps = record { devices = stays.devices; usable = λ _. stays.usable; tells = stays.tells; count = stays.count; failed = λ e. cc e };
  off_hook = λ _. held;
}
