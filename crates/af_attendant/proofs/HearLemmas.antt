-- The events that came are heard, one after another.
use Rattle.std.proofs.Common.{◌≡◌, ◌∙◌, ℕ, List, [], ◌∷◌, drop, slice_get, sym, subst, ap, refl, true, false, if◌then◌else◌, Bool, Option, None, Some, is_some}
use Rattle.std.specs.Prelude.{Ok}
use Rattle.af_wire.specs.declared.event.Event.{Event}
use Rattle.af_lib.specs.Calls.{ConnState}
use Rattle.af_lib.specs.Ring.{RingState}
use Rattle.af_lib.proofs.EventRingLemmas.{none_taken}
use Rattle.af_command.specs.Acts.{Told}
use Rattle.af_toolkit.specs.Parts.{goes_on, has_value}
use Rattle.af_attendant.specs.declared.job.AttendantJob.{AttendantJob}
use Rattle.af_attendant.specs.declared.ran.EndCause.{EndCause}
use Rattle.af_attendant.specs.Line.{LineState, line_after}
use Rattle.af_attendant.specs.AttendantTrace.{AttendantPart, ToCome, asked_after, cause_by, ends_if, ends_now, hears_all, hears_event, hears_these, takes_oldest, working}
use Rattle.af_attendant.specs.AttendantParts.{KeepsLink, Sight, Went, sight}
use Rattle.af_attendant.proofs.AttendantPartLemmas.{GotTo, went_by, went_here, went_on, went_value}
use Rattle.af_attendant.proofs.AttendantStepLemmas.{heard_went, taken_went}
use Rattle.af_attendant.proofs.StandingLemmas.{got_as, no_oldest, with_oldest}

module _ {L : Type 0} (left sent : L → Option (List ℕ)) (job : AttendantJob) (runs : Bool) (old : ConnState L) where
  -- hearing all begins with the oldest
  pub hear_begins : {part : AttendantPart (Option EndCause)} {p : Sight} {acts : Option (List Told)} {held : Option (List ℕ)} {line : LineState} → GotTo part (hears_all job runs) p (sight left sent old acts held line) → GotTo part (hears_these job runs None old.ring.events) p (sight left sent old acts held line)
  unfolding hears_all
  hear_begins g = got_as (λ later a stands. ap (λ (b : ToCome). hears_these job runs None b.wire.ring.events a) stands.2) g

  -- one event is heard, and may end the command
  pub hear_on : (asked : Option EndCause) {part : AttendantPart (Option EndCause)} {p : Sight} {acts : Option (List Told)} {held : Option (List ℕ)} {line : LineState} → GotTo part (hears_these job runs asked old.ring.events) p (sight left sent old acts held line) →
      {e : Event} {new : ConnState L} {line' : LineState} {acts' : Option (List Told)} → slice_get old.ring.events 0 ≡ Some e → new ≡ record old { ring = record old.ring { events = drop 1 old.ring.events } } → line' ≡ line_after job e line →
      Went (ends_if (ends_now job runs asked e)) (Ok tt) (sight left sent new acts held line') (sight left sent new acts' held line') → {asked' : Option EndCause} → asked' ≡ asked_after job runs asked e →
      GotTo part (hears_these job runs asked' new.ring.events) p (sight left sent new acts' held line')
  unfolding hears_these
  hear_on asked {part} {p} {acts} {held} {line} g {e} {new} {line'} {acts'} oldest taken heard ended {asked'} is =
      let rest : new.ring.events ≡ drop 1 old.ring.events = ap (λ (c : ConnState L). c.ring.events) taken in
      let first = subst (λ (events : List Event). GotTo part (hears_these job runs asked events) p (sight left sent old acts held line)) (with_oldest old.ring.events oldest) g in
      let all : GotTo part (hears_these job runs (asked_after job runs asked e) (drop 1 old.ring.events)) p (sight left sent new acts' held line') = went_on _ (went_on _ (went_on _ first (taken_went left sent taken)) (heard_went job e heard)) ended in
      subst (λ (events : List Event). GotTo part (hears_these job runs asked' events) p (sight left sent new acts' held line')) (sym rest)
      (subst (λ (cause : Option EndCause). GotTo part (hears_these job runs cause (drop 1 old.ring.events)) p (sight left sent new acts' held line')) (sym is) all)

  -- none is left
  pub hear_ends : (asked : Option EndCause) {part : AttendantPart (Option EndCause)} {p : Sight} {acts : Option (List Told)} {held : Option (List ℕ)} {line : LineState} → GotTo part (hears_these job runs asked old.ring.events) p (sight left sent old acts held line) →
      {new : ConnState L} → slice_get old.ring.events 0 ≡ None → new ≡ record old { ring = record old.ring { events = drop 1 old.ring.events } } → Went part (Ok asked) p (sight left sent new acts held line)
  unfolding hears_these
  hear_ends asked {part} {p} {acts} {held} {line} g {new} none taken =
      let same : new ≡ old = taken ∙ ap (λ (r : RingState). record old { ring = r }) (none_taken old.ring none) in
      let last : Went part (Ok asked) p (sight left sent old acts held line) = went_by (subst (λ (events : List Event). GotTo part (hears_these job runs asked events) p (sight left sent old acts held line)) (no_oldest old.ring.events none) g) (went_value asked) in
      subst (λ (c : ConnState L). Went part (Ok asked) p (sight left sent c acts held line)) (sym same) last

-- a connection of which only events were taken
pub keeps_more : {L : Type 0} (old middle : ConnState L) {new : ConnState L} {r : RingState} → KeepsLink old middle → new ≡ record middle { ring = r } → KeepsLink old new
keeps_more {L} old middle {new} {r} keeps taken = taken ∙ ap (λ (c : ConnState L). record c { ring = r }) keeps ∙ ap (λ (q : RingState). record old { ring = q }) (sym (ap (λ (c : ConnState L). c.ring) taken))

module _ (job : AttendantJob) (runs : Bool) (asked : Option EndCause) (e : Event) where
  -- an event ends only a command that runs
  pub ends_running : ends_now job runs asked e ≡ true → runs ≡ true
  ends_running now = elim runs as (λ b. ends_now job b asked e ≡ true → b ≡ true) [ true ↦ λ n. refl | false ↦ λ n. cc n ] now

  pub asked_now : {cause : EndCause} → ends_now job runs asked e ≡ true → cause ≡ cause_by e.kind → Some cause ≡ asked_after job runs asked e
  asked_now now is = ap (λ (c : EndCause). Some c) is ∙ ap (λ (b : Bool). if b then Some (cause_by e.kind) else asked) (sym now)

  pub asked_not : ends_now job runs asked e ≡ false → asked ≡ asked_after job runs asked e
  asked_not other = ap (λ (b : Bool). if b then Some (cause_by e.kind) else asked) (sym other)
