-- Parts of a machine that hears its caller, one after the other.
use Rattle.std.proofs.Common.{◌≡◌, ℕ, List, refl, append_assoc, inr, Option}
use Rattle.std.specs.Prelude.{Result, Ok, Err}
use Rattle.af_toolkit.specs.Parts.{IsProgramKind, goes_on, has_value, stops}
use Rattle.af_toolkit.proofs.PartLemmas.{Reached, goes_stop, goes_value, reached_goes, reached_here, reached_on}
use Rattle.af_io.proofs.AppendedLemmas.{appended_none, appended_on}
use Rattle.af_answer.specs.declared.end.AnswerEnd.{AnswerEnd}
use Rattle.af_attendant.specs.AttendantTrace.{AttendantFinish, AttendantPart, Reply, Work, acts_of, sent_by, working, written_by}
use Rattle.af_attendant.specs.AttendantParts.{Added, Seen, Sight, Went, attending, shown}
use Rattle.af_attendant.proofs.EffectLemmas.{acts_on, sent_on, written_on}

pub works_on : (a b c : Work) → working.joined (working.joined a b) c ≡ working.joined a (working.joined b c)
works_on a b c = simp append_assoc

-- no work was added, and some after some
pub added_none : (s : Seen (Option (List ℕ))) → Added s working.nothing s
added_none s = record { link = appended_none s.far; commands = appended_none s.acts; sink = appended_none s.held }

pub added_on : {a b c : Seen (Option (List ℕ))} {w v : Work} → Added a w b → Added b v c → Added a (working.joined w v) c
added_on {a} {b} {c} {w} {v} f g = record {
  link = rw (sent_on w v) (appended_on a.far b.far c.far (sent_by w) (sent_by v) f.link g.link);
  commands = rw (acts_on w v) (appended_on a.acts b.acts c.acts (acts_of w) (acts_of v) f.commands g.commands);
  sink = rw (written_on w v) (appended_on a.held b.held c.held (written_by w) (written_by v) f.sink g.sink);
}

pub is_attending : IsProgramKind attending
is_attending = record {
  nothing_first = λ d. refl;
  joined_twice = works_on;
  shows_nothing = λ p. added_none (shown p.0);
  shows_joined = λ p q r d e shows more. added_on shows more;
}

-- a machine has come to another part, which is what is left of the first
pub record GotTo {X : Type 0} (part now : AttendantPart X) (old new : Sight) : Type 0 where
  pub replies : (later : List Reply) → List Reply
  pub reached : (later : List Reply) → Reached attending part now (old, replies later) (new, later)

pub went_here : {X : Type 0} {part : AttendantPart X} {p : Sight} → GotTo part part p p
went_here = record { replies = λ later. later; reached = λ later. reached_here is_attending }

-- it comes further, or it ends there
pub went_on : {X Y : Type 0} {part : AttendantPart Y} {first : AttendantPart X} (next : X → AttendantPart Y) {x : X} {p q r : Sight} → GotTo part (goes_on working first next) p q → Went first (Ok x) q r → GotTo part (next x) p r
went_on next g w = record { replies = λ later. g.replies (w.replies later); reached = λ later. reached_on is_attending next (g.reached (w.replies later)) (w.goes later) }

pub went_by : {X : Type 0} {part now : AttendantPart X} {result : Result X AnswerEnd} {p q r : Sight} → GotTo part now p q → Went now result q r → Went part result p r
went_by {result} g w = record { replies = λ later. g.replies (w.replies later); goes = λ later. reached_goes is_attending result (g.reached (w.replies later)) (w.goes later) }

pub went_through : {X Y : Type 0} {part : AttendantPart X} (next : X → AttendantPart Y) {x : X} {result : Result Y AnswerEnd} {p q r : Sight} → Went part (Ok x) p q → Went (next x) result q r → Went (goes_on working part next) result p r
went_through next f g = went_by (went_on next went_here f) g

pub went_stop : {X Y : Type 0} {part : AttendantPart X} (next : X → AttendantPart Y) {how : AnswerEnd} {result : Result Y AnswerEnd} {p q : Sight} → result ≡ Err how → Went {X = X} part (Err how) p q → Went (goes_on working part next) result p q
went_stop next same w = record { replies = w.replies; goes = λ later. goes_stop is_attending next same (w.goes later) }

-- a part that does nothing
pub went_value : {X : Type 0} (x : X) {p : Sight} → Went (has_value working x) (Ok x) p p
went_value x = record { replies = λ later. later; goes = λ later. goes_value is_attending x }

pub went_stops : {X : Type 0} (finish : AttendantFinish) {how : AnswerEnd} {p : Sight} → attending.Reports how finish → Went {X = X} (stops working finish) (Err how) p p
went_stops finish {p} reports = record { replies = λ later. later; goes = λ later. record { came = λ a stands. (working.nothing, inr (finish, reports, refl), added_none (shown p)) } }
