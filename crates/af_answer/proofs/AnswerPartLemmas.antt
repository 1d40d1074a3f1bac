-- Parts of an answering machine, one after the other.
use Rattle.std.proofs.Common.{◌≡◌, ◌≤◌, ℕ, IsSome, Option, None, true, false, List, sym, ap, ◌∙◌, append_assoc, append-nil, refl, inl, inr, subst}
use Rattle.std.specs.Prelude.{Result, Ok, Err}
use Rattle.af_toolkit.specs.Parts.{IsProgramKind, Stopped, after_deeds, followed, goes_on, has_value, stops}
use Rattle.af_toolkit.proofs.PartLemmas.{Reached, front_followed, goes_stop, goes_value, reached_goes, reached_here, reached_on}
use Rattle.af_io.proofs.AppendedLemmas.{appended_none, appended_on}
use Rattle.af_lib.specs.Calls.{ConnState}
use Rattle.af_toolkit.specs.ToolParts.{LinkSight}
use Rattle.af_answer.specs.declared.end.AnswerEnd.{AnswerEnd}
use Rattle.af_answer.specs.declared.end.AnswerEnd.TheVariants as end
use Rattle.af_answer.specs.AnswerTrace.{MachineTrace, AnswerFinish, MachineDeeds, MachineOutcome, MachinePart, ToCome, Work, acts_of, doing, sent_by, working, written_by}
use Rattle.af_answer.specs.AnswerParts.{Added, MatchesAnswer, Seen, Went, answering, is_from_outside, is_of_calls, seen_as}
use Rattle.af_answer.specs.Children.{ChildRun}
use Rattle.af_answer.proofs.WorkLemmas.{acts_on, sent_on, written_on}

-- work and deeds, one after the other
pub works_on : (a b c : Work) → working.joined (working.joined a b) c ≡ working.joined a (working.joined b c)
works_on a b c = simp append_assoc

pub works_end : (w : Work) → working.joined w working.nothing ≡ w
works_end w = simp append-nil

pub deeds_on : (a b c : MachineDeeds) → doing.joined (doing.joined a b) c ≡ doing.joined a (doing.joined b c)
deeds_on a b c = simp append_assoc

pub deeds_end : (d : MachineDeeds) → doing.joined d doing.nothing ≡ d
deeds_end d = simp append-nil

-- no work was added, and some after some
pub added_none : (s : Seen (Option (List ℕ))) → Added s working.nothing s
added_none s = record { link = appended_none s.far; children = appended_none s.acts; sink = appended_none s.held }

pub added_on : {a b c : Seen (Option (List ℕ))} {w v : Work} → Added a w b → Added b v c → Added a (working.joined w v) c
added_on {a} {b} {c} {w} {v} f g = record {
  link = rw (sent_on w v) (appended_on a.far b.far c.far (sent_by w) (sent_by v) f.link g.link);
  children = rw (acts_on w v) (appended_on a.acts b.acts c.acts (acts_of w) (acts_of v) f.children g.children);
  sink = rw (written_on w v) (appended_on a.held b.held c.held (written_by w) (written_by v) f.sink g.sink);
}

pub is_answering : IsProgramKind answering
is_answering = record {
  nothing_first = λ d. refl;
  joined_twice = deeds_on;
  shows_nothing = λ p. added_none (seen_as p.0.far.sent p.0.acts p.0.held);
  shows_joined = λ p q r d e shows more. added_on shows more;
}

-- a connection stays usable, and this is what is kept of it
pub record StaysUsable {L : Type 0} (left : L → Option (List ℕ)) (faults : L → ℕ) (old new : ConnState L) : Type 0 where
  pub usable : new.cause ≡ None
  pub devices : new.devices ≡ old.devices
  pub tells : IsSome (left old.link) → IsSome (left new.link)
  pub count : faults old.link ≤ faults new.link

-- a machine has come to another part, which is what is left of the first
pub record GotTo {X : Type 0} (part now : MachinePart X) (old new : Seen LinkSight) : Type 0 where
  pub runs : (later : List ChildRun) → List ChildRun
  pub reached : (later : List ChildRun) → Reached answering part now (old, runs later) (new, later)

pub went_here : {X : Type 0} {part : MachinePart X} {p : Seen LinkSight} → GotTo part part p p
went_here = record { runs = λ later. later; reached = λ later. reached_here is_answering }

-- it comes further, or it ends there
pub went_on : {X Y : Type 0} {part : MachinePart Y} {first : MachinePart X} (next : X → MachinePart Y) {x : X} {p q r : Seen LinkSight} → GotTo part (goes_on doing first next) p q → Went first (Ok x) q r → GotTo part (next x) p r
went_on next g w = record { runs = λ later. g.runs (w.runs later); reached = λ later. reached_on is_answering next (g.reached (w.runs later)) (w.goes later) }

pub went_by : {X : Type 0} {part now : MachinePart X} {result : Result X AnswerEnd} {p q r : Seen LinkSight} → GotTo part now p q → Went now result q r → Went part result p r
went_by {result} g w = record { runs = λ later. g.runs (w.runs later); goes = λ later. reached_goes is_answering result (g.reached (w.runs later)) (w.goes later) }

pub went_through : {X Y : Type 0} {part : MachinePart X} (next : X → MachinePart Y) {x : X} {result : Result Y AnswerEnd} {p q r : Seen LinkSight} → Went part (Ok x) p q → Went (next x) result q r → Went (goes_on doing part next) result p r
went_through next f g = went_by (went_on next went_here f) g

pub went_stop : {X Y : Type 0} {part : MachinePart X} (next : X → MachinePart Y) {how : AnswerEnd} {result : Result Y AnswerEnd} {p q : Seen LinkSight} → result ≡ Err how → Went {X = X} part (Err how) p q → Went (goes_on doing part next) result p q
went_stop next same w = record { runs = w.runs; goes = λ later. goes_stop is_answering next same (w.goes later) }

-- a part that does nothing
pub went_value : {X : Type 0} (x : X) {p : Seen LinkSight} → Went (has_value doing x) (Ok x) p p
went_value x = record { runs = λ later. later; goes = λ later. goes_value is_answering x }

pub went_stops : {X : Type 0} (finish : AnswerFinish) {how : AnswerEnd} {p : Seen LinkSight} → answering.Reports how finish → Went {X = X} (stops doing finish) (Err how) p p
went_stops finish {p} reports = record { runs = λ later. later; goes = λ later. record { came = λ a stands. (doing.nothing, inr (finish, reports, refl), added_none (seen_as p.far.sent p.acts p.held)) } }

-- within its calls only a link that failed ends a machine from outside
outer_of_calls : (how : AnswerEnd) → is_of_calls how ≡ true → is_from_outside how ≡ true → how ≡ end.LinkFault
outer_of_calls end.LinkFault way outer = refl
outer_of_calls end.DialFault way outer = cc way
outer_of_calls end.SinkFault way outer = cc way
outer_of_calls how way outer = cc outer

-- a machine that ended within the first of its parts
pub stopped_matches : {X : Type 0} (o : MachineOutcome X) (next : X × ToCome → MachineOutcome (Unit {0})) (how : AnswerEnd) (did : MachineDeeds) → is_of_calls how ≡ true → Stopped answering o how did → MatchesAnswer (followed doing o.did o.end next) how did
stopped_matches o next how did way (inl within) =
    let front = front_followed is_answering did o.did o.end next within.1 in
    let failed = outer_of_calls how way within.0 in
    record {
      undone = front.0;
      all = front.1;
      whole = λ inner. (let bad : true ≡ false = sym within.0 ∙ inner in cc bad);
      acted = λ other. absurd (other failed);
      starved = λ e. (let bad : end.LinkFault ≡ end.OutOfMemory = sym failed ∙ e in cc bad);
      reported = λ e. (let bad : end.LinkFault ≡ end.SinkFault = sym failed ∙ e in cc bad);
    }
stopped_matches {X} o next how did way (inr ended) =
    subst (λ (x : MachineOutcome X). MatchesAnswer (followed doing x.did x.end next) how did) (sym ended.2) (record {
      undone = doing.nothing;
      all = sym (deeds_end did);
      whole = λ inner. (ended.1.0, refl);
      acted = λ other. (refl, refl);
      starved = ended.1.1;
      reported = λ e. (let bad : true ≡ false = sym way ∙ ap is_of_calls e in cc bad);
    })

-- a machine that ends after what was done
pub matches_after : (d : MachineDeeds) {done : MachineDeeds} {c t : MachineTrace} {how : AnswerEnd} → t ≡ after_deeds doing d c → MatchesAnswer c how done → MatchesAnswer t how (doing.joined d done)
matches_after d {done} {t} {how} is m = subst (λ (x : MachineTrace). MatchesAnswer x how (doing.joined d done)) (sym is) (record {
  undone = m.undone;
  all = ap (λ (e : MachineDeeds). doing.joined d e) m.all ∙ sym (deeds_on d done m.undone);
  whole = m.whole;
  acted = m.acted;
  starved = m.starved;
  reported = m.reported;
})
