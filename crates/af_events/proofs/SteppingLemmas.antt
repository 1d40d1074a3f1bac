-- The steps of a client in a job for a time, by the trace of the tool.
use Rattle.std.proofs.Common.{◌≡◌, ◌<◌, ◌+◌, ◌-◌, ◌==◌, ◌⊎◌, ℕ, zero, suc, Bool, true, false, List, [], ◌∷◌, ◌++◌, drop, slice_get, sym, subst, ap, ◌∙◌, refl, arith, append-nil, append_assoc, Result, Ok, Err, Option, Some, inl, inr, if◌then◌else◌}
use Rattle.std.specs.Prelude.{IsOk, length, option_map, unwrap_or}
use Rattle.std.proofs.lemmas.Bool.{ne_eqb}
use Rattle.std.proofs.lemmas.Bool.Decides.{nat_tests}
use Rattle.af_time.specs.declared.DevTime.{DevTime}
use Rattle.af_wire.specs.declared.event.Event.{Event}
use Rattle.af_request.specs.Asked.{record_run}
use Rattle.af_lib.specs.declared.fault.ConnFault.{ConnFault}
use Rattle.af_lib.specs.declared.fault.ConnFault.TheVariants as fault
use Rattle.af_lib.specs.Calls.{as_recorded, event_of}
use Rattle.af_toolkit.specs.Parts.{Outcome, after_deeds, answered, followed, goes_on, outcome}
use Rattle.af_toolkit.specs.Trace.{ClientState}
use Rattle.af_toolkit.specs.ToolParts.{ToolDeeds, ToolPart, asks, deeds, doing}
use Rattle.af_events.specs.declared.job.EventsJob.{EventsJob}
use Rattle.af_events.specs.declared.span.Span.{Span}
use Rattle.af_events.specs.Lines.{is_asked, line_for, lines_for}
use Rattle.af_events.specs.Spans.{frame_time, frames_of, is_at_end, is_over}
use Rattle.af_events.specs.Timed.{AreSteps, IsTimeOver, Place, Step, events_among, handed, waited}
use Rattle.af_events.specs.Told.{number_asked}
use Rattle.af_events.specs.Trace.{after_event, awaits_event, count_of, hears_frame, keeps_every, left_after, next_event, tells_during, tells_kept, tells_oldest, tells_ring, tells_until}
use Rattle.af_events.proofs.DuringLemmas.{after_kept, after_ring, kept_line}

abbrev Ended : Type 0 → Type 0
Ended X = Outcome ToolDeeds (X × ClientState) ConnFault

-- a part that writes nothing, before another
pub output_then : {X Y : Type 0} (did : ToolDeeds) (end : Result (X × ClientState) ConnFault) (next : X × ClientState → Ended Y) → did.output ≡ [] → ((v : X × ClientState) → (next v).did.output ≡ []) → (followed doing did end next).did.output ≡ []
output_then did (Ok v) next first more = ap (λ (l : List ℕ). l ++ (next v).did.output) first ∙ more v
output_then did (Err f) next first more = first

-- an event that is asked for is one of those that are left
pub counted : (job : EventsJob) (left : ℕ) (e : Event) → 0 < left → (if is_asked job e then 1 else 0) + left_after job left e ≡ left
counted job left e some = elim (is_asked job e) as (λ b. (if b then 1 else 0) + (if b then left - 1 else left) ≡ left) [ true ↦ omega (arith, some) | false ↦ omega (arith, some) ]

abbrev at : ClientState → (told number : ℕ) → Place
at w told number = record { client = w; told = told; number = number }

-- the steps from a place on, of which so many events are told if it is done
pub record Stepping (span : Span) (start : ℕ) (job : EventsJob) (p : Place) (left : ℕ) (o : Ended (Unit {0})) : Type 0 where
  pub steps : List Step
  pub last : Place
  pub came : AreSteps span start p steps last
  pub wrote : o.did.output ≡ lines_for job (events_among steps)
  pub done : IsOk o.end → (number_asked job (events_among steps) ≡ left) ⊎ IsTimeOver span start last

-- all that a client keeps is told, or as much as is left to be told
abbrev IsDrained : (more : ℕ) → ClientState → Type 0
IsDrained more there = (more ≡ 0) ⊎ ((0 < more) × (there.ring.events ≡ []))

module _ (span : Span) (start : ℕ) (job : EventsJob) where
  -- no step any more
  no_step : (p : Place) (left : ℕ) (f : ConnFault) → Stepping span start job p left (outcome (deeds [] []) (Err f))
  no_step p left f = record { steps = []; last = p; came = refl; wrote = refl; done = λ ok. cc ok }

  -- events that are kept are told, and whatever follows
  record Drained (told number : ℕ) (w : ClientState) (left : ℕ) (o : Ended ℕ) : Type 0 where
    pub more : ℕ
    pub there : ClientState
    pub is : o.end ≡ Ok (more, there)
    pub kept : there.ring.lost ≡ 0
    pub rest : IsDrained more there
    pub on : (p : Ended (Unit {0})) → Stepping span start job (at there told number) more p → Stepping span start job (at w told number) left (after_deeds doing o.did p)

  module _ (told number : ℕ) where
    -- none is kept, or none is left to be told
    none_kept : (w : ClientState) (left : ℕ) → w.ring.lost ≡ 0 → IsDrained left w → Drained told number w left (outcome (deeds [] []) (Ok (left, w)))
    none_kept w left kept rest = record { more = left; there = w; is = refl; kept = kept; rest = rest; on = λ p t. record { steps = t.steps; last = t.last; came = t.came; wrote = t.wrote; done = t.done } }

    -- an event, and those after it
    one_kept : (w : ClientState) (e : Event) (more left : ℕ) (o : Ended ℕ) → w.ring.lost ≡ 0 → slice_get w.ring.events 0 ≡ Some e → (if is_asked job e then 1 else 0) + more ≡ left → Drained told number (after_event w) more o →
        Drained told number w left (after_deeds doing (deeds [] []) (after_deeds doing (deeds [] (line_for job e ++ [])) o))
    one_kept w e more left o kept first count d = record {
      more = d.more;
      there = d.there;
      is = d.is;
      kept = d.kept;
      rest = d.rest;
      on = λ p t.
          let s = d.on p t in
          record {
            steps = handed e ∷ s.steps;
            last = s.last;
            came = (kept, first, s.came);
            wrote = append_assoc (line_for job e ++ []) o.did.output p.did.output ∙ ap (λ (l : List ℕ). l ++ (o.did.output ++ p.did.output)) (append-nil (line_for job e)) ∙ ap (λ (l : List ℕ). line_for job e ++ l) s.wrote;
            done = λ ok. elim (s.done ok) [
              | inl all ↦ inl (ap (λ (n : ℕ). (if is_asked job e then 1 else 0) + n) all ∙ count)
              | inr over ↦ inr over
            ];
          };
    }

    by_line : (n more : ℕ) (w : ClientState) → w.ring.lost ≡ 0 → (b : Bool) → (more == 0) ≡ b → (0 < more → Drained told number w more (tells_oldest n job more w)) → Drained told number w more (kept_line n job more w)
    by_line n more w kept true is later =
        let none : more ≡ 0 = grind (arith, nat_tests, is) in
        rw none (none_kept w 0 kept (inl refl))
    by_line n more w kept false is later =
        let some : 0 < more = grind (arith, nat_tests, is) in
        rw is (later some)

    by_oldest : (n left : ℕ) (w : ClientState) (e : Event) → 0 < left → w.ring.lost ≡ 0 → slice_get w.ring.events 0 ≡ Some e → (r : Result Event ConnFault) → r ≡ Ok e → ((more : ℕ) → 0 < more → Drained told number (after_event w) more (tells_oldest n job more (after_event w))) →
        Drained told number w left (followed doing (deeds [] []) (answered r (after_event w)) (λ y. after_kept n job left y.0 y.1))
    unfolding goes_on
    by_oldest n left w e some kept first r is later = rw is (
        let more = left_after job left e in
        one_kept w e more left (kept_line n job more (after_event w)) kept first (counted job left e some) (by_line n more (after_event w) kept (more == 0) refl (later more)))

    drained : (events : List Event) (left : ℕ) (w : ClientState) → w.ring.events ≡ events → w.ring.lost ≡ 0 → 0 < left → Drained told number w left (tells_oldest (length events) job left w)
    unfolding tells_oldest goes_on awaits_event
    drained [] left w is kept some = none_kept w left kept (inr (some, is))
    drained (e ∷ events) left w is kept some =
        let first : slice_get w.ring.events 0 ≡ Some e = ap (λ (l : List Event). slice_get l 0) is in
        let next : next_event w ≡ Ok e = ap (λ (o : Option Event). unwrap_or (option_map (λ (x : Event). (let r : Result Event ConnFault = Ok x in r)) o) (event_of w.order w.input)) first in
        by_oldest (length events) left w e some kept first (next_event w) next (λ more any. drained events more (after_event w) (ap (λ (l : List Event). drop 1 l) is) kept any)

    -- what came is told if none was lost, and then the tool goes on
    by_lost : (next : ℕ → ToolPart (Unit {0})) (left : ℕ) (w : ClientState) → 0 < left → (b : Bool) → (w.ring.lost == 0) ≡ b → ((v : ClientState) (more : ℕ) → v.ring.lost ≡ 0 → IsDrained more v → Stepping span start job (at v told number) more (next more v)) →
        Stepping span start job (at w told number) left (goes_on doing (tells_ring job left) next w)
    unfolding goes_on keeps_every tells_kept
    by_lost next left w some true is later =
        let none : w.ring.lost ≡ 0 = grind (arith, nat_tests, is) in
        let d = drained w.ring.events left w refl none some in
        let o : Ended ℕ = tells_oldest (length w.ring.events) job left w in
        rw is (subst (λ (r : Result (ℕ × ClientState) ConnFault). Stepping span start job (at w told number) left (followed doing o.did r (λ y. next y.0 y.1))) (sym d.is) (d.on (next d.more d.there) (later d.there d.more d.kept d.rest)))
    by_lost next left w some false is later = rw is (no_step (at w told number) left fault.EventFlood)

    ring_steps : (next : ℕ → ToolPart (Unit {0})) (left : ℕ) (w : ClientState) → 0 < left → ((v : ClientState) (more : ℕ) → v.ring.lost ≡ 0 → IsDrained more v → Stepping span start job (at v told number) more (next more v)) →
        Stepping span start job (at w told number) left (goes_on doing (tells_ring job left) next w)
    ring_steps next left w some later = by_lost next left w some (w.ring.lost == 0) refl later

    -- the tool is done: none is left to be told, or the time is over
    ends_here : (more : ℕ) (w : ClientState) → w.ring.lost ≡ 0 → IsDrained more w → (0 < more → (is_over span start told ≡ true) ⊎ (number ≡ frames_of span + 1)) → Stepping span start job (at w told number) more (outcome (deeds [] []) (Ok (tt, w)))
    ends_here more w kept rest over = record {
      steps = [];
      last = at w told number;
      came = refl;
      wrote = refl;
      done = λ ok. elim rest [
        | inl none ↦ inl (sym none)
        | inr some ↦ inr (record { all = some.1; kept = kept; over = over some.0 })
      ];
    }

    -- a frame is waited for, of which nothing is written
    hears_silent : (v : ClientState) → (hears_frame span.channels (frame_time span start number) v).did.output ≡ []
    unfolding hears_frame goes_on asks
    hears_silent v = output_then (asks (record_run true 1 (frame_time span start number) span.channels) (as_recorded true span.channels) v).did (asks (record_run true 1 (frame_time span start number) span.channels) (as_recorded true span.channels) v).end _ refl (λ y. refl)

    by_frame : (n more : ℕ) (v : ClientState) (did : ToolDeeds) → did.output ≡ [] → v.ring.lost ≡ 0 → v.ring.events ≡ [] → is_over span start told ≡ false → suc n + number ≡ frames_of span + 1 →
        (end : Result (DevTime × ClientState) ConnFault) → (hears_frame span.channels (frame_time span start number) v).end ≡ end → ((now : ℕ) (u : ClientState) → Stepping span start job (at u now (number + 1)) more (tells_until n span start job (number + 1) now more u)) →
        Stepping span start job (at v told number) more (followed doing did end (λ y. tells_until n span start job (number + 1) y.0.0 more y.1))
    by_frame n more v did silent kept all early left (Ok y) is later =
        let t = later y.0.0 y.1 in
        record {
          steps = waited ∷ t.steps;
          last = t.last;
          came = (kept, at y.1 y.0.0 (number + 1), record { all = all; early = early; one_left = omega (arith, left); answered = is; next = refl }, t.came);
          wrote = ap (λ (l : List ℕ). l ++ (tells_until n span start job (number + 1) y.0.0 more y.1).did.output) silent ∙ t.wrote;
          done = t.done;
        }
    by_frame n more v did silent kept all early left (Err f) is later = record { steps = []; last = at v told number; came = refl; wrote = silent; done = λ ok. cc ok }

    -- while some are left to be told, only the time ends it
    by_time : (more : ℕ) → 0 < more → is_at_end span start told more ≡ is_over span start told
    by_time more some = rw (ne_eqb more 0 (λ same. omega (arith, some, same))) refl

    by_end : (n more : ℕ) (v : ClientState) → v.ring.lost ≡ 0 → IsDrained more v → suc n + number ≡ frames_of span + 1 → ((now : ℕ) (u : ClientState) → 0 < more → Stepping span start job (at u now (number + 1)) more (tells_until n span start job (number + 1) now more u)) →
        (b : Bool) → is_at_end span start told more ≡ b → Stepping span start job (at v told number) more (after_ring n span start job number told more v)
    unfolding goes_on
    by_end n more v kept rest left later true is = rw is (ends_here more v kept rest (λ some. inl (sym (by_time more some) ∙ is)))
    by_end n more v kept (inl none) left later false is = absurd (let bad : true ≡ false = ap (λ (k : ℕ). is_at_end span start told k) (sym none) ∙ is in cc bad)
    by_end n more v kept (inr some) left later false is =
        rw is (by_frame n more v _ (hears_silent v) kept some.1 (sym (by_time more some.0) ∙ is) left _ refl (λ now u. later now u some.0))

  stepping : (n number told left : ℕ) (w : ClientState) → 0 < left → n + number ≡ frames_of span + 1 → Stepping span start job (at w told number) left (tells_until n span start job number told left w)
  unfolding tells_until
  stepping zero number told left w some all = ring_steps told number (λ _. _) left w some (λ v more kept rest. ends_here told number more v kept rest (λ any. inr (let none : number ≡ frames_of span + 1 = omega (arith, all) in none)))
  stepping (suc n) number told left w some all =
      ring_steps told number (after_ring n span start job number told) left w some (λ v more kept rest. by_end told number n more v kept rest all (λ now u any. stepping n (number + 1) now more u any (omega (arith, all))) (is_at_end span start told more) refl)

-- from the first reply on
pub stepping_from : (span : Span) (start : ℕ) (job : EventsJob) (w : ClientState) → 0 < count_of job → Stepping span start job (at w start 1) (count_of job) (tells_during span start job w)
stepping_from span start job w some = stepping span start job (frames_of span) 1 start (count_of job) w some refl
