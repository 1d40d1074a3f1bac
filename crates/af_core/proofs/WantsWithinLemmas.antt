-- Bounds on the numbers of links that are to be read, written or closed. The others have no part in a turn.
use Rattle.std.proofs.Common.{◌≡◌, ◌≢◌, ℕ, zero, suc, ◌≤◌, ◌<◌, ◌+◌, ◌-◌, ◌||◌, max, nat_lt, replicate, inl, inr, Bool, true, false, List, [], ◌∷◌, get_or, length, map, slice_get, slice_set, option_and_then, is_some, refl, sym, ap, ◌∙◌, subst, arith}
use Rattle.std.proofs.lemmas.Bool.{cases_lt, le-ltb, lt-ltb}
use Rattle.std.proofs.Math.Bool.{or-true}
use Rattle.std.specs.declared.option.Option.{Option}
use Rattle.std.specs.declared.option.Option.TheVariants.{None, Some}
use Rattle.af_limits.specs.Limits.{most_links}
use Rattle.af_world.specs.declared.happening.Wake.{Wake}
use Rattle.af_world.specs.declared.happening.Wake.TheVariants.{Opened, Readable, Writable}
use Rattle.af_world.specs.declared.happening.Why.{Why}
use Rattle.af_world.specs.Log.{Log}
use Rattle.af_model.specs.State.{LinkState}
use Rattle.af_model.specs.More.{any_wants, open_wants}
use Rattle.af_model.specs.Turn.{accept, close_due, fits, is_open_at, serve_all, serve_from, serve_slot_link, wake_phase, wants_read, wants_write}
use Rattle.af_model.proofs.ListLemmas.{get-set_other}
use Rattle.af_model.proofs.OpenLinkLemmas.{open_after}
use Rattle.af_model.proofs.SlotLemmas.{some_link}
use Rattle.af_state.specs.Deferrals.{KeptDeferral, has_waiting, deferral_after_frames}
use Rattle.af_state.proofs.DeferralLemmas.{passed_waiting}
use Rattle.af_state.specs.SharedState.{KeptSharedState}
use Rattle.af_core.specs.declared.wanting_span.WantingSpan.{WantingSpan}
use Rattle.af_core.specs.Simulates.{Simulates}
use Rattle.af_core.specs.Stands.{AreBounds, AreExact, IsBetweenPhases, Kept, NoneOpenFrom, StandsFor, StandsForSlot, WakesOnly, WantTheSame, WantsWithin, bounds_after, bounds_of_all, bounds_with, kept_of, open_below_after, outline_of, wants_at}
use Rattle.af_core.proofs.LinkPhaseLemmas.{all_served, closes_nothing, door_serves, link_here, none_served, one_served, reads_nothing, serves, writes_nothing}
use Rattle.af_core.proofs.OpenBelowLemmas.{closed_here, closed_serves, kept_opens, none_open_starts, none_open_woken, wake_opens, woken_within}
use Rattle.af_core.proofs.SimulationLemmas.{simulates_more}

link_in : (o : Option (Option LinkState)) → option_and_then (λ link. link) o ≡ some_link o
link_in None = refl
link_in (Some link) = refl

-- a link that is not open wants nothing
pub closed_wants : (n : ℕ) (ks : List KeptDeferral) (links : List (Option LinkState)) → NoneOpenFrom n links → (k : ℕ) → n ≤ k → wants_at ks links k ≡ false
closed_wants n ks links none k from = ap (open_wants (has_waiting ks k)) (link_in (slice_get links k) ∙ closed_here links k (none k from))

-- what a link wants does not change by another one
pub others_same : (ks ks' : List KeptDeferral) (links : List (Option LinkState)) (k : ℕ) (link : Option LinkState) → ((j : ℕ) → j ≢ k → has_waiting ks' j ≡ has_waiting ks j) →
    (j : ℕ) → j ≢ k → wants_at ks' (slice_set links k link) j ≡ wants_at ks links j
others_same ks ks' links k link others j apart =
    ap (λ b. open_wants b (option_and_then (λ l. l) (slice_get (slice_set links k link) j))) (others j apart)
    ∙ ap (λ (o : Option (Option LinkState)). open_wants (has_waiting ks j) (option_and_then (λ l. l) o)) (get-set_other links k j link apart)

-- nothing does that is about how long requests are deferred still
pub passed_wants : (d n : ℕ) (ks ks' : List KeptDeferral) (links links' : List (Option LinkState)) → ks' ≡ map (deferral_after_frames d n) ks → links' ≡ links →
    WantTheSame ks links ks' links'
passed_wants d n ks ks' links links' passed same j =
    subst (λ qs. wants_at qs links' j ≡ wants_at ks links j) (sym passed)
    (subst (λ (ls : List (Option LinkState)). wants_at (map (deferral_after_frames d n) ks) ls j ≡ wants_at ks links j) (sym same)
    (ap (λ b. open_wants b (option_and_then (λ link. link) (slice_get links j))) (passed_waiting d n ks j)))

-- a link among these numbers changes
pub within_set : (from below k : ℕ) (ks ks' : List KeptDeferral) (links : List (Option LinkState)) (link : Option LinkState) → from ≤ k → k < below →
    ((j : ℕ) → j ≢ k → has_waiting ks' j ≡ has_waiting ks j) → WantsWithin from below ks links → WantsWithin from below ks' (slice_set links k link)
within_set from below k ks ks' links link low high others h = record {
  before = λ j less. others_same ks ks' links k link others j (λ same. absurd (omega (arith, same, less, low))) ∙ h.before j less;
  after = λ j more. others_same ks ks' links k link others j (λ same. absurd (omega (arith, same, more, high))) ∙ h.after j more;
}

-- A link that wants nothing takes nothing off a log

neither : (a b : Bool) → (a || b) ≡ false → (a ≡ false) × (b ≡ false)
neither true b e = absurd cc
neither false b e = (refl, e)

no_cause : (o : Option Why) → is_some o ≡ false → o ≡ None
no_cause None e = refl
no_cause (Some why) e = absurd cc

quiet_serves : (t : Option Log) (k : ℕ) (env : KeptSharedState) (link : Option LinkState) → open_wants (has_waiting env.waits k) link ≡ false →
    Simulates t t (StandsForSlot env link) (StandsForSlot env link) (serve_slot_link k) accept
quiet_serves t k env None quiet = closed_serves t k env
quiet_serves t k env (Some l) quiet =
    let reads = neither (wants_read (has_waiting env.waits k) l) (wants_write l || is_some (close_due l)) quiet in
    let writes = neither (wants_write l) (is_some (close_due l)) reads.1 in
    door_serves t t k env env l (Some l)
    (serves t t t t k env env env l l l (Some l) (reads_nothing t k env l reads.0) (writes_nothing t k env l writes.0) (closes_nothing t k env l (no_cause (close_due l) writes.1)))

set_same : (links : List (Option LinkState)) (k : ℕ) → slice_set links k (some_link (slice_get links k)) ≡ links
set_same [] k = refl
set_same (x ∷ links) zero = refl
set_same (x ∷ links) (suc k) = ap (λ ls. x ∷ ls) (set_same links k)

quiet_served : (t : Option Log) (n k : ℕ) (kept : Kept) → wants_at kept.waits kept.links k ≡ false → Simulates t t (StandsFor kept) (StandsFor kept) (serve_from (suc n) k) (serve_from n (k + 1))
quiet_served t n k kept quiet =
    let env : KeptSharedState = record { devices = kept.devices; waits = kept.waits } in
    let link : Option LinkState = some_link (slice_get kept.links k) in
    subst (λ (ls : List (Option LinkState)). Simulates t t (StandsFor kept) (StandsFor (kept_of env ls)) (serve_from (suc n) k) (serve_from n (k + 1))) (set_same kept.links k)
    (one_served t t n k env env kept.links link link refl (quiet_serves t k env link (sym (ap (open_wants (has_waiting kept.waits k)) (link_in (slice_get kept.links k))) ∙ quiet)))

-- the first links want nothing
first_quiet : (t : Option Log) (m k : ℕ) (kept : Kept) → ((j : ℕ) → j < k → wants_at kept.waits kept.links j ≡ false) → Simulates t t (StandsFor kept) (StandsFor kept) (serve_from (k + m) 0) (serve_from m k)
first_quiet t m zero kept quiet = none_served t (0 + m) m kept (omega arith)
first_quiet t m (suc k) kept quiet =
    let longer : k + suc m ≡ suc k + m = omega arith in
    let next : k + 1 ≡ suc k = omega arith in
    subst (λ n. Simulates t t (StandsFor kept) (StandsFor kept) (serve_from n 0) (serve_from m (suc k))) longer
    (subst (λ n. Simulates t t (StandsFor kept) (StandsFor kept) (serve_from (k + suc m) 0) (serve_from m n)) next
    (simulates_more (first_quiet t (suc m) k kept (λ j less. quiet j (omega (arith, less)))) (quiet_served t m k kept (quiet k (omega arith)))))

pub before_quiet : (t : Option Log) (count k : ℕ) (kept : Kept) → k ≤ count → ((j : ℕ) → j < k → wants_at kept.waits kept.links j ≡ false) → Simulates t t (StandsFor kept) (StandsFor kept) (serve_from count 0) (serve_from (count - k) k)
before_quiet t count k kept few quiet =
    let all : k + (count - k) ≡ count = omega (arith, few) in
    subst (λ n. Simulates t t (StandsFor kept) (StandsFor kept) (serve_from n 0) (serve_from (count - k) k)) all (first_quiet t (count - k) k kept quiet)

-- and the last ones
pub rest_quiet : (a b : Option Log) (n k : ℕ) (kept kept' : Kept) → ((j : ℕ) → k ≤ j → wants_at kept'.waits kept'.links j ≡ false) → Simulates a b (StandsFor kept) (StandsFor kept') (serve_from (length kept.links) 0) (serve_from n k) →
    Simulates a b (StandsFor kept) (StandsFor kept') serve_all accept
rest_quiet a b zero k kept kept' quiet d = all_served a b 0 k kept kept' refl d
rest_quiet a b (suc n) k kept kept' quiet d =
    rest_quiet a b n (k + 1) kept kept' (λ j from. quiet j (omega (arith, from))) (simulates_more d (quiet_served b n k kept' (quiet k (omega arith))))

-- After a wake

-- an open link is below the number below which all are
opens_below : (n k : ℕ) (links : List (Option LinkState)) → NoneOpenFrom n links → is_open_at (slice_get (map {A = Option LinkState} {B = Bool} is_some links) k) ≡ true → k < n
opens_below n k links none is = elim (cases_lt k n) [
  | inl less ↦ less
  | inr more ↦ let closed = none k more in absurd cc
]

with_wants : (k : ℕ) (b : WantingSpan) (ks ks' : List KeptDeferral) (links links' : List (Option LinkState)) → ((j : ℕ) → j ≢ k → wants_at ks' links' j ≡ wants_at ks links j) →
    WantsWithin b.wants_from b.wants_below ks links → WantsWithin (bounds_with k b).wants_from (bounds_with k b).wants_below ks' links'
with_wants k b ks ks' links links' only h = record {
  before = λ j less. only j (λ same. absurd (omega (arith, same, less))) ∙ h.before j (omega (arith, less));
  after = λ j more. only j (λ same. absurd (omega (arith, same, more))) ∙ h.after j (omega (arith, more));
}

all_wants : (n : ℕ) (ks : List KeptDeferral) (links : List (Option LinkState)) → NoneOpenFrom n links → WantsWithin 0 n ks links
all_wants n ks links none = record { before = λ j less. absurd (omega (arith, less)); after = λ j more. closed_wants n ks links none j more }

pub all_bounds : (b : WantingSpan) (ks : List KeptDeferral) (links : List (Option LinkState)) → b.open_below ≤ most_links → NoneOpenFrom b.open_below links → AreBounds (bounds_of_all b) ks links
all_bounds b ks links most none = record { most = most; none_open = none; from = omega arith; within = omega arith; wants = all_wants b.open_below ks links none }

-- where each link wants what it wanted
same_bounds : (b : WantingSpan) (ks ks' : List KeptDeferral) (links links' : List (Option LinkState)) → AreBounds b ks links → WantTheSame ks links ks' links' →
    NoneOpenFrom b.open_below links' → AreBounds b ks' links'
same_bounds b ks ks' links links' h same none = record {
  most = h.most;
  none_open = none;
  from = h.from;
  within = h.within;
  wants = record { before = λ j less. same j ∙ h.wants.before j less; after = λ j more. same j ∙ h.wants.after j more };
}

-- where one link may want something else
one_bounds : (k : ℕ) (b : WantingSpan) (open_below : ℕ) (kept : Kept) (ks' : List KeptDeferral) (links' : List (Option LinkState)) → AreBounds b kept.waits kept.links →
    ((j : ℕ) → j ≢ k → wants_at ks' links' j ≡ wants_at kept.waits kept.links j) → open_below ≤ most_links → NoneOpenFrom open_below links' → b.wants_below ≤ open_below → k < open_below →
    AreBounds (bounds_with k (record b { open_below = open_below })) ks' links'
one_bounds k b open_below kept ks' links' h only most none within here = record {
  most = most;
  none_open = none;
  from = let low = h.from in omega (arith, low);
  within = omega (arith, within, here);
  wants = with_wants k b kept.waits ks' kept.links links' only h.wants;
}

pub woken_bounds : (wake : Wake) (b : WantingSpan) (kept : Kept) (ks' : List KeptDeferral) (links' : List (Option LinkState)) → fits (outline_of kept) wake ≡ true → AreBounds b kept.waits kept.links →
    WakesOnly wake kept.waits kept.links ks' links' → open_below_after wake b.open_below ≤ most_links → NoneOpenFrom (open_below_after wake b.open_below) links' → AreBounds (bounds_after wake b) ks' links'
woken_bounds (Opened k) b kept ks' links' fit h only most none =
    one_bounds k b (max b.open_below (k + 1)) kept ks' links' h only most none (let low = h.within in omega (arith, low)) (omega arith)
woken_bounds (Readable k) b kept ks' links' fit h only most none =
    one_bounds k b b.open_below kept ks' links' h only most none h.within (opens_below b.open_below k kept.links h.none_open fit)
woken_bounds (Writable k) b kept ks' links' fit h only most none =
    one_bounds k b b.open_below kept ks' links' h only most none h.within (opens_below b.open_below k kept.links h.none_open fit)
woken_bounds _ b kept ks' links' fit h only most none = same_bounds b kept.waits ks' kept.links links' h only none

-- Whether there is more to do

wants_here : (k n : ℕ) (f : ℕ → Bool) (links : List (Option LinkState)) → open_wants (f (k + n)) (option_and_then (λ link. link) (slice_get links n)) ≡ true → any_wants k f links ≡ true
wants_here k n f [] e = absurd cc
wants_here k zero f (x ∷ links) e =
    let same : k + 0 ≡ k = omega arith in
    ap (λ b. b || any_wants (k + 1) f links) (subst (λ i. open_wants (f i) x ≡ true) same e)
wants_here k (suc n) f (x ∷ links) e =
    let same : k + suc n ≡ k + 1 + n = omega arith in
    ap (λ b. open_wants (f k) x || b) (wants_here (k + 1) n f links (subst (λ i. open_wants (f i) (option_and_then (λ link. link) (slice_get links n)) ≡ true) same e)) ∙ or-true (open_wants (f k) x)

wants_none : (k : ℕ) (f : ℕ → Bool) (links : List (Option LinkState)) → ((n : ℕ) → open_wants (f (k + n)) (option_and_then (λ link. link) (slice_get links n)) ≡ false) → any_wants k f links ≡ false
wants_none k f [] none = refl
wants_none k f (x ∷ links) none =
    let same : k + 0 ≡ k = omega arith in
    ap (λ b. b || any_wants (k + 1) f links) (subst (λ i. open_wants (f i) x ≡ false) same (none zero))
    ∙ wants_none (k + 1) f links (λ n. let next : k + suc n ≡ k + 1 + n = omega arith in subst (λ i. open_wants (f i) (option_and_then (λ link. link) (slice_get links n)) ≡ false) next (none (suc n)))

-- there is more to do if there is a number between the bounds, since the first is that of a link that wants something
pub some_want : (from : ℕ) (ks : List KeptDeferral) (links : List (Option LinkState)) → wants_at ks links from ≡ true → any_wants 0 (has_waiting ks) links ≡ true
some_want from ks links e =
    let same : from ≡ 0 + from = omega arith in
    wants_here 0 from (has_waiting ks) links (subst (λ i. open_wants (has_waiting ks i) (option_and_then (λ link. link) (slice_get links from)) ≡ true) same e)

pub none_want : (from below : ℕ) (ks : List KeptDeferral) (links : List (Option LinkState)) → below ≤ from → WantsWithin from below ks links → any_wants 0 (has_waiting ks) links ≡ false
none_want from below ks links empty h = wants_none 0 (has_waiting ks) links (λ n.
    let same : n ≡ 0 + n = omega arith in
    subst (λ i. open_wants (has_waiting ks i) (option_and_then (λ link. link) (slice_get links n)) ≡ false) same (elim (cases_lt n from) [
      | inl less ↦ h.before n less
      | inr more ↦ h.after n (omega (arith, empty, more))
    ]))

-- what the link at a number wants
pub wants_of : (ks : List KeptDeferral) (links : List (Option LinkState)) (k : ℕ) (d : Option LinkState) → k < length links → wants_at ks links k ≡ open_wants (has_waiting ks k) (get_or links k d)
wants_of ks links k d there = ap (open_wants (has_waiting ks k)) (link_in (slice_get links k) ∙ link_here links k d there)

-- a wake moves this bound whatever the others are
pub same_open : (wake : Wake) (b : WantingSpan) → (bounds_after wake b).open_below ≡ open_below_after wake b.open_below
same_open (Opened k) b = refl
same_open _ b = refl

-- if no link is open
pub starts_bounds : (b : WantingSpan) (ks : List KeptDeferral) (links : List (Option LinkState)) → b ≡ record { open_below = 0; wants_from = most_links; wants_below = 0 } → links ≡ replicate most_links None → AreBounds b ks links
starts_bounds b ks links is e = subst (λ (x : WantingSpan). AreBounds x ks links) (sym is) (record {
  most = omega arith;
  none_open = none_open_starts links e;
  from = omega arith;
  within = omega arith;
  wants = record { before = λ k less. closed_wants 0 ks links (none_open_starts links e) k (omega arith); after = λ k more. closed_wants 0 ks links (none_open_starts links e) k (omega arith) };
})

-- one more link that wants nothing, below the others or above them
pub none_down : (n below : ℕ) (ks : List KeptDeferral) (links : List (Option LinkState)) → wants_at ks links n ≡ false → ((k : ℕ) → n + 1 ≤ k → k < below → wants_at ks links k ≡ false) →
    (k : ℕ) → n ≤ k → k < below → wants_at ks links k ≡ false
none_down n below ks links here rest k low high = elim (cases_lt n k) [
  | inl less ↦ rest k (omega (arith, less)) high
  | inr more ↦ let same : n ≡ k = omega (arith, low, more) in subst (λ i. wants_at ks links i ≡ false) same here
]

pub none_up : (from n : ℕ) (ks : List KeptDeferral) (links : List (Option LinkState)) → ((k : ℕ) → from ≤ k → k < n → wants_at ks links k ≡ false) → wants_at ks links n ≡ false →
    (k : ℕ) → from ≤ k → k < n + 1 → wants_at ks links k ≡ false
none_up from n ks links rest here k low high = elim (cases_lt k n) [
  | inl less ↦ rest k low less
  | inr more ↦ let same : n ≡ k = omega (arith, high, more) in subst (λ i. wants_at ks links i ≡ false) same here
]

-- there is more to do exactly if there is a number between the bounds
pub more_is : (b : WantingSpan) (ks : List KeptDeferral) (links : List (Option LinkState)) → AreBounds b ks links → AreExact b ks links → nat_lt b.wants_from b.wants_below ≡ any_wants 0 (has_waiting ks) links
more_is b ks links h exact = elim (cases_lt b.wants_from b.wants_below) [
  | inl less ↦ lt-ltb b.wants_from b.wants_below less ∙ sym (some_want b.wants_from ks links (exact less))
  | inr more ↦ le-ltb b.wants_from b.wants_below more ∙ sym (none_want b.wants_from b.wants_below ks links more h.wants)
]

-- In a turn: no link is open from the moved bound on, and the bounds hold before the links have their parts

pub none_woken : {a a' : Option Log} (wake : Wake) (b : WantingSpan) (kept kept' : Kept) → IsBetweenPhases kept → NoneOpenFrom b.open_below kept.links → Simulates a a' (StandsFor kept) (StandsFor kept') (wake_phase wake) accept →
    NoneOpenFrom (bounds_after wake b).open_below kept'.links
none_woken wake b kept kept' between none woke =
    subst (λ n. NoneOpenFrom n kept'.links) (sym (same_open wake b))
    (none_open_woken wake b.open_below kept.links kept'.links (kept_opens kept kept' (wake_phase wake) (λ w. open_after w wake) (wake_opens wake) between.stands woke) none)

pub known_woken : {a a' : Option Log} (wake : Wake) (all : Bool) (b b' : WantingSpan) (kept kept' : Kept) → fits (outline_of kept) wake ≡ true → IsBetweenPhases kept → AreBounds b kept.waits kept.links →
    (all ≡ false → WakesOnly wake kept.waits kept.links kept'.waits kept'.links) → IsBetweenPhases kept' → Simulates a a' (StandsFor kept) (StandsFor kept') (wake_phase wake) accept →
    (all ≡ false → b' ≡ bounds_after wake b) → (all ≡ true → (ks : List KeptDeferral) → (bounds_after wake b).open_below ≤ most_links → AreBounds b' ks kept'.links) →
    AreBounds b' kept'.waits kept'.links
known_woken wake true b b' kept kept' fit between h only between' woke one any =
    let size = between'.orderly.links in
    let low = woken_within wake b.open_below (open_below_after wake b.open_below) kept kept'.links refl fit h.most between.orderly.links size in
    any refl kept'.waits (subst (λ n. n ≤ most_links) (sym (same_open wake b)) (omega (arith, low, size)))
known_woken wake false b b' kept kept' fit between h only between' woke one any =
    let size = between'.orderly.links in
    let low = woken_within wake b.open_below (open_below_after wake b.open_below) kept kept'.links refl fit h.most between.orderly.links size in
    let none = subst (λ n. NoneOpenFrom n kept'.links) (same_open wake b) (none_woken wake b kept kept' between h.none_open woke) in
    subst (λ (x : WantingSpan). AreBounds x kept'.waits kept'.links) (sym (one refl))
    (woken_bounds wake b kept kept'.waits kept'.links fit h (only refl) (omega (arith, low, size)) none)
