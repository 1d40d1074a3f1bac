-- What is queued for a link: what it took, and then what waits to be sent. And what its history shows: why it is to be closed, if
-- it is.
use Rattle.std.proofs.Common.{◌≡◌, ℕ, zero, suc, ◌+◌, ◌<◌, ◌==◌, ◌||◌, Bool, true, false, not, cond, List, [], ◌∷◌, ◌++◌, length, drop, find, nat_le, replicate, slice_get, is_none, IfSome, refl, sym, ap, ◌∙◌, subst, append_assoc, arith, eqb-true}
use Rattle.std.proofs.lemmas.Bool.{or_parts}
use Rattle.std.specs.declared.option.Option.{Option}
use Rattle.std.specs.declared.option.Option.TheVariants.{None, Some}
use Rattle.af_limits.specs.Limits.{event_limit}
use Rattle.af_wire.specs.declared.event.EventKind.{EventKind}
use Rattle.af_wire.specs.declared.event.EventKind.TheVariants as kind
use Rattle.af_phone.specs.Lines.{selects}
use Rattle.af_world.specs.declared.happening.Why.{Why}
use Rattle.af_world.specs.declared.happening.Why.TheVariants as why
use Rattle.af_wait.specs.Waits.{without_first}
use Rattle.af_model.specs.State.{DeviceState, LinkState, OpenLink, SlotLink, State, Deferral, open_link, none_selected, slot_at, with_device, closing_link}
use Rattle.af_model.specs.Waiting.{has_deferral, wait}
use Rattle.af_model.specs.Events.{drop_link, mask_of, some_mask, without_waiter}
use Rattle.af_model.specs.Advance.{takes_more, without_front}
use Rattle.af_model.specs.Turn.{close_due}
use Rattle.af_model.specs.LinkHistory.{LinkHistory}
use Rattle.af_model.specs.Prefix.{is_dropped}
use Rattle.af_model.specs.Causes.{IsCause, IsServedTo}
use Rattle.af_model.proofs.BoolTestLemmas.{cond-some, none_some, same_number}
use Rattle.af_model.proofs.ListLemmas.{pushed_without}
use Rattle.af_model.proofs.InputLemmas.{IsBadInput, IsInput, input_more, input_set_up, input_taken}
use Rattle.af_model.proofs.AdvancedLemmas.{IsAdvanced, NoneAtFront, advanced_closing, are_served}
use Rattle.af_model.proofs.CauseLemmas.{IsUnended, Shows, ShowsBy, cause_alike, no_room, owed_at_close, shows_at_close, shows_bad, shows_owed, shows_taken}
use Rattle.af_model.proofs.DeviceHistoryLemmas.{AllLive, all_live}
use Rattle.af_model.proofs.SafeLemmas.{SafeIn, safe_dropped, safe_keeps}
use Rattle.af_model.proofs.LinkInvariantLemmas.{Keeps, environment_keeps, open_undropped}
use Rattle.af_model.proofs.PendingLemmas.{RoomOf, room_dropped}

pub not_both : {A : Type 0} (t : Bool) → t ≡ false → t ≡ true → A
not_both true e f = absurd cc
not_both false e f = absurd cc

-- The deferred requests

waits_any : (ws : List Deferral) (k : ℕ) (w : Deferral) → has_deferral (w ∷ ws) k ≡ false → ((w.link == k) ≡ false) × (has_deferral ws k ≡ false)
waits_any ws k w e = or_parts (w.link == k) (has_deferral ws k) e

waits_none : (ws : List Deferral) (k : ℕ) (w : Deferral) → (w.link == k) ≡ false → has_deferral ws k ≡ false → has_deferral (w ∷ ws) k ≡ false
waits_none ws k w a b = ap (λ t. t || has_deferral ws k) a ∙ b

-- one of the deferred requests leaves
pub waits_left : (passes : Deferral → Bool) (ws : List Deferral) (k : ℕ) → has_deferral ws k ≡ false → has_deferral (without_first passes ws) k ≡ false
waits_left passes [] k h = refl
waits_left passes (w ∷ ws) k h =
    let i = waits_any ws k w h in
    elim (passes w) as (λ t. has_deferral (cond t ws (w ∷ without_first passes ws)) k ≡ false) [ true ↦ i.1 | false ↦ waits_none (without_first passes ws) k w i.0 (waits_left passes ws k i.1) ]

-- a link leaves the list, and then it has no deferred request
pub dropped_waits : (k : ℕ) (ws : List Deferral) → has_deferral (without_waiter k ws) k ≡ false
dropped_waits k [] = refl
dropped_waits k (w ∷ ws) =
    elim (w.link == k) as (λ t. (w.link == k) ≡ t → has_deferral (cond (not t) (w ∷ without_waiter k ws) (without_waiter k ws)) k ≡ false) [
      | true ↦ λ e. dropped_waits k ws
      | false ↦ λ e. waits_none (without_waiter k ws) k w e (dropped_waits k ws)
    ] refl

-- the other deferred requests are the same, in their order, if those of a link have left before
pub own_left : (ws : List Deferral) (k : ℕ) → without_waiter k (without_waiter k ws) ≡ without_waiter k ws
own_left [] k = refl
own_left (w ∷ ws) k =
    elim (w.link == k) as (λ t. (w.link == k) ≡ t → without_waiter k (cond (not t) (w ∷ without_waiter k ws) (without_waiter k ws)) ≡ cond (not t) (w ∷ without_waiter k ws) (without_waiter k ws)) [
      | true ↦ λ e. own_left ws k
      | false ↦ λ e. ap (λ t. cond (not t) (w ∷ without_waiter k (without_waiter k ws)) (without_waiter k (without_waiter k ws))) e ∙ ap (λ l. w ∷ l) (own_left ws k)
    ] refl

-- so another link's deferred request is at its place
other_waits : (ws : List Deferral) (k j : ℕ) → (k == j) ≡ false → has_deferral (without_waiter k ws) j ≡ has_deferral ws j
other_waits [] k j other = refl
other_waits (w ∷ ws) k j other =
    elim (w.link == k) as (λ t. (w.link == k) ≡ t → has_deferral (cond (not t) (w ∷ without_waiter k ws) (without_waiter k ws)) j ≡ has_deferral (w ∷ ws) j) [
      | true ↦ λ e.
          let apart : (w.link == j) ≡ false = ap (λ n. n == j) (eqb-true w.link k e) ∙ other in
          other_waits ws k j other ∙ sym (ap (λ t. t || has_deferral ws j) apart)
      | false ↦ λ e. ap (λ t. (w.link == j) || t) (other_waits ws k j other)
    ] refl

pub still_waits : (ws vs : List Deferral) (k j : ℕ) → (k == j) ≡ false → without_waiter k vs ≡ without_waiter k ws → has_deferral vs j ≡ has_deferral ws j
still_waits ws vs k j other same = sym (other_waits vs k j other) ∙ ap (λ l. has_deferral l j) same ∙ other_waits ws k j other

-- so does each but the one that leaves
pub others_left : (passes : Deferral → Bool) (ws : List Deferral) (w : Deferral) (j : ℕ) → find passes ws ≡ Some w → (w.link == j) ≡ false → has_deferral (without_first passes ws) j ≡ has_deferral ws j
others_left passes [] w j e other = absurd cc
others_left passes (v ∷ ws) w j e other =
    elim (passes v) as (λ t. cond t (Some v) (find passes ws) ≡ Some w → has_deferral (cond t ws (v ∷ without_first passes ws)) j ≡ has_deferral (v ∷ ws) j) [
      | true ↦ λ e. let same : v ≡ w = cc in sym (ap (λ t. t || has_deferral ws j) (ap (λ (u : Deferral). u.link == j) same ∙ other))
      | false ↦ λ e. ap (λ t. (v.link == j) || t) (others_left passes ws w j e other)
    ] e

-- the link of a deferred request has one
pub found_waits : (passes : Deferral → Bool) (ws : List Deferral) (w : Deferral) → find passes ws ≡ Some w → has_deferral ws w.link ≡ true
found_waits passes [] w e = absurd cc
found_waits passes (v ∷ ws) w e =
    elim (passes v) as (λ t. cond t (Some v) (find passes ws) ≡ Some w → has_deferral (v ∷ ws) w.link ≡ true) [
      | true ↦ λ e. let same : v ≡ w = cc in ap (λ (u : Deferral). u.link == w.link || has_deferral ws w.link) same ∙ ap (λ t. t || has_deferral ws w.link) (same_number w.link)
      | false ↦ λ e. later (v.link == w.link) (has_deferral ws w.link) (found_waits passes ws w e)
    ] e
  where
    later : (a b : Bool) → b ≡ true → (a || b) ≡ true
    later true b e = refl
    later false b e = e

-- A link

-- What was said is what was taken and a rest, which waits to be sent unless the link was dropped. A dropped link sends nothing
-- and has no deferred request. If a link is closing, it selects no events and its history shows the cause; else its history shows
-- nothing of an end.
pub record Owed (k : ℕ) (h : LinkHistory) (said : List ℕ) (l : LinkState) (waiting : List Deferral) : Type 0 where
  pub rest : List ℕ
  pub whole : said ≡ h.took ++ rest
  pub queued : is_dropped l.closing ≡ false → rest ≡ l.pending
  pub sends : is_dropped l.closing ≡ true → l.pending ≡ []
  pub waits : is_dropped l.closing ≡ true → has_deferral waiting k ≡ false
  pub wants : is_none l.closing ≡ false → l.selections ≡ none_selected
  pub shows : Shows h rest l
  pub unclosed : h.closed ≡ None

abbrev pub Owing : ℕ → LinkHistory → OpenLink → Type 0
Owing k h p = Owed k h p.environment.said p.link p.environment.waiting

-- The same for a number whose link may be closed: then its history shows the cause. All that can be was taken off the input of an
-- open one.
abbrev pub OwingLink : ℕ → LinkHistory → List ℕ → Option LinkState → List Deferral → Type 0
OwingLink k h said None waiting = (rest : List ℕ) × (said ≡ h.took ++ rest) × IfSome h.closed (λ cause. IsCause cause h (length rest))
OwingLink k h said (Some l) waiting = Owed k h said l waiting × IsAdvanced k l waiting

abbrev pub QueuedSlot : ℕ → LinkHistory → SlotLink → Type 0
QueuedSlot k h d = OwingLink k h d.environment.said d.link d.environment.waiting

abbrev pub OwingAt : ℕ → LinkHistory → State → Type 0
OwingAt k h s = OwingLink k h (slot_at k s).said (slot_at k s).link s.waiting

-- the deferred requests become others
pub owed_waiting : (k : ℕ) (g : LinkHistory) (said : List ℕ) (l : LinkState) (ws vs : List Deferral) → (is_dropped l.closing ≡ true → has_deferral vs k ≡ false) → Owed k g said l ws → Owed k g said l vs
owed_waiting k g said l ws vs waits h = record {
  rest = h.rest;
  whole = h.whole;
  queued = h.queued;
  sends = h.sends;
  waits = waits;
  wants = h.wants;
  shows = h.shows;
  unclosed = h.unclosed;
}

-- others wait
pub queueing_same : (k : ℕ) (g : LinkHistory) (said : List ℕ) (link : Option LinkState) (ws vs : List Deferral) → has_deferral vs k ≡ has_deferral ws k → OwingLink k g said link ws → OwingLink k g said link vs
queueing_same k g said None ws vs same h = h
queueing_same k g said (Some l) ws vs same h = (owed_waiting k g said l ws vs (λ e. same ∙ h.0.waits e) h.0, λ more. h.1 (sym (ap (λ t. takes_more t l) same) ∙ more))

-- a request leaves, and its link is not open
pub queueing_left : (passes : Deferral → Bool) (w : Deferral) (k : ℕ) (g : LinkHistory) (said : List ℕ) (link : Option LinkState) (ws : List Deferral) → find passes ws ≡ Some w → ((w.link == k) ≡ true → link ≡ None) → OwingLink k g said link ws →
    OwingLink k g said link (without_first passes ws)
queueing_left passes w k g said None ws found closed h = h
queueing_left passes w k g said (Some l) ws found closed h =
    elim (w.link == k) as (λ t. (w.link == k) ≡ t → OwingLink k g said (Some l) (without_first passes ws)) [
      | true ↦ λ own. absurd (none_some (sym (closed own)))
      | false ↦ λ other. queueing_same k g said (Some l) ws (without_first passes ws) (others_left passes ws w k found other) h
    ] refl

-- nothing has ended a link that is not closing
unended : (k : ℕ) (g : LinkHistory) (p : OpenLink) → p.link.closing ≡ None → (h : Owing k g p) → IsUnended g p.link.is_set_up p.link.order p.link.rest
unended k g p none h = subst (ShowsBy g h.rest p.link.is_set_up p.link.order p.link.rest) none h.shows

-- a link that is not closing becomes another that is not, and the same waits to be sent
becomes_unended : (k : ℕ) (g f : LinkHistory) (p : OpenLink) (l : LinkState) → f.took ≡ g.took → f.closed ≡ g.closed → p.link.closing ≡ None → l.closing ≡ None → l.pending ≡ p.link.pending → IsUnended f l.is_set_up l.order l.rest → Owing k g p →
    Owing k f (open_link p.environment l)
becomes_unended k g f p l took closed none after same input h =
    let undropped = open_undropped l.closing after in
    record {
      rest = h.rest;
      whole = h.whole ∙ ap (λ x. x ++ h.rest) (sym took);
      queued = λ e. h.queued (open_undropped p.link.closing none) ∙ sym same;
      sends = λ e. not_both (is_dropped l.closing) undropped e;
      waits = λ e. not_both (is_dropped l.closing) undropped e;
      wants = λ e. not_both (is_none l.closing) e (ap is_none after);
      shows = subst (ShowsBy f h.rest l.is_set_up l.order l.rest) (sym after) input;
      unclosed = closed ∙ h.unclosed;
    }

-- a link that is not closing becomes one that is, and was not dropped
becomes_closing : (k : ℕ) (g : LinkHistory) (p : OpenLink) (l : LinkState) (cause : Why) → p.link.closing ≡ None → l.closing ≡ Some cause → is_dropped (Some cause) ≡ false → l.pending ≡ p.link.pending → l.selections ≡ none_selected →
    ((owed : List ℕ) → ShowsBy g owed l.is_set_up l.order l.rest (Some cause)) → Owing k g p → Owing k g (open_link p.environment l)
becomes_closing k g p l cause none closes stays same unselected shows h =
    let undropped : is_dropped l.closing ≡ false = ap is_dropped closes ∙ stays in
    record {
      rest = h.rest;
      whole = h.whole;
      queued = λ e. h.queued (open_undropped p.link.closing none) ∙ sym same;
      sends = λ e. not_both (is_dropped l.closing) undropped e;
      waits = λ e. not_both (is_dropped l.closing) undropped e;
      wants = λ e. unselected;
      shows = subst (ShowsBy g h.rest l.is_set_up l.order l.rest) (sym closes) (shows h.rest);
      unclosed = h.unclosed;
    }

bad_undropped : (cause : Why) (l : LinkState) → IsBadInput cause l → is_dropped (Some cause) ≡ false
bad_undropped why.BadSetup l bad = refl
bad_undropped why.Malformed l bad = refl
bad_undropped why.Ended l bad = refl
bad_undropped cause l bad = absurd bad

pub queueing_keeps : (k : ℕ) (g : LinkHistory) → Keeps k (λ closing. is_dropped closing ≡ false) (Owing k g)
queueing_keeps k g = record {
  may = λ closing e. e;
  link = λ p l none after same rest set ordered h.
      becomes_unended k g g p l refl refl none after same (subst (λ b. IsUnended g b l.order l.rest) (sym set) (subst (λ o. IsUnended g p.link.is_set_up o l.rest) (sym ordered) (subst (IsUnended g p.link.is_set_up p.link.order) (sym rest) (unended k g p none h)))) h;
  takes = λ p n none set e asked h.
      let u = unended k g p none h in
      let served : IsServedTo p.link.order g.gave p.link.rest = subst (λ b. IsInput b p.link.order g.gave p.link.rest) set u.input in
      becomes_unended k g g p (without_front n p.link) refl refl none none refl
      (record { failed = u.failed; ended = u.ended; input = subst (λ b. IsInput b p.link.order g.gave (drop n p.link.rest)) (sym set) (input_taken p.link.order g.gave p.link.rest n e asked served) }) h;
  sets_up = λ p order none unset e h.
      let u = unended k g p none h in
      let same : p.link.rest ≡ g.gave = subst (λ b. IsInput b p.link.order g.gave p.link.rest) unset u.input in
      becomes_unended k g g p (record (without_front 8 p.link) { is_set_up = true; order = order }) refl refl none none refl (record { failed = u.failed; ended = u.ended; input = input_set_up order g.gave p.link.rest e same }) h;
  stops = λ p cause none bad h.
      becomes_closing k g p (closing_link cause p.link) cause none refl (bad_undropped cause p.link bad) refl refl (λ owed. shows_bad g owed cause p.link bad (unended k g p none h)) h;
  says = λ p bytes stays h. record {
    rest = h.rest ++ bytes;
    whole = ap (λ x. x ++ bytes) h.whole ∙ append_assoc g.took h.rest bytes;
    queued = λ e. ap (λ x. x ++ bytes) (h.queued stays);
    sends = λ e. not_both (is_dropped p.link.closing) stays e;
    waits = λ e. not_both (is_dropped p.link.closing) stays e;
    wants = h.wants;
    shows = shows_owed g h.rest (h.rest ++ bytes) p.link.is_set_up p.link.order p.link.rest p.link.closing stays h.shows;
    unclosed = h.unclosed;
  };
  becomes = λ p d device f there l h. h;
  waits = λ p d device deferred there w open' h. owed_waiting k g p.environment.said p.link p.environment.waiting (wait k d deferred p).environment.waiting (not_both (is_dropped p.link.closing) (open_undropped p.link.closing open')) h;
}

-- bytes came to a link that is not closing
pub queued_given : (k : ℕ) (g : LinkHistory) (bytes : List ℕ) (p : OpenLink) → p.link.closing ≡ None → Owing k g p →
    Owing k (record g { gave = g.gave ++ bytes }) (open_link p.environment (record p.link { rest = p.link.rest ++ bytes }))
queued_given k g bytes p none h =
    let u = unended k g p none h in
    becomes_unended k g (record g { gave = g.gave ++ bytes }) p (record p.link { rest = p.link.rest ++ bytes }) refl refl none none refl
    (record { failed = u.failed; ended = u.ended; input = input_more p.link.is_set_up p.link.order g.gave p.link.rest bytes u.input }) h

-- a link that is not closing has ended
pub queued_ended : (k : ℕ) (g : LinkHistory) (p : OpenLink) → p.link.closing ≡ None → NoneAtFront p.link.is_set_up p.link.order p.link.rest → Owing k g p →
    Owing k (record g { has_ended = true }) (open_link p.environment (closing_link why.Ended (record p.link { is_ready = false })))
queued_ended k g p none front h =
    let u = unended k g p none h in
    record {
      rest = h.rest;
      whole = h.whole;
      queued = λ e. h.queued (open_undropped p.link.closing none);
      sends = λ e. absurd cc;
      waits = λ e. absurd cc;
      wants = λ e. refl;
      shows = (u.failed, refl, refl, are_served p.link.is_set_up p.link.order g.gave p.link.rest u.input front);
      unclosed = h.unclosed;
    }

-- some of what waited is taken
pub queued_taken : (k : ℕ) (g : LinkHistory) (bytes : List ℕ) (p : OpenLink) (l : LinkState) → is_dropped p.link.closing ≡ false → l.closing ≡ p.link.closing → l.rest ≡ p.link.rest → l.is_set_up ≡ p.link.is_set_up → l.order ≡ p.link.order → l.selections ≡ p.link.selections →
    p.link.pending ≡ bytes ++ l.pending → Owing k g p → Owing k (record g { took = g.took ++ bytes }) (open_link p.environment l)
queued_taken k g bytes p l stays same input set ordered selected front h =
    let undropped : is_dropped l.closing ≡ false = ap is_dropped same ∙ stays in
    let f : LinkHistory = record g { took = g.took ++ bytes } in
    record {
      rest = l.pending;
      whole = h.whole ∙ ap (λ x. g.took ++ x) (h.queued stays ∙ front) ∙ sym (append_assoc g.took bytes l.pending);
      queued = λ e. refl;
      sends = λ e. not_both (is_dropped l.closing) undropped e;
      waits = λ e. not_both (is_dropped l.closing) undropped e;
      wants = λ e. selected ∙ h.wants (sym (ap is_none same) ∙ e);
      shows = subst (λ c. ShowsBy f l.pending l.is_set_up l.order l.rest c) (sym same) (subst (λ b. ShowsBy f l.pending b l.order l.rest p.link.closing) (sym set)
          (subst (λ o. ShowsBy f l.pending p.link.is_set_up o l.rest p.link.closing) (sym ordered)
          (subst (λ x. ShowsBy f l.pending p.link.is_set_up p.link.order x p.link.closing) (sym input) (shows_taken g bytes h.rest l.pending p.link.is_set_up p.link.order p.link.rest p.link.closing stays h.shows))));
      unclosed = h.unclosed;
    }

-- a link is dropped, and its history shows the cause
queued_dropped : (k : ℕ) (g f : LinkHistory) (cause : Why) (p : OpenLink) → is_dropped (Some cause) ≡ true → f.took ≡ g.took → f.closed ≡ g.closed → (h : Owing k g p) → IsCause cause f (length h.rest) → Owing k f (drop_link k cause p)
queued_dropped k g f cause p drops took closed h shows = record {
  rest = h.rest;
  whole = h.whole ∙ ap (λ x. x ++ h.rest) (sym took);
  queued = λ e. not_both (is_dropped (Some cause)) e drops;
  sends = λ e. refl;
  waits = λ e. dropped_waits k p.environment.waiting;
  wants = λ e. refl;
  shows = subst (λ t. IsCause cause f (owed_at_close t h.rest)) (sym drops) shows;
  unclosed = closed ∙ h.unclosed;
}

-- a link to which nothing waits to be sent is closed for its cause
pub queued_closed : (k : ℕ) (g : LinkHistory) (p : OpenLink) (cause : Why) → close_due p.link ≡ Some cause → Owing k g p → OwingLink k (record g { closed = Some cause }) p.environment.said None p.environment.waiting
queued_closed k g p cause due h =
    let i = cond-some (length p.link.pending == 0) p.link.closing cause due in
    let none : p.link.pending ≡ [] = no_bytes p.link.pending i.0 in
    let closes : p.link.closing ≡ Some cause = i.1 in
    let shows : ShowsBy g h.rest p.link.is_set_up p.link.order p.link.rest (Some cause) = subst (ShowsBy g h.rest p.link.is_set_up p.link.order p.link.rest) closes h.shows in (
      h.rest,
      h.whole,
      cause_alike cause g (record g { closed = Some cause }) (length h.rest) refl refl refl
          (shows_at_close g h.rest p.link.is_set_up p.link.order p.link.rest cause (λ stays. h.queued (ap is_dropped closes ∙ stays) ∙ none) shows),
    )
  where
    no_bytes : (xs : List ℕ) → (length xs == 0) ≡ true → xs ≡ []
    no_bytes [] e = refl
    no_bytes (x ∷ xs) e = let z : length (x ∷ xs) ≡ 0 = eqb-true (length (x ∷ xs)) 0 e in absurd (omega (arith, z))

-- a link that selects an event is not closing
none_masked : (n d : ℕ) → some_mask (slice_get (replicate n 0) d) ≡ 0
none_masked zero d = refl
none_masked (suc n) zero = refl
none_masked (suc n) (suc d) = none_masked n d

none_selects : (kind : EventKind) → selects 0 kind ≡ false
none_selects kind.Ring = refl
none_selects kind.Current = refl
none_selects kind.Digit = refl
none_selects kind.Hook = refl

pub selects_open : (k d : ℕ) (kind : EventKind) (g : LinkHistory) (p : OpenLink) → selects (mask_of p.link d) kind ≡ true → Owing k g p → p.link.closing ≡ None
selects_open k d kind g p e h =
    elim p.link.closing as (λ o. (is_none o ≡ false → p.link.selections ≡ none_selected) → o ≡ None) [
      | None ↦ λ w. refl
      | Some cause ↦ λ w.
          let none : selects (mask_of p.link d) kind ≡ false = ap (λ x. selects (some_mask (slice_get x d)) kind) (w refl) ∙ ap (λ m. selects m kind) (none_masked 8 d) ∙ none_selects kind in
          not_both (selects (mask_of p.link d) kind) none e
    ] h.wants

-- a link with a deferred request was not dropped
pub waiting_undropped : (k : ℕ) (g : LinkHistory) (said : List ℕ) (l : LinkState) (ws : List Deferral) → has_deferral ws k ≡ true → Owed k g said l ws → is_dropped l.closing ≡ false
waiting_undropped k g said l ws e h =
    elim (is_dropped l.closing) as (λ t. (t ≡ true → has_deferral ws k ≡ false) → t ≡ false) [
      | true ↦ λ w. not_both (has_deferral ws k) (w refl) e
      | false ↦ λ w. refl
    ] h.waits

-- a link that sends was not dropped
pub sending_undropped : (k : ℕ) (g : LinkHistory) (said : List ℕ) (l : LinkState) (ws : List Deferral) → not (length l.pending == 0) ≡ true → Owed k g said l ws → is_dropped l.closing ≡ false
sending_undropped k g said l ws e h =
    elim (is_dropped l.closing) as (λ t. (t ≡ true → l.pending ≡ []) → t ≡ false) [
      | true ↦ λ w. let none : not (length l.pending == 0) ≡ false = ap (λ x. not (length x == 0)) (w refl) in not_both (not (length l.pending == 0)) none e
      | false ↦ λ w. refl
    ] h.sends

-- Devices, and the other deferred requests

pub grows_keeps : (k : ℕ) (ds : List DeviceState) → Keeps k (λ closing. Unit {0}) (λ p. AllLive ds p.environment.devices)
grows_keeps k ds =
    environment_keeps k (λ es ws. AllLive ds es)
    (λ es ws d device f there l h. all_live.follow ds es (with_device d f es) h (all_live.change d f es (λ x is. (l x is).lives)))
    (λ es ws d deferred w h. h)

-- the other deferred requests are the same, in their order
abbrev pub SameOthers : ℕ → List Deferral → List Deferral → Type 0
SameOthers k ws vs = without_waiter k vs ≡ without_waiter k ws

pub others_keep : (k : ℕ) (ws : List Deferral) → Keeps k (λ closing. Unit {0}) (λ p. SameOthers k ws p.environment.waiting)
others_keep k ws =
    environment_keeps k (λ ds vs. SameOthers k ws vs) (λ ds vs d device f there l h. h)
    (λ ds vs d deferred w h. pushed_without (λ (w : Deferral). w.link) k vs (record { link = k; device = d; deferred = deferred }) refl ∙ h)

-- How a link and its environment change, if nothing is taken: devices become later; what is queued for it stays so, as its
-- history becomes another, and within its room; if all that can be was taken off its input, it still was; and the deferred
-- requests of others stay.
pub record MovedBy (j : ℕ) (note : LinkHistory → LinkHistory) (p q : OpenLink) : Type 0 where
  pub devices : AllLive p.environment.devices q.environment.devices
  pub own : (g : LinkHistory) → Owing j g p → Owing j (note g) q
  pub advanced : IsAdvanced j p.link p.environment.waiting → IsAdvanced j q.link q.environment.waiting
  pub others : SameOthers j p.environment.waiting q.environment.waiting
  pub safe : SafeIn 0 0 p.environment → SafeIn 0 0 q.environment
  pub room : RoomOf j p → RoomOf j q

-- the same, and its history stays
abbrev pub Moved : ℕ → OpenLink → OpenLink → Type 0
Moved j p q = MovedBy j (λ g. g) p q

pub moved_of : (j : ℕ) (p q : OpenLink) → IsAdvanced j q.link q.environment.waiting → (RoomOf j p → RoomOf j q) → ((May : Option Why → Type 0) (I : OpenLink → Type 0) → Keeps j May I → I p → I q) → Moved j p q
moved_of j p q ends room go = record {
  devices = go (λ closing. Unit {0}) (λ x. AllLive p.environment.devices x.environment.devices) (grows_keeps j p.environment.devices) (all_live.stay p.environment.devices);
  own = λ g h. go (λ closing. is_dropped closing ≡ false) (Owing j g) (queueing_keeps j g) h;
  advanced = λ h. ends;
  others = go (λ closing. Unit {0}) (λ x. SameOthers j p.environment.waiting x.environment.waiting) (others_keep j p.environment.waiting) refl;
  safe = λ h. go (λ closing. Unit {0}) (λ x. SafeIn 0 0 x.environment) (safe_keeps j 0 0) h;
  room = room;
}

-- a link is dropped
pub moved_dropped : (k : ℕ) (cause : Why) (note : LinkHistory → LinkHistory) (p : OpenLink) → ((g : LinkHistory) → Owing k g p → Owing k (note g) (drop_link k cause p)) → MovedBy k note p (drop_link k cause p)
moved_dropped k cause note p own = record {
  devices = all_live.stay p.environment.devices;
  own = own;
  advanced = λ h. advanced_closing k (drop_link k cause p).link (drop_link k cause p).environment.waiting cause refl;
  others = own_left p.environment.waiting k;
  safe = λ h. safe_dropped k p.environment.devices p.environment.waiting h;
  room = λ h. room_dropped k cause p h;
}

-- a call of it failed
pub moved_failed : (k : ℕ) (p : OpenLink) → MovedBy k (λ g. record g { has_failed = true }) p (drop_link k why.LinkFault p)
moved_failed k p = moved_dropped k why.LinkFault (λ g. record g { has_failed = true }) p (λ g h. queued_dropped k g (record g { has_failed = true }) why.LinkFault p refl refl refl h refl)

-- an event found no room
pub moved_overrun : (k : ℕ) (p : OpenLink) → ((g : LinkHistory) → Owing k g p → p.link.closing ≡ None) → nat_le (length p.link.pending + 20) event_limit ≡ false → Moved k p (drop_link k why.Overrun p)
moved_overrun k p opens full =
    moved_dropped k why.Overrun (λ g. g) p (λ g h.
    let none = opens g h in
    let u = unended k g p none h in
    queued_dropped k g g why.Overrun p refl refl refl h
    (u.failed, u.ended, subst (λ l. event_limit < length l + 20) (sym (h.queued (open_undropped p.link.closing none))) (no_room (length p.link.pending) full)))
