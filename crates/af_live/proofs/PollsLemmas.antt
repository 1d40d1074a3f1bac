-- What a poll leaves of the links. It takes the least free number for each new link.
use Rattle.std.proofs.Common.{◌≡◌, ◌⊎◌, ⊎_elim, ℕ, zero, suc, ◌<◌, ◌==◌, if◌then◌else◌, Bool, true, false, List, [], ◌∷◌, slice_set, refl, sym, ap, ◌∙◌, subst}
use Rattle.std.proofs.lemmas.Bool.{false≢true, cases_Bool}
use Rattle.std.specs.declared.option.Option.{Option}
use Rattle.std.specs.declared.option.Option.TheVariants.{None, Some}
use Rattle.mio.specs.declared.event.event.Event.{Event}
use Rattle.mio.specs.Event.{event_token}
use Rattle.slab.specs.Slab.{Slab}
use Rattle.af_limits.specs.Limits.{most_links}
use Rattle.af_world.specs.declared.happening.Wake.{Wake}
use Rattle.af_world.specs.declared.happening.Wake.TheVariants as wake
use Rattle.af_live.specs.declared.link_table.LinkEntry.{LinkEntry}
use Rattle.af_live.specs.declared.link_table.Readiness.{Readiness}
use Rattle.af_live.specs.LinkTable.{is_free, is_open, link_at, new_link, with_readiness, without_first_ready, KeepsOpen, GivesFirst}
use Rattle.af_live.specs.Shares.{all_renewed}
use Rattle.af_live.proofs.SharesLemmas.{all_renewed_free, all_renewed_open}
use Rattle.af_live.specs.Polls.{readiness_of, noted, all_noted, TakesIn, TakesAll, takes_none, takes_one, PollsTo, ready_of, PolledGives, LeadsLinks, TakesLeast}

-- a link is replaced by one that a test cannot tell from it: the test gives the same for each number
pub set_same : {A : Type 0} (f : Option LinkEntry → A) (links : List (Option LinkEntry)) (i j : ℕ) (link : Option LinkEntry) → f link ≡ f (link_at links i) → f (link_at (slice_set links i link) j) ≡ f (link_at links j)
set_same f [] i j link e = refl
set_same f (x ∷ xs) zero zero link e = e
set_same f (x ∷ xs) zero (suc j) link e = refl
set_same f (x ∷ xs) (suc i) zero link e = refl
set_same f (x ∷ xs) (suc i) (suc j) link e = set_same f xs i j link e

set_held : (links : List (Option LinkEntry)) (i j : ℕ) (link : LinkEntry) → is_free (link_at links j) ≡ false → is_free (link_at (slice_set links i (Some link)) j) ≡ false
set_held [] i j link h = h
set_held (x ∷ xs) zero zero link h = refl
set_held (x ∷ xs) zero (suc j) link h = h
set_held (x ∷ xs) (suc i) zero link h = h
set_held (x ∷ xs) (suc i) (suc j) link h = set_held xs i j link h

set_taken : (links : List (Option LinkEntry)) (i j : ℕ) (link : LinkEntry) → is_free (link_at links j) ≡ true → is_free (link_at (slice_set links i (Some link)) j) ≡ false → j ≡ i
set_taken [] i j link f t = absurd (false≢true (sym t ∙ f))
set_taken (x ∷ xs) zero zero link f t = refl
set_taken (x ∷ xs) zero (suc j) link f t = absurd (false≢true (sym t ∙ f))
set_taken (x ∷ xs) (suc i) zero link f t = absurd (false≢true (sym t ∙ f))
set_taken (x ∷ xs) (suc i) (suc j) link f t = ap suc (set_taken xs i j link f t)

noted_open : (told : Readiness) (link : Option LinkEntry) → is_open (with_readiness told link) ≡ is_open link
noted_open told None = refl
noted_open told (Some link) = refl

noted_free : (told : Readiness) (link : Option LinkEntry) → is_free (with_readiness told link) ≡ is_free link
noted_free told None = refl
noted_free told (Some link) = refl

free_closed : (link : Option LinkEntry) → is_free link ≡ true → is_open link ≡ false
free_closed None h = refl
free_closed (Some link) h = absurd (false≢true h)

noted_same : {A : Type 0} (f : Option LinkEntry → A) → ((told : Readiness) (link : Option LinkEntry) → f (with_readiness told link) ≡ f link) →
    (links : List (Option LinkEntry)) (e : Event) (k : ℕ) → f (link_at (noted links e) k) ≡ f (link_at links k)
noted_same f stays links e k =
    elim ((event_token e).0 == most_links) as (λ (b : Bool). f (link_at (if b then links else slice_set links (event_token e).0 (with_readiness (readiness_of e) (link_at links (event_token e).0))) k) ≡ f (link_at links k)) [
      | true ↦ refl
      | false ↦ set_same f links (event_token e).0 k _ (stays _ _)
    ]

-- events change nothing that readiness leaves
pub all_noted_same : {A : Type 0} (f : Option LinkEntry → A) → ((told : Readiness) (link : Option LinkEntry) → f (with_readiness told link) ≡ f link) →
    (events : List Event) (links : List (Option LinkEntry)) (k : ℕ) → f (link_at (all_noted events links) k) ≡ f (link_at links k)
all_noted_same f stays [] links k = refl
all_noted_same f stays (e ∷ events) links k = all_noted_same f stays events (noted links e) k ∙ noted_same f stays links e k

module _ {S : Type 0} where
  -- a poll that reported these events, gave new shares, noted the events and took new links in
  pub polls_by : (told events : List Event) (streams kept streams' : Slab S) (old given links new : List (Option LinkEntry)) →
      events ≡ told → kept ≡ streams → given ≡ all_renewed old → links ≡ all_noted told given → TakesAll kept links streams' new →
      PollsTo events streams old streams' new
  polls_by told events streams kept streams' old given links new e s r n t =
      subst (λ es. TakesAll streams (all_noted es (all_renewed old)) streams' new) (sym e)
      (subst (λ ls. TakesAll streams ls streams' new) (n ∙ ap (all_noted told) r) (subst (λ x. TakesAll x links streams' new) s t))

  takes_in_open : (streams streams' : Slab S) (old new : List (Option LinkEntry)) → TakesIn streams old streams' new → KeepsOpen old new
  takes_in_open streams streams' old new t =
      ⊎_elim (λ same k. ap (λ ls. is_open (link_at ls k)) same.1)
      (λ took k. ap (λ ls. is_open (link_at ls k)) took.6 ∙ set_same is_open old took.0 k (Some (new_link took.1)) (sym (free_closed (link_at old took.0) took.3.1)))
      t

  takes_all_open : (streams : Slab S) (old : List (Option LinkEntry)) (streams' : Slab S) (new : List (Option LinkEntry)) → TakesAll streams old streams' new → KeepsOpen old new
  takes_all_open streams old _ _ takes_none = λ k. refl
  takes_all_open streams old _ new (takes_one streams' streams'' links _ t is) = λ k.
      takes_in_open streams' streams'' links new is k ∙ takes_all_open streams old streams' links t k

  -- a poll opens no link and closes none
  pub polls_keep_open : (events : List Event) (streams : Slab S) (old : List (Option LinkEntry)) (streams' : Slab S) (new : List (Option LinkEntry)) →
      PollsTo events streams old streams' new → KeepsOpen old new
  polls_keep_open events streams old streams' new p = λ k.
      takes_all_open streams (all_noted events (all_renewed old)) streams' new p k
      ∙ all_noted_same is_open noted_open events (all_renewed old) k ∙ all_renewed_open old k

-- if the same numbers are free, no number was taken
same_free : (a b c : List (Option LinkEntry)) → ((k : ℕ) → is_free (link_at c k) ≡ is_free (link_at b k)) → TakesLeast a b → TakesLeast a c
same_free a b c same t = record {
  held = λ k h. same k ∙ t.held k h;
  least = λ n k free taken less. same k ∙ t.least n k free (sym (same n) ∙ taken) less;
}

none_taken : (a : List (Option LinkEntry)) → TakesLeast a a
none_taken a = record { held = λ k h. h; least = λ n k free taken less. absurd (false≢true (sym taken ∙ free)) }

module _ {S : Type 0} where
  takes_least_on : (streams streams' : Slab S) (a b c : List (Option LinkEntry)) → TakesIn streams b streams' c → TakesLeast a b → TakesLeast a c
  takes_least_on streams streams' a b c took t =
      ⊎_elim (λ same. same_free a b c (λ k. ap (λ ls. is_free (link_at ls k)) same.1) t)
      (λ w. subst (TakesLeast a) (sym w.6) (record {
        held = λ k h. set_held b w.0 k (new_link w.1) (t.held k h);
        least = λ n k free taken less.
            set_held b w.0 k (new_link w.1)
            (⊎_elim (λ still. w.3.2 k (subst (λ m. k < m) (set_taken b w.0 n (new_link w.1) still taken) less)) (λ gone. t.least n k free gone less) (cases_Bool (is_free (link_at b n))));
      }))
      took

  takes_all_least : (a : List (Option LinkEntry)) (streams : Slab S) (old : List (Option LinkEntry)) (streams' : Slab S) (new : List (Option LinkEntry)) →
      TakesLeast a old → TakesAll streams old streams' new → TakesLeast a new
  takes_all_least a streams old _ _ least takes_none = least
  takes_all_least a streams old _ new least (takes_one streams' streams'' links _ t is) =
      takes_least_on streams' streams'' a links new is (takes_all_least a streams old streams' links least t)

  pub polls_take_least : (events : List Event) (streams : Slab S) (old : List (Option LinkEntry)) (streams' : Slab S) (new : List (Option LinkEntry)) →
      PollsTo events streams old streams' new → TakesLeast old new
  polls_take_least events streams old streams' new p =
      takes_all_least old streams (all_noted events (all_renewed old)) streams' new
      (same_free old old (all_noted events (all_renewed old))
      (λ k. all_noted_same is_free noted_free events (all_renewed old) k ∙ all_renewed_free old k) (none_taken old)) p

rest_free : (link : Option LinkEntry) → is_free (without_first_ready link) ≡ is_free link
rest_free None = refl
rest_free (Some link) = refl

-- what is given takes no number
gives_free : (old new : List (Option LinkEntry)) (w : Option Wake) → GivesFirst old w new → (k : ℕ) → is_free (link_at new k) ≡ is_free (link_at old k)
gives_free old new None g k = ap (λ ls. is_free (link_at ls k)) g.1
gives_free old new (Some w) g k = ap (λ ls. is_free (link_at ls k)) g.2 ∙ set_same is_free old _ k _ (rest_free _)

leads_first : (old new : List (Option LinkEntry)) (w : Option Wake) → GivesFirst old w new → TakesLeast old new
leads_first old new w g = same_free old old new (gives_free old new w g) (none_taken old)

polled_first : (events : List Event) (old new : List (Option LinkEntry)) (w : Wake) → PolledGives events w old new → TakesLeast old new
polled_first events old new w (streams, streams', polled, p, g) =
    same_free old polled new (gives_free polled new (ready_of w) g) (polls_take_least events streams old streams' polled p)

either_first : (events : List Event) (old new : List (Option LinkEntry)) (w : Wake) → GivesFirst old (Some w) new ⊎ (GivesFirst old None old × PolledGives events w old new) → TakesLeast old new
either_first events old new w = ⊎_elim (leads_first old new (Some w)) (λ g. polled_first events old new w g.1)

-- a wait takes the least free number for each new link
pub waits_take_least : (events : List Event) (w : Option Wake) (old new : List (Option LinkEntry)) → LeadsLinks events w old new → TakesLeast old new
waits_take_least events None old new same = subst (TakesLeast old) (sym same) (none_taken old)
waits_take_least events (Some (wake.Ticked d n)) old new g = leads_first old new None g
waits_take_least events (Some (wake.Line d change)) old new g = leads_first old new None g
waits_take_least events (Some w) old new g = either_first events old new w g
