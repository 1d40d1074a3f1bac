-- What calls leave of the streams of links: each link that is held keeps one of its own.
use Rattle.std.proofs.Common.{◌≡◌, ◌≢◌, ◌⊎◌, inl, inr, ⊎_elim, ℕ, zero, suc, Bool, true, false, List, [], ◌∷◌, slice_set, refl, sym, ap, ◌∙◌, subst}
use Rattle.std.specs.Prelude.{option_map, is_some, if◌then◌else◌}
use Rattle.std.proofs.lemmas.Bool.{false≢true}
use Rattle.std.specs.declared.option.Option.{Option}
use Rattle.std.specs.declared.option.Option.TheVariants.{None, Some}
use Rattle.mio.specs.declared.event.event.Event.{Event}
use Rattle.mio.specs.declared.net.stream.TcpStream.{TcpStream}
use Rattle.slab.specs.Slab.{Slab, get, Updates}
use Rattle.af_world.specs.declared.happening.Wake.{Wake}
use Rattle.af_world.specs.declared.world.LinkGot.{LinkGot}
use Rattle.af_world.specs.declared.world.LinkGot.TheVariants as got
use Rattle.af_world.specs.declared.world.LinkTook.{LinkTook}
use Rattle.af_world.specs.declared.world.LinkTook.TheVariants as took
use Rattle.af_live.specs.declared.link_table.LinkEntry.{LinkEntry}
use Rattle.af_live.specs.declared.link_table.Readiness.{Readiness}
use Rattle.af_live.specs.declared.sockets.Sockets.{Sockets}
use Rattle.af_live.specs.LinkTable.{link_at, new_link, rest_of, with_readiness, without_first_ready, ClosesOne, GivesFirst}
use Rattle.af_live.specs.Shares.{after_read, all_renewed, with_new_share, AfterRead, AfterWrite}
use Rattle.af_live.specs.Polls.{all_noted, PollsTo, TakesAll, TakesIn, takes_none, takes_one}
use Rattle.af_live.specs.Streams.{key_of, AreApart, HoldsOwn, KeepsOwn, KeepsStreams, LetsGo, OwnStreams, SameHeld, StaysOwn}
use Rattle.af_live.proofs.PollsLemmas.{all_noted_same, set_same}
use Rattle.af_live.proofs.SharesLemmas.{renewed_same}

none≢some : {A : Type 0} (a : A) → None ≡ Some a → ⊥
none≢some a e = false≢true (ap is_some e)

-- each link that is held was held before, and has the stream that it had
abbrev FewerKeys : List (Option LinkEntry) → List (Option LinkEntry) → Type 0
FewerKeys old new = (k key : ℕ) → key_of (link_at new k) ≡ Some key → key_of (link_at old k) ≡ Some key

-- the same links are held, each with the stream that it had
abbrev SameKeys : List (Option LinkEntry) → List (Option LinkEntry) → Type 0
SameKeys old new = (k : ℕ) → key_of (link_at new k) ≡ key_of (link_at old k)

module _ {S : Type 0} where
  own_fewer : (streams streams' : Slab S) (old new : List (Option LinkEntry)) → SameHeld streams streams' → FewerKeys old new →
      OwnStreams streams old → OwnStreams streams' new
  own_fewer streams streams' old new held fewer own = record {
    apart = λ i j key p q. own.apart i j key (fewer i key p) (fewer j key q);
    there = λ k key p. held key ∙ own.there k key (fewer k key p);
  }

  own_same : (streams streams' : Slab S) (old new : List (Option LinkEntry)) → SameHeld streams streams' → SameKeys old new →
      OwnStreams streams old → OwnStreams streams' new
  own_same streams streams' old new held same = own_fewer streams streams' old new held (λ k key p. sym (same k) ∙ p)

-- What is put at a place: its own key stands there, and else what stood there before.
set_key : (links : List (Option LinkEntry)) (i j key : ℕ) (link : LinkEntry) → key_of (link_at (slice_set links i (Some link)) j) ≡ Some key →
    ((j ≡ i) × (Some link.key ≡ Some key)) ⊎ (key_of (link_at links j) ≡ Some key)
set_key [] i j key link p = inr p
set_key (x ∷ xs) zero zero key link p = inl (refl, p)
set_key (x ∷ xs) zero (suc j) key link p = inr p
set_key (x ∷ xs) (suc i) zero key link p = inr p
set_key (x ∷ xs) (suc i) (suc j) key link p = ⊎_elim (λ w. inl (ap suc w.0, w.1)) (λ w. inr w) (set_key xs i j key link p)

abbrev pred : ℕ → ℕ
pred zero = zero
pred (suc n) = n

abbrev is_zero : ℕ → Bool
is_zero zero = true
is_zero (suc n) = false

-- a link that is let go is held no more, and no other changes
set_free : (links : List (Option LinkEntry)) (i j key : ℕ) → key_of (link_at (slice_set links i None) j) ≡ Some key →
    (j ≢ i) × (key_of (link_at links j) ≡ Some key)
set_free [] i j key p = absurd (none≢some key p)
set_free (x ∷ xs) zero zero key p = absurd (none≢some key p)
set_free (x ∷ xs) zero (suc j) key p = (λ e. false≢true (ap is_zero e), p)
set_free (x ∷ xs) (suc i) zero key p = (λ e. false≢true (ap is_zero (sym e)), p)
set_free (x ∷ xs) (suc i) (suc j) key p = let w = set_free xs i j key p in (λ e. w.0 (ap pred e), w.1)

abbrev key_or : ℕ → Option ℕ → ℕ
key_or key None = key
key_or key (Some other) = other

module _ {S : Type 0} where
  -- a key without a stream is that of no link that is held
  no_link : (streams : Slab S) (links : List (Option LinkEntry)) (key : ℕ) → OwnStreams streams links → get streams key ≡ None →
      (k : ℕ) → key_of (link_at links k) ≡ Some key → ⊥
  no_link streams links key own free k p = false≢true (ap is_some (sym free) ∙ own.there k key p)

  -- a new link has a stream that no other link has
  own_new : (streams streams' : Slab S) (old : List (Option LinkEntry)) (n key : ℕ) (stream : S) → get streams key ≡ None →
      Updates streams streams' key (Some stream) → OwnStreams streams old → OwnStreams streams' (slice_set old n (Some (new_link key)))
  own_new streams streams' old n key stream free took own = record {
    apart = λ i j k p q.
        ⊎_elim
        (λ a. ⊎_elim (λ b. a.0 ∙ sym b.0)
        (λ b. absurd (no_link streams old key own free j (b ∙ sym a.1))) (set_key old n j k (new_link key) q))
        (λ a. ⊎_elim (λ b. absurd (no_link streams old key own free i (a ∙ sym b.1)))
        (λ b. own.apart i j k a b) (set_key old n j k (new_link key) q))
        (set_key old n i k (new_link key) p);
    there = λ i k p.
        ⊎_elim (λ a. subst (λ (o : Option ℕ). is_some (get streams' (key_or key o)) ≡ true) a.1 (ap is_some took.changed))
        (λ a. ap is_some (took.others k (λ e. no_link streams old key own free i (a ∙ ap Some e))) ∙ own.there i k a)
        (set_key old n i k (new_link key) p);
  }

  own_taken : (streams streams' : Slab S) (old new : List (Option LinkEntry)) → TakesIn streams old streams' new → OwnStreams streams old →
      OwnStreams streams' new
  own_taken streams streams' old new t own =
      ⊎_elim (λ same. subst (λ s. OwnStreams s new) (sym same.0) (subst (OwnStreams streams) (sym same.1) own))
      (λ w. subst (OwnStreams streams') (sym w.6) (own_new streams streams' old w.0 w.1 w.2 w.4 w.5 own))
      t

  own_all_taken : (streams : Slab S) (old : List (Option LinkEntry)) (streams' : Slab S) (new : List (Option LinkEntry)) →
      TakesAll streams old streams' new → OwnStreams streams old → OwnStreams streams' new
  own_all_taken streams old _ _ takes_none own = own
  own_all_taken streams old _ new (takes_one streams' streams'' links _ t is) own =
      own_taken streams' streams'' links new is (own_all_taken streams old streams' links t own)

-- Readiness, shares and wakes leave keys

noted_key : (told : Readiness) (link : Option LinkEntry) → key_of (with_readiness told link) ≡ key_of link
noted_key told None = refl
noted_key told (Some link) = refl

renewed_key : (link : Option LinkEntry) → key_of (option_map with_new_share link) ≡ key_of link
renewed_key None = refl
renewed_key (Some link) = refl

given_key : (link : LinkEntry) → (rest_of link).key ≡ link.key
given_key link = elim link.opened as (λ (o : Bool).
    (if o then record link { opened = false } else if link.readable then record link { readable = false } else record link { writable = false }).key ≡ link.key) [
      | true ↦ refl
      | false ↦ elim link.readable as (λ (r : Bool). (if r then record link { readable = false } else record link { writable = false }).key ≡ link.key) [
        | true ↦ refl
        | false ↦ refl
      ]
    ]

rest_key : (link : Option LinkEntry) → key_of (without_first_ready link) ≡ key_of link
rest_key None = refl
rest_key (Some link) = ap Some (given_key link)

module _ {S : Type 0} where
  pub polled_own : (events : List Event) (streams : Slab S) (old : List (Option LinkEntry)) (streams' : Slab S) (new : List (Option LinkEntry)) →
      PollsTo events streams old streams' new → OwnStreams streams old → OwnStreams streams' new
  polled_own events streams old streams' new p own =
      own_all_taken streams (all_noted events (all_renewed old)) streams' new p
      (own_same streams streams old (all_noted events (all_renewed old)) (λ key. refl)
      (λ k. all_noted_same key_of noted_key events (all_renewed old) k ∙ renewed_same key_of renewed_key 0 old k) own)

gives_keys : (old new : List (Option LinkEntry)) (w : Option Wake) → GivesFirst old w new → SameKeys old new
gives_keys old new None g k = ap (λ ls. key_of (link_at ls k)) g.1
gives_keys old new (Some w) g k = ap (λ ls. key_of (link_at ls k)) g.2 ∙ set_same key_of old _ k _ (rest_key _)

module _ {S : Type 0} where
  -- what is given first is taken of a link, whose stream stays
  pub given_own : (streams : Slab S) (old new : List (Option LinkEntry)) (w : Option Wake) → GivesFirst old w new → OwnStreams streams old →
      OwnStreams streams new
  given_own streams old new w g own = own_same streams streams old new (λ key. refl) (gives_keys old new w g) own

-- The calls

mapped_key : (f : LinkEntry → LinkEntry) → ((link : LinkEntry) → (f link).key ≡ link.key) → (link : Option LinkEntry) →
    key_of (option_map f link) ≡ key_of link
mapped_key f stays None = refl
mapped_key f stays (Some link) = ap Some (stays link)

-- a link is replaced by one with the same stream
put_keys : (f : LinkEntry → LinkEntry) → ((link : LinkEntry) → (f link).key ≡ link.key) → (old new : List (Option LinkEntry)) (k : ℕ) →
    new ≡ slice_set old k (option_map f (link_at old k)) → SameKeys old new
put_keys f stays old new k is n = ap (λ ls. key_of (link_at ls n)) is ∙ set_same key_of old k n _ (mapped_key f stays (link_at old k))

equal_keys : (old new : List (Option LinkEntry)) → new ≡ old → SameKeys old new
equal_keys old new is k = ap (λ ls. key_of (link_at ls k)) is

read_keys : (k room : ℕ) (answer : LinkGot) (old new : List (Option LinkEntry)) → AfterRead k room answer old new → SameKeys old new
read_keys k room (got.Bytes n) old new a = put_keys (after_read _) (λ link. refl) old new k a.1
read_keys k room got.NotYet old new a =
    ⊎_elim (λ w. equal_keys old new w.1)
    (⊎_elim (λ w. put_keys _ (λ link. refl) old new k w.2)
    (λ w. ⊎_elim (put_keys _ (λ link. refl) old new k) (put_keys _ (λ link. refl) old new k) w.2)) a
read_keys k room got.Ended old new a = put_keys (after_read false) (λ link. refl) old new k a.1
read_keys k room got.Failed old new a = equal_keys old new a

write_keys : (k piece : ℕ) (answer : LinkTook) (old new : List (Option LinkEntry)) → AfterWrite k piece answer old new → SameKeys old new
write_keys k piece took.Failed old new a = equal_keys old new a
write_keys k piece (took.Took n) old new a =
    ⊎_elim (put_keys _ (λ link. refl) old new k)
    (λ w. ⊎_elim (equal_keys old new) (put_keys _ (λ link. refl) old new k) w.2) a.1

held_own : (old new : Option Sockets) (links links' : List (Option LinkEntry)) → KeepsStreams old new → SameKeys links links' → HoldsOwn old links → HoldsOwn new links'
unfolding HoldsOwn
held_own None new links links' is same own = subst (λ o. HoldsOwn o links') (sym is) (λ k. same k ∙ own k)
held_own (Some sockets) None links links' keeps same own = absurd keeps
held_own (Some sockets) (Some new) links links' keeps same own = own_same sockets.streams new.streams links links' keeps same own

pub read_own : (old new : Option Sockets) (links links' : List (Option LinkEntry)) (k room : ℕ) (answer : LinkGot) → KeepsStreams old new →
    AfterRead k room answer links links' → HoldsOwn old links → HoldsOwn new links'
read_own old new links links' k room answer keeps after = held_own old new links links' keeps (read_keys k room answer links links' after)

pub write_own : (old new : Option Sockets) (links links' : List (Option LinkEntry)) (k piece : ℕ) (answer : LinkTook) → KeepsStreams old new →
    AfterWrite k piece answer links links' → HoldsOwn old links → HoldsOwn new links'
write_own old new links links' k piece answer keeps after = held_own old new links links' keeps (write_keys k piece answer links links' after)

free_fewer : (k : ℕ) (old new : List (Option LinkEntry)) → ClosesOne k old new → FewerKeys old new
free_fewer k old new closed j key p = (set_free old k j key (ap (λ ls. key_of (link_at ls j)) (sym closed) ∙ p)).1

module _ {S : Type 0} where
  gone_own : (streams streams' : Slab S) (old new : List (Option LinkEntry)) (k : ℕ) (link : LinkEntry) → link_at old k ≡ Some link →
      Updates streams streams' link.key None → ClosesOne k old new → OwnStreams streams old → OwnStreams streams' new
  gone_own streams streams' old new k link is gone closed own = record {
    apart = λ i j key p q. own.apart i j key (free_fewer k old new closed i key p) (free_fewer k old new closed j key q);
    there = λ j key p.
        let w = set_free old k j key (ap (λ ls. key_of (link_at ls j)) (sym closed) ∙ p) in
        ap is_some (gone.others key (λ e. w.0 (own.apart j k key w.1 (ap key_of is ∙ ap Some (sym e))))) ∙ own.there j key w.1;
  }

no_key : (o : Option ℕ) → ((key : ℕ) → o ≡ Some key → ⊥) → o ≡ None
no_key None never = refl
no_key (Some key) never = absurd (never key refl)

none_stay : (k : ℕ) (old new : List (Option LinkEntry)) → ClosesOne k old new → ((j : ℕ) → key_of (link_at old j) ≡ None) →
    (j : ℕ) → key_of (link_at new j) ≡ None
none_stay k old new closed none j = no_key (key_of (link_at new j)) (λ key p. none≢some key (sym (none j) ∙ free_fewer k old new closed j key p))

lets_none : (link : Option LinkEntry) (sockets : Sockets) → LetsGo link (Some sockets) None → ⊥
lets_none None sockets lets = lets
lets_none (Some link) sockets lets = lets

pub closed_own : (old new : Option Sockets) (links links' : List (Option LinkEntry)) (k : ℕ) (link : Option LinkEntry) → link_at links k ≡ link →
    LetsGo link old new → ClosesOne k links links' → HoldsOwn old links → HoldsOwn new links'
unfolding HoldsOwn
closed_own None new links links' k link is lets closed own = subst (λ o. HoldsOwn o links') (sym lets) (none_stay k links links' closed own)
closed_own (Some sockets) None links links' k link is lets closed own = absurd (lets_none link sockets lets)
closed_own (Some sockets) (Some new) links links' k None is lets closed own =
    own_fewer sockets.streams new.streams links links' lets (free_fewer k links links' closed) own
closed_own (Some sockets) (Some new) links links' k (Some link) is lets closed own =
    gone_own sockets.streams new.streams links links' k link is lets closed own

-- before it listens no link is held, so each has a stream of its own from then on
pub listened_own : (old : Option Sockets) (sockets : Sockets) (links : List (Option LinkEntry)) → is_some old ≡ false → HoldsOwn old links →
    HoldsOwn (Some sockets) links
unfolding HoldsOwn
listened_own (Some before) sockets links is none = absurd (false≢true (sym is))
listened_own None sockets links is none = record {
  apart = λ i j key p q. absurd (none≢some key (sym (none i) ∙ p));
  there = λ k key p. absurd (none≢some key (sym (none k) ∙ p));
}

pub apart_of : (sockets : Option Sockets) (links : List (Option LinkEntry)) → HoldsOwn sockets links → AreApart links
unfolding HoldsOwn
apart_of None links none = λ i j key p q. absurd (none≢some key (sym (none i) ∙ p))
apart_of (Some sockets) links own = own.apart

-- a wake that was kept ready leaves each link its stream
pub kept_own : (sockets : Sockets) (links now : List (Option LinkEntry)) (w : Option Wake) → GivesFirst links w now → HoldsOwn (Some sockets) links →
    HoldsOwn (Some sockets) now
unfolding HoldsOwn
kept_own sockets links now w gives own = given_own sockets.streams links now w gives own

pub kept_stays : (old : Option Sockets) (sockets : Sockets) (links now : List (Option LinkEntry)) (w : Option Wake) → old ≡ Some sockets →
    GivesFirst links w now → StaysOwn old links (Some sockets) now
unfolding StaysOwn
kept_stays old sockets links now w is gives own = kept_own sockets links now w gives (subst (λ o. HoldsOwn o links) is own)

-- and so does a poll after it
pub waited_stays : (old : Option Sockets) (sockets watched new : Sockets) (links now last : List (Option LinkEntry)) (w : Option Wake) → old ≡ Some sockets →
    GivesFirst links w now → watched.streams ≡ sockets.streams → KeepsOwn watched.streams now new.streams last → StaysOwn old links (Some new) last
unfolding HoldsOwn KeepsOwn StaysOwn
waited_stays old sockets watched new links now last w is gives same polled own =
    polled (subst (λ streams. OwnStreams streams now) (sym same) (given_own sockets.streams links now w gives (subst (λ o. HoldsOwn o links) is own)))

pub polled_keeps : (streams streams' : Slab TcpStream) (old polled new : List (Option LinkEntry)) (events : List Event) (w : Option Wake) →
    PollsTo events streams old streams' polled → GivesFirst polled w new → KeepsOwn streams old streams' new
unfolding KeepsOwn
polled_keeps streams streams' old polled new events w polls gives own =
    given_own streams' polled new w gives (polled_own events streams old streams' polled polls own)

pub unpolled_keeps : (streams streams' : Slab TcpStream) (links links' : List (Option LinkEntry)) → streams' ≡ streams → links' ≡ links →
    KeepsOwn streams links streams' links'
unfolding KeepsOwn
unpolled_keeps streams streams' links links' same is own =
    subst (λ s. OwnStreams s links') (sym same) (subst (OwnStreams streams) (sym is) own)

pub nothing_stays : (sockets : Option Sockets) (links : List (Option LinkEntry)) → StaysOwn sockets links sockets links
unfolding StaysOwn
nothing_stays sockets links own = own

pub stays_on : (old new : Option Sockets) (links links' : List (Option LinkEntry)) → StaysOwn old links new links' → HoldsOwn old links → HoldsOwn new links'
unfolding StaysOwn
stays_on old new links links' stays own = stays own

-- no link is held of a world that was just made
pub begun_own : (links : List (Option LinkEntry)) → ((k : ℕ) → link_at links k ≡ None) → HoldsOwn None links
unfolding HoldsOwn
begun_own links none k = ap key_of (none k)
