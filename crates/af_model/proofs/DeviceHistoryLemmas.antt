-- How devices change: what is accepted stays, what is accepted later has a later time, no time falls, a line stays, and nothing
-- dies unless a call failed.
use Rattle.std.proofs.Common.{◌≡◌, ℕ, zero, suc, ◌≤◌, ◌==◌, ◌||◌, ◌⊎◌, inl, inr, Bool, true, false, cond, ℤ, List, [], ◌∷◌, ◌++◌, length, is_some, option_map, slice_get, slice_set, refl, sym, ap, ◌∙◌, subst, arith, append_assoc, append-nil}
use Rattle.std.proofs.lemmas.Bool.{eqb-false}
use Rattle.std.specs.List.{All, AllZip, list_any}
use Rattle.std.proofs.lemmas.List.Elements.{All-nil, All-cons, All-append, All-weaker}
use Rattle.std.specs.declared.option.Option.{Option}
use Rattle.std.specs.declared.option.Option.TheVariants.{None, Some}
use Rattle.af_sample.specs.Heard.{AcceptedPlay}
use Rattle.af_request.specs.declared.reply.Phone.{Phone}
use Rattle.af_model.specs.State.{DeviceState, Deferred, deferred_play, deferred_record, with_device, device_set, has_acted, lines_of}
use Rattle.af_phone.specs.Lines.{with_wanted_hook}
use Rattle.af_model.specs.DeviceRequests.{with_device_hook}
use Rattle.af_model.specs.Play.{accept_play}
use Rattle.af_model.specs.Tick.{complete_deferred, device_after}
use Rattle.af_model.proofs.BoolTestLemmas.{none_some, same_number, some_is}
use Rattle.af_model.proofs.ListLemmas.{get-set_other, get-set_same}

-- each of these was accepted at this time or later
abbrev pub AtLeast : ℕ → List AcceptedPlay → Type 0
AtLeast t entries = All (λ e. t ≤ e.at) entries

-- a device, and what it has become
pub record Later (d e : DeviceState) : Type 0 where
  pub more : List AcceptedPlay
  pub accepted : e.accepted ≡ d.accepted ++ more
  pub ats : AtLeast d.now more
  pub now : d.now ≤ e.now
  pub line : is_some e.line ≡ is_some d.line
  pub acted : (j : ℕ) → has_acted j d ≡ true → has_acted j e ≡ true

none_more : (t : ℕ) → AtLeast t []
none_more t = All-nil (λ (e : AcceptedPlay). t ≤ e.at)

-- who acted on a device stays one of its actors, and so does who acts now
pub still_acted : (j k : ℕ) (actors : List ℕ) → list_any (λ i. i == j) actors ≡ true → list_any (λ i. i == j) (actors ++ k ∷ []) ≡ true
still_acted j k [] h = absurd cc
still_acted j k (i ∷ actors) h =
    elim (i == j) as (λ b. (b || list_any (λ i. i == j) actors) ≡ true → (b || list_any (λ i. i == j) (actors ++ k ∷ [])) ≡ true) [
      | true ↦ λ h. refl
      | false ↦ λ h. still_acted j k actors h
    ] h

pub now_acted : (k : ℕ) (actors : List ℕ) → list_any (λ i. i == k) (actors ++ k ∷ []) ≡ true
now_acted k [] = ap (λ b. b || false) (same_number k)
now_acted k (i ∷ actors) = elim (i == k) as (λ b. (b || list_any (λ i. i == k) (actors ++ k ∷ [])) ≡ true) [ true ↦ refl | false ↦ now_acted k actors ]

-- a device that accepted nothing, and whose time stays
pub later_same : (d e : DeviceState) → e.accepted ≡ d.accepted → e.now ≡ d.now → is_some e.line ≡ is_some d.line → ((j : ℕ) → has_acted j d ≡ true → has_acted j e ≡ true) → Later d e
later_same d e a t l acted = record { more = []; accepted = a ∙ sym (append-nil d.accepted); ats = none_more d.now; now = omega (arith, t); line = l; acted = acted }

pub later_refl : (d : DeviceState) → Later d d
later_refl d = later_same d d refl refl refl (λ j h. h)

line_there : (f : Phone → Phone) (o : Option Phone) → is_some (option_map f o) ≡ is_some o
line_there f None = refl
line_there f (Some line) = refl

-- a line that becomes another exists if it did
pub later_line : (f : Phone → Phone) (d : DeviceState) → Later d (record d { line = option_map f d.line })
later_line f d = later_same d (record d { line = option_map f d.line }) refl refl (line_there f d.line) (λ j h. h)

pub later_trans : (d e f : DeviceState) → Later d e → Later e f → Later d f
later_trans d e f l m = record {
  more = l.more ++ m.more;
  accepted = m.accepted ∙ ap (λ a. a ++ m.more) l.accepted ∙ append_assoc d.accepted l.more m.more;
  ats = All-append (λ (x : AcceptedPlay). d.now ≤ x.at) l.more m.more l.ats (All-weaker (λ (x : AcceptedPlay). e.now ≤ x.at) (λ (x : AcceptedPlay). d.now ≤ x.at) (λ x h. omega (arith, h, l.now)) m.more m.ats);
  now = omega (arith, l.now, m.now);
  line = m.line ∙ l.line;
  acted = λ j h. m.acted j (l.acted j h);
}

-- a play that is accepted now
pub later_accepting : (k : ℕ) (d : DeviceState) (entry : AcceptedPlay) → entry.at ≡ d.now → Later d (accept_play k entry d)
later_accepting k d entry at =
    elim (length entry.samples == 0) as (λ b. Later d (record d { accepted = cond b d.accepted (d.accepted ++ entry ∷ []); actors = cond b d.actors (d.actors ++ k ∷ []) })) [
      | true ↦ later_refl d
      | false ↦ record { more = entry ∷ []; accepted = refl; ats = All-cons (λ (x : AcceptedPlay). d.now ≤ x.at) entry [] (omega (arith, at)) (none_more d.now); now = omega arith; line = refl; acted = λ j h. still_acted j k d.actors h }
    ]

-- a deferred request completes
pub later_completing : (k : ℕ) (d : DeviceState) (deferred : Deferred) → Later d (complete_deferred k deferred d)
later_completing k d (deferred_play quiet start sound preempt) =
    let l = later_accepting k d (record { start = start; samples = sound; preempt = preempt; at = d.now }) refl in
    record { more = l.more; accepted = l.accepted; ats = l.ats; now = l.now; line = l.line; acted = l.acted }
later_completing k d (deferred_record c start frames) = later_same d (complete_deferred k (deferred_record c start frames) d) refl refl refl (λ j h. h)

-- sample periods go by
pub later_passed : (d : DeviceState) (n : ℕ) (captured : List ℤ) (is_dead : Bool) → Later d (device_after n captured is_dead d)
later_passed d n captured is_dead = record { more = []; accepted = sym (append-nil d.accepted); ats = none_more d.now; now = omega arith; line = refl; acted = λ j h. h }

-- A device that became later at the same time, with the same rate and channels; it and its line are dead or alive as before

-- whether its line is dead, if it has one
abbrev pub dead_line : DeviceState → Option Bool
dead_line d = option_map (λ line. line.dead) d.line

pub record Lives (d e : DeviceState) : Type 0 where
  pub later : Later d e
  pub dead : e.is_dead ≡ d.is_dead
  pub line_dead : dead_line e ≡ dead_line d
  pub now : e.now ≡ d.now
  pub rate : e.rate ≡ d.rate
  pub channels : e.channels ≡ d.channels

lives_refl : (d : DeviceState) → Lives d d
lives_refl d = record { later = later_refl d; dead = refl; line_dead = refl; now = refl; rate = refl; channels = refl }

lives_trans : (d e f : DeviceState) → Lives d e → Lives e f → Lives d f
lives_trans d e f l m = record { later = later_trans d e f l.later m.later; dead = m.dead ∙ l.dead; line_dead = m.line_dead ∙ l.line_dead; now = m.now ∙ l.now; rate = m.rate ∙ l.rate; channels = m.channels ∙ l.channels }

-- a line that becomes another, dead or alive as before
pub lives_line : (f : Phone → Phone) (d : DeviceState) → ((line : Phone) → (f line).dead ≡ line.dead) → Lives d (record d { line = option_map f d.line })
lives_line f d alike = record { later = later_line f d; dead = refl; line_dead = mapped d.line; now = refl; rate = refl; channels = refl }
  where
    mapped : (o : Option Phone) → option_map (λ line. line.dead) (option_map f o) ≡ option_map (λ line. line.dead) o
    mapped None = refl
    mapped (Some line) = ap (λ b. Some b) (alike line)

-- a hook is wanted
pub lives_wanting : (k : ℕ) (off : Bool) (d : DeviceState) → Lives d (with_device_hook k off d)
lives_wanting k off d =
    let line = lives_line (with_wanted_hook off) d (λ line. refl) in
    record { later = later_same d (with_device_hook k off d) refl refl (line_there (with_wanted_hook off) d.line) (λ j h. still_acted j k d.actors h); dead = refl; line_dead = line.line_dead; now = refl; rate = refl; channels = refl }

pub lives_accepting : (k : ℕ) (d : DeviceState) (entry : AcceptedPlay) → entry.at ≡ d.now → Lives d (accept_play k entry d)
lives_accepting k d entry at = record { later = later_accepting k d entry at; dead = refl; line_dead = refl; now = refl; rate = refl; channels = refl }

pub lives_completing : (k : ℕ) (d : DeviceState) (deferred : Deferred) → Lives d (complete_deferred k deferred d)
lives_completing k d deferred = record { later = later_completing k d deferred; dead = refl; line_dead = refl; now = refl; rate = refl; channels = refl }

-- a change by a request
-- link k leaves a device as it is, or acts on it
abbrev pub Acts : ℕ → DeviceState → DeviceState → Type 0
Acts k d e = (e ≡ d) ⊎ (has_acted k e ≡ true)

pub acts_accepting : (k : ℕ) (d : DeviceState) (entry : AcceptedPlay) → Acts k d (accept_play k entry d)
acts_accepting k d entry =
    elim (length entry.samples == 0) as (λ b. Acts k d (record d { accepted = cond b d.accepted (d.accepted ++ entry ∷ []); actors = cond b d.actors (d.actors ++ k ∷ []) })) [
      | true ↦ inl refl
      | false ↦ inr (now_acted k d.actors)
    ]

pub record Requested (k : ℕ) (d e : DeviceState) : Type 0 where
  pub lives : Lives d e
  pub completed : e.completed ≡ d.completed
  pub acts : Acts k d e

-- All devices

module _ (R : DeviceState → DeviceState → Type 0) where
  -- what became of an earlier device
  zip_get : (ds es : List DeviceState) (i : ℕ) (d : DeviceState) → AllZip R ds es → slice_get ds i ≡ Some d → (e : DeviceState) × (slice_get es i ≡ Some e) × R d e
  zip_get [] es i d l there = absurd cc
  zip_get (x ∷ ds) [] i d l there = absurd l
  zip_get (x ∷ ds) (y ∷ es) zero d l there = let same : x ≡ d = cc in (y, refl, subst (λ u. R u y) same l.0)
  zip_get (x ∷ ds) (y ∷ es) (suc i) d l there = zip_get ds es i d l.1 there

  -- a device existed before
  pub zip_back : (ds es : List DeviceState) (i : ℕ) (e : DeviceState) → AllZip R ds es → slice_get es i ≡ Some e → (d : DeviceState) × (slice_get ds i ≡ Some d) × R d e
  zip_back [] [] i e l there = absurd cc
  zip_back [] (y ∷ es) i e l there = absurd l
  zip_back (x ∷ ds) [] i e l there = absurd l
  zip_back (x ∷ ds) (y ∷ es) zero e l there = let same : y ≡ e = cc in (x, refl, subst (λ u. R x u) same l.0)
  zip_back (x ∷ ds) (y ∷ es) (suc i) e l there = zip_back ds es i e l.1 there

  zip_trans : ((d e f : DeviceState) → R d e → R e f → R d f) → (ds es fs : List DeviceState) → AllZip R ds es → AllZip R es fs → AllZip R ds fs
  zip_trans trans [] [] [] a b = tt
  zip_trans trans (d ∷ ds) (e ∷ es) (f ∷ fs) a b = (trans d e f a.0 b.0, zip_trans trans ds es fs a.1 b.1)
  zip_trans trans [] (e ∷ es) fs a b = absurd a
  zip_trans trans (d ∷ ds) [] fs a b = absurd a
  zip_trans trans [] [] (f ∷ fs) a b = absurd b
  zip_trans trans (d ∷ ds) (e ∷ es) [] a b = absurd b

module _ (R : DeviceState → DeviceState → Type 0) (same : (d : DeviceState) → R d d) where
  zip_refl : (ds : List DeviceState) → AllZip R ds ds
  zip_refl [] = tt
  zip_refl (d ∷ ds) = (same d, zip_refl ds)

  zip_set : (ds : List DeviceState) (i : ℕ) (d e : DeviceState) → slice_get ds i ≡ Some d → R d e → AllZip R ds (slice_set ds i e)
  zip_set [] i d e there l = absurd cc
  zip_set (x ∷ ds) zero d e there l = let is : d ≡ x = cc in (subst (λ y. R y e) is l, zip_refl ds)
  zip_set (x ∷ ds) (suc i) d e there l = (same x, zip_set ds i d e there l)

  -- the device at a number becomes another
  pub zip_with : (i : ℕ) (f : DeviceState → DeviceState) (ds : List DeviceState) → ((d : DeviceState) → slice_get ds i ≡ Some d → R d (f d)) → AllZip R ds (with_device i f ds)
  zip_with i f ds l =
      elim (slice_get ds i) as (λ o. slice_get ds i ≡ o → AllZip R ds (device_set i f ds o)) [
        | None ↦ λ there. zip_refl ds
        | Some d ↦ λ there. zip_set ds i d (f d) there (l d there)
      ] refl

-- Lists in which each device is related to the one in its place: the same list, two steps in a row, one device that becomes
-- another, what became of a device, and what it came from.
pub record Steps (R : DeviceState → DeviceState → Type 0) : Type 0 where
  pub stay : (ds : List DeviceState) → AllZip R ds ds
  pub follow : (ds es fs : List DeviceState) → AllZip R ds es → AllZip R es fs → AllZip R ds fs
  pub change : (i : ℕ) (f : DeviceState → DeviceState) (ds : List DeviceState) → ((d : DeviceState) → slice_get ds i ≡ Some d → R d (f d)) → AllZip R ds (with_device i f ds)
  pub get : (ds es : List DeviceState) (i : ℕ) (d : DeviceState) → AllZip R ds es → slice_get ds i ≡ Some d → (e : DeviceState) × (slice_get es i ≡ Some e) × R d e
  pub back : (ds es : List DeviceState) (i : ℕ) (e : DeviceState) → AllZip R ds es → slice_get es i ≡ Some e → (d : DeviceState) × (slice_get ds i ≡ Some d) × R d e

steps : (R : DeviceState → DeviceState → Type 0) → ((d : DeviceState) → R d d) → ((d e f : DeviceState) → R d e → R e f → R d f) → Steps R
steps R same trans = record { stay = zip_refl R same; follow = zip_trans R trans; change = zip_with R same; get = zip_get R; back = zip_back R }

abbrev pub Laters : List DeviceState → List DeviceState → Type 0
Laters ds es = AllZip Later ds es

pub laters : Steps Later
laters = steps Later later_refl later_trans

pub laters_lines : (ds es : List DeviceState) → Laters ds es → lines_of es ≡ lines_of ds
laters_lines [] [] l = refl
laters_lines [] (e ∷ es) l = absurd l
laters_lines (d ∷ ds) [] l = absurd l
laters_lines (d ∷ ds) (e ∷ es) l = ap (λ b. b ∷ lines_of es) l.0.line ∙ ap (λ b. is_some d.line ∷ b) (laters_lines ds es l.1)

abbrev pub AllLive : List DeviceState → List DeviceState → Type 0
AllLive ds es = AllZip Lives ds es

pub all_live : Steps Lives
all_live = steps Lives lives_refl lives_trans

pub live_laters : (ds es : List DeviceState) → AllLive ds es → Laters ds es
live_laters [] [] l = tt
live_laters [] (e ∷ es) l = absurd l
live_laters (d ∷ ds) [] l = absurd l
live_laters (d ∷ ds) (e ∷ es) l = (l.0.later, live_laters ds es l.1)

-- the device at a number becomes another
module _ (d : ℕ) (f : DeviceState → DeviceState) (devices : List DeviceState) where
  pub with_same : (e : DeviceState) → slice_get (with_device d f devices) d ≡ Some e → (device : DeviceState) × (slice_get devices d ≡ Some device) × (f device ≡ e)
  with_same e there =
      elim (slice_get devices d) as (λ o. slice_get devices d ≡ o → slice_get (device_set d f devices o) d ≡ Some e → (device : DeviceState) × (slice_get devices d ≡ Some device) × (f device ≡ e)) [
        | None ↦ λ was there. absurd (none_some (sym was ∙ there))
        | Some device ↦ λ was there. (device, was, some_is (sym (get-set_same devices d device (f device) was) ∙ there))
      ] refl there

  pub with_other : (c : ℕ) → (d == c) ≡ false → slice_get (with_device d f devices) c ≡ slice_get devices c
  with_other c other =
      elim (slice_get devices d) as (λ o. slice_get (device_set d f devices o) c ≡ slice_get devices c) [
        | None ↦ refl
        | Some device ↦ get-set_other devices d c (f device) (λ same. eqb-false d c other (sym same))
      ]

  pub with_there : (device : DeviceState) → slice_get devices d ≡ Some device → slice_get (with_device d f devices) d ≡ Some (f device)
  with_there device there = ap (λ o. slice_get (device_set d f devices o) d) there ∙ get-set_same devices d device (f device) there
