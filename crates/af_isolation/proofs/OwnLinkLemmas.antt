-- What link k does changes nothing but itself, unless it acts.
use Rattle.std.proofs.Common.{◌≡◌, ℕ, zero, suc, ◌+◌, ◌==◌, ◌||◌, ◌⊎◌, inl, inr, Bool, true, false, not, cond, nat_le, List, [], ◌∷◌, ◌++◌, length, map, filter, slice_get, slice_set, is_none, take, append_assoc, eqb-true, refl, sym, ap, ◌∙◌, subst}
use Rattle.std.specs.declared.option.Option.{Option}
use Rattle.std.specs.declared.option.Option.TheVariants.{None, Some}
use Rattle.af_limits.specs.Limits.{event_limit}
use Rattle.af_world.specs.declared.happening.Why.{Why}
use Rattle.af_world.specs.declared.happening.Why.TheVariants as why
use Rattle.af_world.specs.declared.happening.ReadGot.{ReadGot}
use Rattle.af_world.specs.declared.happening.ReadGot.TheVariants.{Given, NotYet, Ended, Failed}
use Rattle.af_world.specs.declared.happening.Happening.{Happening}
use Rattle.af_world.specs.declared.happening.Happening.TheVariants.{Read, Wrote, Closed}
use Rattle.af_world.specs.Outside.{same_bytes}
use Rattle.af_world.specs.Log.{Log}
use Rattle.af_phone.specs.Lines.{selects}
use Rattle.af_wire.specs.declared.event.Event.{Event}
use Rattle.af_wire.specs.Event.{event_bytes}
use Rattle.af_model.specs.State.{Completion, DeviceState, Deferral, Deferred, deferred_play, deferred_record, EnvironmentState, LinkState, OpenLink, open_link, say, SlotLink, device_set, with_device, has_acted}
use Rattle.af_model.specs.Tick.{complete_for, complete_deferred}
use Rattle.af_model.specs.Advance.{absorb, advance}
use Rattle.af_model.specs.Events.{drop_link, mask_of, tell_open, tell_selected, without_waiter}
use Rattle.af_model.specs.Turn.{Parsed, after_read, after_write, close_phase, parse_then, read_phase, send_pending, serve_link, serve_open, write_by, after_bytes_offered, write_phase, after_bytes_taken}
use Rattle.af_model.proofs.BoolTestLemmas.{cond-some, none_some, same_number, some_is}
use Rattle.af_model.proofs.ListLemmas.{pushed_without}
use Rattle.af_model.proofs.DeviceHistoryLemmas.{AllLive, Laters, Later, all_live, later_completing, laters, live_laters, now_acted, with_there}
use Rattle.af_model.proofs.LinkInvariantLemmas.{Keeps, environment_keeps, advance_keeps, complete_keeps}
use Rattle.af_model.proofs.OwedBytesLemmas.{grows_keeps}
use Rattle.af_model.proofs.PhasePartLemmas.{Takes, close_takes, read_takes, takes_chain, write_takes}
use Rattle.af_isolation.specs.Without.{acted_on, device_without, without}

-- Who has acted

-- who acted on a device stays one of its actors
pub laters_acted : (k : ℕ) (ds es : List DeviceState) → Laters ds es → acted_on k ds ≡ true → acted_on k es ≡ true
laters_acted k [] es l h = absurd cc
laters_acted k (d ∷ ds) [] l h = absurd l
laters_acted k (d ∷ ds) (e ∷ es) l h =
    elim (has_acted k d) as (λ b. has_acted k d ≡ b → (b || acted_on k ds) ≡ true → (has_acted k e || acted_on k es) ≡ true) [
      | true ↦ λ was h. ap (λ b. b || acted_on k es) (l.0.acted k was)
      | false ↦ λ was h. either (has_acted k e) (acted_on k es) (laters_acted k ds es l.1 h)
    ] refl h
  where
    either : (a b : Bool) → b ≡ true → (a || b) ≡ true
    either true b h = refl
    either false b h = h

-- the one at a number was acted on
acted_at : (k : ℕ) (ds : List DeviceState) (d : ℕ) (device : DeviceState) → slice_get ds d ≡ Some device → has_acted k device ≡ true → acted_on k ds ≡ true
acted_at k [] d device there h = absurd cc
acted_at k (x ∷ ds) zero device there h = ap (λ b. b || acted_on k ds) (ap (has_acted k) (some_is there) ∙ h)
acted_at k (x ∷ ds) (suc d) device there h = elim (has_acted k x) as (λ b. (b || acted_on k ds) ≡ true) [ true ↦ refl | false ↦ acted_at k ds d device there h ]

-- Lists

-- a device that is the same without link k
map_set_alike : (k : ℕ) (ds : List DeviceState) (d : ℕ) (x y : DeviceState) → slice_get ds d ≡ Some x → device_without k y ≡ device_without k x → map (device_without k) (slice_set ds d y) ≡ map (device_without k) ds
map_set_alike k [] d x y there same = absurd cc
map_set_alike k (z ∷ ds) zero x y there same = ap (λ u. u ∷ map (device_without k) ds) (same ∙ ap (device_without k) (sym (some_is there)))
map_set_alike k (z ∷ ds) (suc d) x y there same = ap (λ l. device_without k z ∷ l) (map_set_alike k ds d x y there same)

with_alike : (k d : ℕ) (f : DeviceState → DeviceState) (ds : List DeviceState) (device : DeviceState) → slice_get ds d ≡ Some device → device_without k (f device) ≡ device_without k device → map (device_without k) (with_device d f ds) ≡ map (device_without k) ds
with_alike k d f ds device there same = ap (λ o. map (device_without k) (device_set d f ds o)) there ∙ map_set_alike k ds d device (f device) there same

-- What link k does

-- link k has acted, or all else is the same without it
abbrev pub Unmoved : ℕ → EnvironmentState → EnvironmentState → Type 0
Unmoved k a b = (acted_on k b.devices ≡ true) ⊎ ((map (device_without k) b.devices ≡ map (device_without k) a.devices) × (without_waiter k b.waiting ≡ without_waiter k a.waiting))

pub unmoved_refl : (k : ℕ) (a : EnvironmentState) → Unmoved k a a
unmoved_refl k a = inr (refl, refl)

pub unmoved_trans : (k : ℕ) (a b c : EnvironmentState) → Laters b.devices c.devices → Unmoved k a b → Unmoved k b c → Unmoved k a c
unmoved_trans k a b c l (inl acted) h = inl (laters_acted k b.devices c.devices l acted)
unmoved_trans k a b c l (inr same) (inl acted) = inl acted
unmoved_trans k a b c l (inr same) (inr more) = inr (more.0 ∙ same.0, more.1 ∙ same.1)

-- a device becomes later: it is the same without link k, or that has acted on it
becomes_unmoved : (k d : ℕ) (f : DeviceState → DeviceState) (a b : EnvironmentState) (device : DeviceState) → slice_get b.devices d ≡ Some device → Later device (f device) → (device_without k (f device) ≡ device_without k device) ⊎ (has_acted k (f device) ≡ true) → Unmoved k a b →
    Unmoved k a (record b { devices = with_device d f b.devices })
becomes_unmoved k d f a b device there l acts (inl acted) = inl (laters_acted k b.devices (with_device d f b.devices) (laters.change d f b.devices (λ x is. subst (λ y. Later y (f y)) (some_is (sym there ∙ is)) l)) acted)
becomes_unmoved k d f a b device there l (inl alike) (inr same) = inr (with_alike k d f b.devices device there alike ∙ same.0, same.1)
becomes_unmoved k d f a b device there l (inr acts) (inr same) = inl (acted_at k (with_device d f b.devices) d (f device) (with_there d f b.devices device there) acts)

own_keeps : (k : ℕ) (a : EnvironmentState) → Keeps k (λ closing. Unit {0}) (λ p. Unmoved k a p.environment)
own_keeps k a =
    environment_keeps k (λ ds ws. Unmoved k a (record a { devices = ds; waiting = ws }))
    (λ ds ws d device f there l h. let r = l device there in becomes_unmoved k d f a (record a { devices = ds; waiting = ws }) device there r.lives.later (alike device (f device) r.acts) h)
    (λ ds ws d deferred w h. waiting ds ws d deferred h)
  where
    alike : (x y : DeviceState) → (y ≡ x) ⊎ (has_acted k y ≡ true) → (device_without k y ≡ device_without k x) ⊎ (has_acted k y ≡ true)
    alike x y (inl same) = inl (ap (device_without k) same)
    alike x y (inr acted) = inr acted

    waiting : (ds : List DeviceState) (ws : List Deferral) (d : ℕ) (deferred : Deferred) → Unmoved k a (record a { devices = ds; waiting = ws }) →
        Unmoved k a (record a { devices = ds; waiting = ws ++ record { link = k; device = d; deferred = deferred } ∷ [] })
    waiting ds ws d deferred (inl acted) = inl acted
    waiting ds ws d deferred (inr same) = inr (same.0, pushed_without (λ (w : Deferral). w.link) k ws (record { link = k; device = d; deferred = deferred }) refl ∙ same.1)

-- a deferred request of link k completes
completing_alike : (k : ℕ) (deferred : Deferred) (device : DeviceState) → (device_without k (complete_deferred k deferred device) ≡ device_without k device) ⊎ (has_acted k (complete_deferred k deferred device) ≡ true)
completing_alike k deferred device = alike deferred
  where
    gone : (deferred : Deferred) → filter (λ (c : Completion). not (c.link == k)) (device.completed ++ record { link = k; deferred = deferred; at = device.now } ∷ []) ≡ filter (λ c. not (c.link == k)) device.completed
    gone deferred = pushed_without (λ (c : Completion). c.link) k device.completed (record { link = k; deferred = deferred; at = device.now }) refl

    alike : (deferred : Deferred) → (device_without k (complete_deferred k deferred device) ≡ device_without k device) ⊎ (has_acted k (complete_deferred k deferred device) ≡ true)
    alike (deferred_record c start frames) = inl (ap (λ l. record device { completed = l }) (gone (deferred_record c start frames)))
    alike (deferred_play quiet start sound preempt) =
        let play : Deferred = deferred_play quiet start sound preempt in
        let done : Bool → DeviceState = λ b. record (complete_deferred k play device) { accepted = cond b device.accepted (device.accepted ++ record { start = start; samples = sound; preempt = preempt; at = device.now } ∷ []); actors = cond b device.actors (device.actors ++ k ∷ []) } in
        elim (length sound == 0) as (λ b. (device_without k (done b) ≡ device_without k device) ⊎ (has_acted k (done b) ≡ true)) [
          | true ↦ inl (ap (λ l. record device { completed = l }) (gone play))
          | false ↦ inr (now_acted k device.actors)
        ]

pub complete_own : (k d : ℕ) (deferred : Deferred) (p : OpenLink) → Unmoved k p.environment (complete_for (record { link = k; device = d; deferred = deferred }) (slice_get p.environment.devices d) p).environment
complete_own k d deferred p =
    complete_keeps k (λ closing. Unit {0}) (λ q. Unmoved k p.environment q.environment) (own_keeps k p.environment) d deferred (slice_get p.environment.devices d) p refl
    (λ device there h. becomes_unmoved k d (complete_deferred k deferred) p.environment p.environment device there (later_completing k device deferred) (completing_alike k deferred device) h) tt (unmoved_refl k p.environment)

advance_own : (k : ℕ) (p : OpenLink) → Unmoved k p.environment (advance k p).environment
advance_own k p = advance_keeps k (λ closing. Unit {0}) (λ q. Unmoved k p.environment q.environment) (own_keeps k p.environment) p (unmoved_refl k p.environment)

-- link k is dropped
without_twice : (k : ℕ) (ws : List Deferral) → without_waiter k (without_waiter k ws) ≡ without_waiter k ws
without_twice k [] = refl
without_twice k (w ∷ ws) =
    elim (not (w.link == k)) as (λ b. not (w.link == k) ≡ b → without_waiter k (cond b (w ∷ without_waiter k ws) (without_waiter k ws)) ≡ cond b (w ∷ without_waiter k ws) (without_waiter k ws)) [
      | true ↦ λ e. ap (λ b. cond b (w ∷ without_waiter k (without_waiter k ws)) (without_waiter k (without_waiter k ws))) e ∙ ap (λ l. w ∷ l) (without_twice k ws)
      | false ↦ λ e. without_twice k ws
    ] refl

dropped_own : (k : ℕ) (cause : Why) (p : OpenLink) → Unmoved k p.environment (drop_link k cause p).environment
dropped_own k cause p = inr (refl, without_twice k p.environment.waiting)

-- an event is queued for it, which touches no device
abbrev pub Untouched : ℕ → EnvironmentState → EnvironmentState → Type 0
Untouched k a b = (b.devices ≡ a.devices) × (without_waiter k b.waiting ≡ without_waiter k a.waiting)

pub tell_own : (k : ℕ) (e : Event) (a : EnvironmentState) (o : Option LinkState) → Untouched k a (tell_open k e a o).environment
tell_own k e a None = (refl, refl)
tell_own k e a (Some l) =
    let p = open_link a l in
    elim (selects (mask_of l e.device) e.kind) as (λ t. Untouched k a (cond t (tell_selected k e p) p).environment) [
      | true ↦ elim (nat_le (length l.pending + 20) event_limit) as (λ t. Untouched k a (cond t (say p (event_bytes l.order e l.sequence)) (drop_link k why.Overrun p)).environment) [
        | true ↦ (refl, refl)
        | false ↦ (refl, without_twice k a.waiting)
      ]
      | false ↦ (refl, refl)
    ]

-- Serving it

-- what serving link k takes off a log names only link k
record Own (k : ℕ) (a : EnvironmentState) (part : Log) (b : EnvironmentState) : Type 0 where
  later : Laters a.devices b.devices
  moved : Unmoved k a b
  gone : (rest : Log) → without k (part ++ rest) ≡ without k rest

own_refl : (k : ℕ) (a : EnvironmentState) → Own k a [] a
own_refl k a = record { later = laters.stay a.devices; moved = unmoved_refl k a; gone = λ rest. refl }

own_trans : (k : ℕ) (a : EnvironmentState) (p : Log) (b : EnvironmentState) (q : Log) (c : EnvironmentState) → Own k a p b → Own k b q c → Own k a (p ++ q) c
own_trans k a p b q c h i = record {
  later = laters.follow a.devices b.devices c.devices h.later i.later;
  moved = unmoved_trans k a b c i.later h.moved i.moved;
  gone = λ rest. ap (without k) (append_assoc p q rest) ∙ h.gone (q ++ rest) ∙ i.gone rest;
}

advance_later : (k : ℕ) (p : OpenLink) → Laters p.environment.devices (advance k p).environment.devices
advance_later k p = live_laters p.environment.devices (advance k p).environment.devices (advance_keeps k (λ closing. Unit {0}) (λ q. AllLive p.environment.devices q.environment.devices) (grows_keeps k p.environment.devices) p (all_live.stay p.environment.devices))

-- a happening that names link k is not there without it
named : (k : ℕ) (x y : Log) → cond (k == k) x y ≡ x
named k x y = ap (λ t. cond t x y) (same_number k)

own_absorbed : (k : ℕ) (bytes : List ℕ) (p : OpenLink) → Own k p.environment (Read k (Given bytes) ∷ []) (absorb k bytes p).environment
own_absorbed k bytes p =
    let q = open_link p.environment (record p.link { rest = p.link.rest ++ bytes }) in
    elim (is_none p.link.closing) as (λ t. Own k p.environment (Read k (Given bytes) ∷ []) (cond t (advance k q) p).environment) [
      | true ↦ record { later = advance_later k q; moved = advance_own k q; gone = λ rest. named k (without k rest) (Read k (Given bytes) ∷ without k rest) }
      | false ↦ record { later = laters.stay p.environment.devices; moved = unmoved_refl k p.environment; gone = λ rest. named k (without k rest) (Read k (Given bytes) ∷ without k rest) }
    ]

own_got : (k : ℕ) (p : OpenLink) (got : ReadGot) → Own k p.environment (Read k got ∷ []) (after_read k got p).environment
own_got k p (Given bytes) = own_absorbed k bytes p
own_got k p NotYet = record { later = laters.stay p.environment.devices; moved = unmoved_refl k p.environment; gone = λ rest. named k (without k rest) (Read k NotYet ∷ without k rest) }
own_got k p Ended = record { later = laters.stay p.environment.devices; moved = unmoved_refl k p.environment; gone = λ rest. named k (without k rest) (Read k Ended ∷ without k rest) }
own_got k p Failed = record { later = laters.stay p.environment.devices; moved = dropped_own k why.LinkFault p; gone = λ rest. named k (without k rest) (Read k Failed ∷ without k rest) }

own_read : (k : ℕ) (p : OpenLink) → Takes (read_phase k p) (λ part q. Own k p.environment part q.environment)
own_read k p = read_takes k p (λ part q. Own k p.environment part q.environment) (λ w. own_refl k p.environment) (λ w got r. own_got k p got)

own_wrote : (k : ℕ) (p q : OpenLink) (offered : ℕ) (took : Option (List ℕ)) → after_bytes_taken k took p ≡ Some q → Own k p.environment (Wrote k offered took ∷ []) q.environment
own_wrote k p q offered None e =
    subst (λ x. Own k p.environment (Wrote k offered None ∷ []) x.environment) (some_is e)
    (record { later = laters.stay p.environment.devices; moved = dropped_own k why.LinkFault p; gone = λ rest. named k (without k rest) (Wrote k offered None ∷ without k rest) })
own_wrote k p q offered (Some bytes) e =
    let left = open_link p.environment (send_pending (length bytes) p.link) in
    let t = cond-some (same_bytes bytes (take (length bytes) p.link.pending)) (Some (after_write k bytes p)) q e in
    subst (λ x. Own k p.environment (Wrote k offered (Some bytes) ∷ []) x.environment) (some_is t.1)
    (record { later = advance_later k left; moved = advance_own k left; gone = λ rest. named k (without k rest) (Wrote k offered (Some bytes) ∷ without k rest) })

own_one : (k : ℕ) (p q : OpenLink) (h : Happening) → write_by k p h ≡ Some q → Own k p.environment (h ∷ []) q.environment
own_one k p q (Wrote j offered took) e =
    let i = cond-some (j == k) (after_bytes_offered k offered took p) q e in
    let t = cond-some (offered == length p.link.pending) (after_bytes_taken k took p) q i.1 in
    subst (λ n. Own k p.environment (Wrote n offered took ∷ []) q.environment) (sym (eqb-true j k i.0)) (own_wrote k p q offered took t.1)
own_one k p q other e = absurd (none_some e)

own_write : (k : ℕ) (p : OpenLink) → Takes (write_phase k p) (λ part q. Own k p.environment part q.environment)
own_write k p log b e =
    write_takes k (λ p part q. Own k p.environment part q.environment) (λ p. own_refl k p.environment)
    (λ p q h w e part r s. own_trans k p.environment (h ∷ []) q.environment part r.environment (own_one k p q h e) s) log p b e

own_close : (k : ℕ) (p : OpenLink) → Takes (close_phase k p) (λ part d. Own k p.environment part d.environment)
own_close k p =
    close_takes k p (λ part d. Own k p.environment part d.environment) (own_refl k p.environment)
    (λ cause due. record { later = laters.stay p.environment.devices; moved = unmoved_refl k p.environment; gone = λ rest. named k (without k rest) (Closed k cause ∷ without k rest) })

own_link : (k : ℕ) (p : OpenLink) → Takes (serve_link k p) (λ part d. Own k p.environment part d.environment)
unfolding serve_link
own_link k p =
    takes_chain (read_phase k) (λ p log. parse_then (write_phase k p log) (close_phase k)) (λ p part q. Own k p.environment part q.environment) (λ p part d. Own k p.environment part d.environment) (λ p part d. Own k p.environment part d.environment)
    (λ p x q y d s t. own_trans k p.environment x q.environment y d.environment s t) (own_read k)
    (takes_chain (write_phase k) (close_phase k) (λ p part q. Own k p.environment part q.environment) (λ p part d. Own k p.environment part d.environment) (λ p part d. Own k p.environment part d.environment)
    (λ p x q y d s t. own_trans k p.environment x q.environment y d.environment s t) (own_write k) (own_close k)) p

-- whether it is open or not
pub serve_own : (k : ℕ) (a : EnvironmentState) (o : Option LinkState) (log : Log) (b : Parsed SlotLink) → serve_open k a o log ≡ Some b → Unmoved k a b.state.environment × (without k log ≡ without k b.log)
serve_own k a None log b e = subst (λ (c : Parsed SlotLink). Unmoved k a c.state.environment × (without k log ≡ without k c.log)) (some_is e) (unmoved_refl k a, refl)
serve_own k a (Some l) log b e =
    let t = own_link k (open_link a l) log b e in
    (t.holds.moved, ap (without k) t.whole ∙ t.holds.gone b.log)
