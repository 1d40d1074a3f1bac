-- Events are queued, and hooks are moved.
use Rattle.std.proofs.Common.{◌≡◌, ◌≢◌, ⊎_elim, ℕ, suc, ◌+◌, ◌-◌, ◌%◌, ◌^◌, ◌<◌, nat_le, Bool, true, false, cond, List, [], ◌∷◌, length, slice_get, slice_set, option_map, option_and_then, refl, sym, ap, ◌∙◌, subst}
use Rattle.std.specs.declared.option.Option.{Option}
use Rattle.std.specs.declared.option.Option.TheVariants.{None, Some}
use Rattle.af_limits.specs.Limits.{event_limit}
use Rattle.af_wire.specs.declared.event.Event.{Event}
use Rattle.af_wire.specs.Event.{event_bytes}
use Rattle.af_request.specs.declared.reply.Phone.{Phone}
use Rattle.af_phone.specs.declared.line.LineChange.{LineChange}
use Rattle.af_phone.specs.Lines.{hook_due}
use Rattle.af_world.specs.declared.happening.Happening.TheVariants.{Hooked}
use Rattle.af_world.specs.declared.happening.Wake.TheVariants.{Line}
use Rattle.af_world.specs.declared.happening.Why.{Why}
use Rattle.af_world.specs.declared.happening.Why.TheVariants as why
use Rattle.af_io.specs.Observed.{Appended}
use Rattle.af_world.specs.Log.{Log}
use Rattle.af_world.proofs.EqualityTestLemmas.{eq-refl}
use Rattle.af_model.specs.State.{State, DeviceState, LinkState, EnvironmentState, open_link, slot_link_at, with_device, device_set, none_selected, say}
use Rattle.af_model.specs.Events.{drop_link, after_hook, after_hook_failure, line_changes, tell, tell_at, tell_from, tell_open, tell_selected, without_waiter}
use Rattle.af_model.specs.Turn.{accept, wake_phase, line_phase, hook_all, hook_at, hook_for, hook_from, wanted_hook, same_flag}
use Rattle.af_model.proofs.SlotLemmas.{some_link, slot_link, links_of-set, length-links_of}
use Rattle.af_state.specs.Kept.{KeptDevice, StandsForDevice}
use Rattle.af_state.specs.Deferrals.{KeptDeferral, has_waiting, kept_without, AreLater, StandForDeferrals}
use Rattle.af_state.specs.SharedState.{StandsForLink, KeptSharedState, StandsForSharedState}
use Rattle.af_state.proofs.DeviceLemmas.{Found, found, state_there, stands_length, stands_set}
use Rattle.af_perform.proofs.DeviceRequestLemmas.{relined}
use Rattle.af_state.proofs.DeferralLemmas.{waits_set, without_later, without_others, without_waits}
use Rattle.af_core.specs.Stands.{StandsForSlot, Kept, OnlyDrops, StandsFor, kept_of}
use Rattle.af_core.specs.Simulates.{Simulates}
use Rattle.af_io.proofs.AppendedLemmas.{appended_none}
use Rattle.af_core.proofs.SimulationLemmas.{simulates_more, simulates_nothing, simulates_then, simulates_within}

-- a link is dropped
pub drops_at : (env : KeptSharedState) (ks' : List KeptDeferral) (k : ℕ) (cause : Why) (a : EnvironmentState) (l l' : LinkState) → ks' ≡ kept_without k env.waits →
    l' ≡ record l { rest = []; pending = []; closing = Some cause; selections = none_selected } → StandsForSharedState env a → StandsForLink (record env { waits = ks' }) l' (drop_link k cause (open_link a l))
drops_at env ks' k cause a l l' waits is h =
    ((h.0, subst (λ qs. StandForDeferrals a.devices qs (without_waiter k a.waiting)) (sym waits) (without_waits a.devices k env.waits a.waiting h.1)), sym is)

-- a link that has no room for an event is dropped
pub overruns_at : (env' : KeptSharedState) (k : ℕ) (e : Event) (a : EnvironmentState) (l l' : LinkState) → nat_le (length l.pending + 20) event_limit ≡ false →
    StandsForLink env' l' (drop_link k why.Overrun (open_link a l)) → StandsForLink env' l' (tell_selected k e (open_link a l))
overruns_at env' k e a l l' full h =
    subst (λ b. StandsForLink env' l' (cond b (say (open_link a l) (event_bytes l.order e l.sequence)) (drop_link k why.Overrun (open_link a l)))) (sym full) h

-- who has a deferred request, once one link may have lost its own
pub only_drops_others : (k j : ℕ) (env env' : KeptSharedState) → OnlyDrops k env env' → j ≢ k → has_waiting env'.waits j ≡ has_waiting env.waits j
only_drops_others k j env env' s apart = ⊎_elim (λ e. ap (λ (x : KeptSharedState). has_waiting x.waits j) e) (λ e. ap (λ (x : KeptSharedState). has_waiting x.waits j) e ∙ without_others k j env.waits apart) s

pub only_drops_later : (k : ℕ) (env env' : KeptSharedState) → OnlyDrops k env env' → AreLater env.waits → AreLater env'.waits
only_drops_later k env env' s l = ⊎_elim (λ e. subst (λ (x : KeptSharedState). AreLater x.waits) (sym e) l) (λ e. subst (λ (x : KeptSharedState). AreLater x.waits) (sym e) (without_later k env.waits l)) s

pub only_drops_devices : (k : ℕ) (env env' : KeptSharedState) → OnlyDrops k env env' → env'.devices ≡ env.devices
only_drops_devices k env env' s = ⊎_elim (λ e. ap (λ (x : KeptSharedState). x.devices) e) (λ e. ap (λ (x : KeptSharedState). x.devices) e) s

-- the event is queued for one link
one_told : (env env' : KeptSharedState) (links : List (Option LinkState)) (k : ℕ) (e : Event) (link link' : Option LinkState) → some_link (slice_get links k) ≡ link →
    ((a : EnvironmentState) → StandsForSharedState env a → StandsForSlot env' link' (tell_open k e a link)) → (s : State) → StandsFor (kept_of env links) s → StandsFor (kept_of env' (slice_set links k link')) (tell_at k e s)
one_told env env' links k e link link' here step s h =
    let d = slot_link_at k s in
    let is : d.link ≡ link = slot_link s.slots k ∙ ap (λ ls. some_link (slice_get ls k)) h.links ∙ here in
    let at : StandsForSlot env' link' (tell_open k e d.environment d.link) = subst (λ o. StandsForSlot env' link' (tell_open k e d.environment o)) (sym is) (step d.environment (h.devices, h.waiting)) in
    record {
      devices = at.0.0;
      waiting = at.0.1;
      links = links_of-set s.slots k (record { link = (tell_open k e d.environment d.link).link; said = (tell_open k e d.environment d.link).environment.said }) ∙ ap (λ ls. slice_set ls k (tell_open k e d.environment d.link).link) h.links ∙ ap (λ o. slice_set links k o) at.1;
    }

-- what is left to queue from a state that is stood for
pub record TellsOn (kept : Kept) (e : Event) (n k : ℕ) (s : State) : Type 0 where
  pub state : State
  pub stands : StandsFor kept state
  pub same : tell e s ≡ tell_from n k e state

pub tells_begin : (kept : Kept) (e : Event) (n : ℕ) (s : State) → n ≡ length kept.links → StandsFor kept s → TellsOn kept e n 0 s
unfolding tell
tells_begin kept e n s size h = record { state = s; stands = h; same = ap (λ m. tell_from m 0 e s) (sym (length-links_of s.slots) ∙ ap length h.links ∙ sym size) }

pub tells_more : (env env' : KeptSharedState) (links : List (Option LinkState)) (e : Event) (n m k : ℕ) (link link' : Option LinkState) (s : State) → n ≡ suc m → some_link (slice_get links k) ≡ link →
    ((a : EnvironmentState) → StandsForSharedState env a → StandsForSlot env' link' (tell_open k e a link)) → TellsOn (kept_of env links) e n k s → TellsOn (kept_of env' (slice_set links k link')) e m (k + 1) s
tells_more env env' links e n m k link link' s left here step t = record {
  state = tell_at k e t.state;
  stands = one_told env env' links k e link link' here step t.state t.stands;
  same = t.same ∙ ap (λ i. tell_from i k e t.state) left;
}

pub tells_end : (kept : Kept) (e : Event) (n k : ℕ) (s : State) → n ≡ 0 → TellsOn kept e n k s → StandsFor kept (tell e s)
tells_end kept e n k s none t = subst (StandsFor kept) (sym (t.same ∙ ap (λ i. tell_from i k e t.state) none)) t.stands

-- the line of a device becomes another, before an event reports it
pub lines_set : (kept : Kept) (d : ℕ) (x x' : KeptDevice) (line : Option Phone) (f : Phone → Phone) (s : State) (device : DeviceState) → slice_get kept.devices d ≡ Some x → x' ≡ record x { line = line } →
    slice_get s.devices d ≡ Some device → line ≡ option_map f device.line → StandsFor kept s →
    StandsFor (record kept { devices = slice_set kept.devices d x' }) (record s { devices = with_device d (λ device. record device { line = option_map f device.line }) s.devices })
lines_set kept d x x' line f s device here is there e h =
    let r : Found s.devices d x = found kept.devices s.devices d x here h.devices in
    let same : r.state ≡ device = let both : Some r.state ≡ Some device = sym r.here ∙ there in cc in
    let stands = subst (StandsForDevice x) same r.stands in
    let one : StandsForDevice x' (record device { line = option_map f device.line }) = relined f x x' line device stands (e ∙ ap (option_map f) (sym stands.line)) is in
    let set : List DeviceState = slice_set s.devices d (record device { line = option_map f device.line }) in
    let devices_are : with_device d (λ device. record device { line = option_map f device.line }) s.devices ≡ set = ap (λ o. device_set d (λ device. record device { line = option_map f device.line }) s.devices o) there in
    subst (λ xs. StandsFor (record kept { devices = slice_set kept.devices d x' }) (record s { devices = xs })) (sym devices_are)
    (record {
      devices = stands_set kept.devices s.devices d x' (record device { line = option_map f device.line }) h.devices one;
      waiting = waits_set s.devices d device (record device { line = option_map f device.line }) kept.waits s.waiting there refl refl refl h.waiting;
      links = h.links;
    })

-- the line that is kept of a device is that of its state
pub line_is : (kept : Kept) (d : ℕ) (x : KeptDevice) (s : State) (device : DeviceState) → slice_get kept.devices d ≡ Some x → slice_get s.devices d ≡ Some device → StandsFor kept s → x.line ≡ device.line
line_is kept d x s device here there h =
    let r : Found s.devices d x = found kept.devices s.devices d x here h.devices in
    let same : r.state ≡ device = let both : Some r.state ≡ Some device = sym r.here ∙ there in cc in
    r.stands.line ∙ ap (λ (y : DeviceState). y.line) same

-- the time of an event is the device's
pub time_is : (kept : Kept) (d : ℕ) (x : KeptDevice) (s : State) (device : DeviceState) (t : ℕ) → slice_get kept.devices d ≡ Some x → slice_get s.devices d ≡ Some device → t ≡ x.next.time → StandsFor kept s → t ≡ device.now % 2 ^ 32
time_is kept d x s device t here there is h =
    let r : Found s.devices d x = found kept.devices s.devices d x here h.devices in
    let same : r.state ≡ device = let both : Some r.state ≡ Some device = sym r.here ∙ there in cc in
    is ∙ r.stands.hears.time ∙ ap (λ (y : DeviceState). y.now % 2 ^ 32) same

-- a wake by which a line changes
pub line_changed : (t : Option Log) (kept kept' : Kept) (d : ℕ) (change : LineChange) → d < length kept.devices →
    ((s : State) (device : DeviceState) → StandsFor kept s → slice_get s.devices d ≡ Some device → StandsFor kept' (line_changes change d device s)) →
    Simulates t t (StandsFor kept) (StandsFor kept') (wake_phase (Line d change)) accept
unfolding wake_phase
line_changed t kept kept' d change there step = record {
  part = [];
  told = appended_none t;
  quiet = refl;
  each = λ s h.
      let r = state_there kept.devices s.devices d there h.devices in
      record {
        state = line_changes change d r.0 s;
        stands = step s r.0 h r.1;
        same = λ more. ap (λ o. line_phase change d o s more) r.1;
      };
}

-- Hooks

same_flag-refl : (b : Bool) → same_flag b b ≡ true
same_flag-refl true = refl
same_flag-refl false = refl

-- the wanted hook of a device is the one in the state
wanted_same : (x : KeptDevice) (device : DeviceState) → StandsForDevice x device → option_and_then hook_due x.line ≡ wanted_hook device
wanted_same x device h = ap (option_and_then hook_due) h.line

pub hooks_nothing : (t : Option Log) (kept : Kept) (d : ℕ) (x : KeptDevice) → slice_get kept.devices d ≡ Some x → option_and_then hook_due x.line ≡ None →
    Simulates t t (StandsFor kept) (StandsFor kept) (λ s log. hook_at d (slice_get s.devices d) s log) accept
hooks_nothing t kept d x here none =
    simulates_nothing t (StandsFor kept) (StandsFor kept) (λ s log. hook_at d (slice_get s.devices d) s log) accept (λ s. s) (λ s h. h)
    (λ s h log.
    let r : Found s.devices d x = found kept.devices s.devices d x here h.devices in
    ap (λ o. hook_at d o s log) r.here ∙ ap (λ o. hook_for d r.state o s log) (sym (wanted_same x r.state r.stands) ∙ none))

pub hooks_one : (a b : Option Log) (kept kept' : Kept) (d : ℕ) (x : KeptDevice) (off done : Bool) → d < length kept.devices → slice_get kept.devices d ≡ Some x → option_and_then hook_due x.line ≡ Some off →
    Appended a (Hooked d off done ∷ []) b → ((s : State) (device : DeviceState) → StandsFor kept s → slice_get s.devices d ≡ Some device → StandsFor kept' (cond done (after_hook off d device s) (after_hook_failure d s))) →
    Simulates a b (StandsFor kept) (StandsFor kept') (λ s log. hook_at d (slice_get s.devices d) s log) accept
hooks_one a b kept kept' d x off done there here wanted told step = record {
  part = Hooked d off done ∷ [];
  told = told;
  quiet = refl;
  each = λ s h.
      let r : Found s.devices d x = found kept.devices s.devices d x here h.devices in
      record {
        state = cond done (after_hook off d r.state s) (after_hook_failure d s);
        stands = step s r.state h r.here;
        same = λ more.
            ap (λ o. hook_at d o s (Hooked d off done ∷ more)) r.here ∙ ap (λ o. hook_for d r.state o s (Hooked d off done ∷ more)) (sym (wanted_same x r.state r.stands) ∙ wanted)
            ∙ rw (eq-refl d, same_flag-refl off);
      };
}

-- one hook of all
pub next_hooked : (a b c : Option Log) (count n k : ℕ) (kept kept' kept'' : Kept) → n ≡ suc (count - (k + 1)) → Simulates a b (StandsFor kept) (StandsFor kept') (hook_from count 0) (hook_from n k) →
    Simulates b c (StandsFor kept') (StandsFor kept'') (λ s log. hook_at k (slice_get s.devices k) s log) accept → Simulates a c (StandsFor kept) (StandsFor kept'') (hook_from count 0) (hook_from (count - (k + 1)) (k + 1))
unfolding hook_from
next_hooked a b c count n k kept kept' kept'' e d one =
    simulates_more d (subst (λ m. Simulates b c (StandsFor kept') (StandsFor kept'') (hook_from m k) (hook_from (count - (k + 1)) (k + 1))) (sym e)
    (simulates_then (hook_from (count - (k + 1)) (k + 1)) one))

pub none_hooked : (t : Option Log) (n m : ℕ) (kept : Kept) → n ≡ m → Simulates t t (StandsFor kept) (StandsFor kept) (hook_from n 0) (hook_from m 0)
none_hooked t n m kept e = simulates_nothing t (StandsFor kept) (StandsFor kept) (hook_from n 0) (hook_from m 0) (λ s. s) (λ s h. h) (λ s h log. ap (λ x. hook_from x 0 s log) e)

pub all_hooked : (a b : Option Log) (m k : ℕ) (kept kept' : Kept) → m ≡ 0 →
    Simulates a b (StandsFor kept) (StandsFor kept') (hook_from (length kept.devices) 0) (hook_from m k) → Simulates a b (StandsFor kept) (StandsFor kept') hook_all accept
unfolding hook_from
all_hooked a b m k kept kept' e d =
    simulates_within d (λ s. s) (λ s t. t) (λ s h. h) (λ s h t q. q)
    (λ s h t log more same. ap (λ n. hook_from n 0 s log) (stands_length kept.devices s.devices h.devices) ∙ same ∙ ap (λ x. hook_from x k t more) e)
