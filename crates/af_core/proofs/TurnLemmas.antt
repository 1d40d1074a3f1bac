-- A wake and then all links are a turn.
use Rattle.std.proofs.Common.{◌≡◌, ℕ, zero, suc, Bool, ℤ, pos, true, false, not, cond, ◌==◌, ◌<◌, ◌≤◌, ◌+◌, ◌*◌, List, [], ◌∷◌, ◌++◌, length, map, take, get_or, slice_get, slice_set, replicate, is_some, IfSome, IsSomeAnd, refl, sym, ap, ◌∙◌, subst, arith, append_assoc, length-set}
use Rattle.std.proofs.lemmas.List.{length-map, take_more}
use Rattle.std.proofs.lemmas.List.Elements.{All-cons}
use Rattle.std.proofs.Math.Nat.{mul_comm}
use Rattle.std.specs.List.{All}
use Rattle.std.specs.declared.option.Option.{Option}
use Rattle.std.specs.declared.option.Option.TheVariants.{None, Some}
use Rattle.af_limits.specs.Limits.{most_links, longest_tick}
use Rattle.af_world.specs.declared.happening.Happening.TheVariants.{Woke, Captured, Emitted}
use Rattle.af_world.specs.declared.happening.Wake.{Wake}
use Rattle.af_world.specs.declared.happening.Wake.TheVariants.{Opened, Readable, Writable, Ticked, Idle, Stop}
use Rattle.af_world.specs.declared.script.DeviceSpec.{DeviceSpec}
use Rattle.af_io.specs.Observed.{Appended}
use Rattle.af_world.specs.Log.{Log}
use Rattle.af_world.proofs.EqualityTestLemmas.{same_bytes-refl, eq-refl}
use Rattle.af_request.specs.declared.reply.Phone.{Phone}
use Rattle.af_model.specs.State.{State, DeviceState, LinkState, Deferral, opening_state, opening_device, new_link_state, links_of, lines_of, outline, outline_with, with_slot, slot_at, with_device, device_set}
use Rattle.af_model.specs.Reply.{horizon_of}
use Rattle.af_model.specs.Waiting.{due_time, AreDueLater}
use Rattle.af_model.specs.NoLoss.{LosesNone}
use Rattle.af_model.specs.Controls.{through_output_control}
use Rattle.af_model.specs.Tick.{next_sound, sound, tick, device_after, captured_samples, complete_due}
use Rattle.af_model.specs.Turn.{Parsed, accept, parse_then, parse_one, turn, fits, is_open_at, wake_phase, tick_phase, is_capture, capture_by, after_capture, emit_by, serve_and_hook, mark_readable, mark_writable, in_open, in_slot}
use Rattle.af_model.specs.Run.{wakes}
use Rattle.af_model.proofs.RunLemmas.{wakes-append-none}
use Rattle.af_model.proofs.WakeLemmas.{turn_lines}
use Rattle.af_model.proofs.SlotLemmas.{slot_link, links_of-set, some_link}
use Rattle.af_state.specs.Kept.{KeptDevice, StandsForDevice, StandForDevices}
use Rattle.af_state.specs.Deferrals.{KeptDeferral, StandsForDeferral, has_waiting, deferral_after_frames, waits_of, AreLater, StandForDeferrals}
use Rattle.af_state.specs.SharedState.{KeptSharedState}
use Rattle.af_core.specs.Stands.{AreOrderly, AreSettled, IsBetweenPhases, IsSettled, IsSettledSlot, Kept, Stands, StandsFor, StandForWaiting, Turns, kept_lines, kept_of, outline_of}
use Rattle.af_sample.specs.Channels.{frame_count}
use Rattle.af_sample.specs.Samples.{bytes_of, samples}
use Rattle.af_sample.specs.SampleTypes.{frame_bytes}
use Rattle.af_core.specs.Simulates.{Simulates}
use Rattle.af_core.specs.Live.{Passes, Ticks, TicksLive}
use Rattle.af_io.proofs.AppendedLemmas.{appended_none, appended_on}
use Rattle.af_core.proofs.LinkPhaseLemmas.{flag_settled, settled_here, settled_set}
use Rattle.af_core.proofs.SimulationLemmas.{simulates_nothing}
use Rattle.af_core.proofs.TickSizeLemmas.{are_frames}
use Rattle.af_state.proofs.DeviceLemmas.{found, stands_length, stands_set}
use Rattle.af_state.proofs.DeferralLemmas.{waits_passed}
use Rattle.af_state.proofs.PlayLemmas.{horizon_bounds}

-- what holds of no request, and of one more that waits for a frame or more, holds of all
each_later : (devices : List DeviceState) (Holds : List KeptDeferral → List Deferral → Type 0) → Holds [] [] →
    ((k : KeptDeferral) (w : Deferral) (ks : List KeptDeferral) (waiting : List Deferral) → 0 < k.wait.left → StandsForDeferral devices k w → Holds ks waiting → Holds (k ∷ ks) (w ∷ waiting)) →
    (ks : List KeptDeferral) (waiting : List Deferral) → AreLater ks → StandForDeferrals devices ks waiting → Holds ks waiting
each_later devices Holds none more [] [] l h = none
each_later devices Holds none more [] (w ∷ waiting) l h = absurd h
each_later devices Holds none more (k ∷ ks) [] l h = absurd h
each_later devices Holds none more (k ∷ ks) (w ∷ waiting) l h = more k w ks waiting l.0 h.0 (each_later devices Holds none more ks waiting l.1 h.1)

-- what waits for a frame or more is due later
due_later : (devices : List DeviceState) (ks : List KeptDeferral) (waiting : List Deferral) → AreLater ks → StandForDeferrals devices ks waiting → AreDueLater devices waiting
due_later devices = each_later devices (λ ks waiting. AreDueLater devices waiting) tt (λ k w ks waiting some one later.
    let left = one.left in
    (subst (λ o. IfSome o (λ s. s.now < due_time s.channels (horizon_of s) w.deferred)) (sym one.here) (omega (arith, some, left)), later))

-- the deferred requests as they are shown stand for those of the state
pub shown : (devices : List DeviceState) (ks : List KeptDeferral) (waiting : List Deferral) → AreLater ks → StandForDeferrals devices ks waiting → StandForWaiting devices (waits_of ks) waiting
shown devices = each_later devices (λ ks waiting. StandForWaiting devices (waits_of ks) waiting) tt (λ k w ks waiting some one others.
    let left = one.left in
    (one.link, one.device, subst (λ o. IsSomeAnd o (λ s. s.now + k.wait.left ≡ due_time s.channels (horizon_of s) w.deferred)) (sym one.here) (omega (arith, some, left)), others))

-- what holds of each state that a device stands for holds of the device at its number
pub device_shown : (core : Kept) (ds : List KeptDevice) (s : State) (d : ℕ) (x : KeptDevice) (Holds : DeviceState → Type 0) → ds ≡ core.devices → slice_get ds d ≡ Some x → Stands core s →
    ((y : DeviceState) → StandsForDevice x y → Holds y) → IsSomeAnd (slice_get s.devices d) Holds
device_shown core ds s d x Holds is here h holds =
    let there = found ds s.devices d x here (subst (λ xs. StandForDevices xs s.devices) (sym is) h.kept.devices) in
    subst (λ o. IsSomeAnd o Holds) (sym there.here) (holds there.state there.stands)

pub all_wait : (ks : List KeptDeferral) → AreLater ks → All (λ w. 0 < w.left) (waits_of ks)
all_wait [] l = λ k d low. absurd (omega arith)
all_wait (k ∷ ks) l = All-cons (λ w. 0 < w.left) k.wait (waits_of ks) l.0 (all_wait ks l.1)

-- no link is open
pub none_open : (n k : ℕ) (l : LinkState) → slice_get (replicate n None) k ≡ Some (Some l) → ⊥
none_open zero k l e = cc
none_open (suc n) zero l e = cc
none_open (suc n) (suc k) l e = none_open n k l e

-- a core at its start
starts_settled : (ks : List KeptDeferral) (links : List (Option LinkState)) → links ≡ replicate most_links None → AreSettled ks links
starts_settled ks links e k l is = absurd (none_open most_links k l (subst (λ (xs : List (Option LinkState)). slice_get xs k ≡ Some (Some l)) e is))

pub starts : (kept : Kept) (config : List DeviceSpec) → StandForDevices kept.devices (opening_state config).devices → kept.waits ≡ [] → kept.links ≡ replicate most_links None → IsBetweenPhases kept
starts kept config h waits e = record {
  orderly = record { links = ap length e; settled = starts_settled kept.waits kept.links e; later = subst AreLater (sym waits) tt };
  stands = (opening_state config, record { devices = h; waiting = subst (λ (qs : List KeptDeferral). StandForDeferrals (opening_state config).devices qs []) (sym waits) tt; links = sym e });
}

-- no deferred request has lost a sample
none_lost : (ds : List KeptDevice) (ss : List DeviceState) → StandForDevices ds ss → All (λ s. LosesNone s) ss
none_lost [] [] h = λ k d low. absurd (omega arith)
none_lost [] (s ∷ ss) h = absurd h
none_lost (d ∷ ds) [] h = absurd h
none_lost (d ∷ ds) (s ∷ ss) h = All-cons (λ s. LosesNone s) s ss h.0.whole (none_lost ds ss h.1)

pub stands_now : (kept : Kept) (s : State) → AreLater kept.waits → StandsFor kept s → Stands kept s
stands_now kept s l h = record { kept = h; later = due_later s.devices kept.waits s.waiting l h.waiting }

-- whether devices have lines is what the state says
pub same_lines : (ds : List KeptDevice) (ss : List DeviceState) → StandForDevices ds ss → lines_of ss ≡ kept_lines ds
same_lines [] [] h = refl
same_lines [] (s ∷ ss) h = absurd h
same_lines (d ∷ ds) [] h = absurd h
same_lines (d ∷ ds) (s ∷ ss) h = ap (λ (line : Option Phone). is_some line ∷ lines_of ss) (sym h.0.line) ∙ ap (λ l. is_some d.line ∷ l) (same_lines ds ss h.1)

-- which wakes may come is what the state says
pub same_outline : (kept : Kept) (s : State) → StandsFor kept s → outline s ≡ outline_of kept
same_outline kept s h = ap (λ n. outline_with n (links_of s.slots)) (same_lines kept.devices s.devices h.devices) ∙ ap (λ l. outline_with (kept_lines kept.devices) l) h.links

-- there are as many devices after a turn as before
same_count : (a b : State) (ds es : List KeptDevice) → lines_of b.devices ≡ lines_of a.devices → StandForDevices ds a.devices → StandForDevices es b.devices → length es ≡ length ds
same_count a b ds es e h g =
    let size : (ss : List DeviceState) → length (lines_of ss) ≡ length ss = λ ss. length-map ss (λ (s : DeviceState). is_some s.line) in
    sym (stands_length es b.devices g) ∙ sym (size b.devices) ∙ ap length e ∙ size a.devices ∙ stands_length ds a.devices h

pub turns : (a b c d : Option Log) (wake : Wake) (kept kept' kept'' : Kept) → fits (outline_of kept) wake ≡ true → IsBetweenPhases kept → AreOrderly kept''.waits kept''.links → Appended a (Woke wake ∷ []) b →
    Simulates b c (StandsFor kept) (StandsFor kept') (wake_phase wake) accept → Simulates c d (StandsFor kept') (StandsFor kept'') serve_and_hook accept → Turns a d wake kept kept''
unfolding turn
turns a b c d wake kept kept' kept'' fit old new told w e =
    let open_to : (s : State) → StandsFor kept s → fits (outline s) wake ≡ true = λ s h. ap (λ o. fits o wake) (same_outline kept s h) ∙ fit in
    let leads : (s : State) (h : StandsFor kept s) (more : Log) → turn s (Woke wake ∷ (w.part ++ e.part) ++ more) ≡ accept (e.each (w.each s h).state (w.each s h).stands).state more = λ s h more.
    let first = w.each s h in
    let second = e.each first.state first.stands in
    ap (λ b. cond b (parse_then (wake_phase wake s ((w.part ++ e.part) ++ more)) serve_and_hook) None) (open_to s h) ∙ rw append_assoc (ap (λ o. parse_then o serve_and_hook) (first.same (e.part ++ more)) ∙ second.same more) in
    let s = old.stands.0 in
    let first = w.each s old.stands.1 in
    let second = e.each first.state first.stands in
    record {
      devices = same_count s second.state kept.devices kept''.devices (turn_lines s ((Woke wake ∷ (w.part ++ e.part)) ++ []) (record { state = second.state; log = [] }) (leads s old.stands.1 [])) old.stands.1.devices second.stands.devices;
      links = new.links ∙ sym old.orderly.links;
      part = Woke wake ∷ (w.part ++ e.part);
      told = appended_on a b d (Woke wake ∷ []) (w.part ++ e.part) told (appended_on b c d w.part e.part w.told e.told);
      rest = w.part ++ e.part;
      begins = refl;
      only = wakes-append-none w.part e.part w.quiet e.quiet;
      each = λ s h.
          let first = w.each s h.kept in
          let second = e.each first.state first.stands in
          record {
            next = second.state;
            stands = stands_now kept'' second.state new.later second.stands;
            lossless = none_lost kept''.devices second.state.devices second.stands.devices;
            is_turn = leads s h.kept;
          };
    }

-- the state that is stood for after a part
pub simulates_leave : {a b : Option Log} (kept kept' : Kept) {f : State → Log → Option (Parsed State)} {g : State → Log → Option (Parsed State)} → Simulates a b (StandsFor kept) (StandsFor kept') f g →
    ((s : State) × StandsFor kept s) → (s : State) × StandsFor kept' s
simulates_leave kept kept' d h = let r = d.each h.0 h.1 in (r.state, r.stands)

-- what a core keeps after a part that leaves its links in order
pub simulates_keep : {a b : Option Log} (kept kept' : Kept) {f : State → Log → Option (Parsed State)} {g : State → Log → Option (Parsed State)} → Simulates a b (StandsFor kept) (StandsFor kept') f g → IsBetweenPhases kept →
    AreOrderly kept'.waits kept'.links → IsBetweenPhases kept'
simulates_keep kept kept' d old orderly = record { orderly = orderly; stands = simulates_leave kept kept' d old.stands }

-- Wakes of links

pub opens : (t : Option Log) (k : ℕ) (kept : Kept) (links' : List (Option LinkState)) → links' ≡ slice_set kept.links k (Some new_link_state) →
    Simulates t t (StandsFor kept) (StandsFor (record kept { links = links' })) (wake_phase (Opened k)) accept
unfolding wake_phase
opens t k kept links' e =
    simulates_nothing t (StandsFor kept) (StandsFor (record kept { links = links' })) (wake_phase (Opened k)) accept (λ s. with_slot k (record { link = Some new_link_state; said = [] }) s)
    (λ s h. record { devices = h.devices; waiting = h.waiting; links = links_of-set s.slots k (record { link = Some new_link_state; said = [] }) ∙ ap (λ l. slice_set l k (Some new_link_state)) h.links ∙ sym e })
    (λ s h log. refl)

-- a link that is open is one of the links
open_below : (links : List (Option LinkState)) (k : ℕ) → is_open_at (slice_get (map {A = Option LinkState} {B = Bool} is_some links) k) ≡ true → k < length links
open_below [] k e = absurd cc
open_below (x ∷ links) zero e = omega arith
open_below (x ∷ links) (suc k) e = let lt = open_below links k e in omega arith

pub read_below : (n : List Bool) (k : ℕ) (links : List (Option LinkState)) (wake : Wake) → wake ≡ Readable k → fits (outline_with n links) wake ≡ true → k < length links
read_below n k links wake e fit = open_below links k (subst (λ w. fits (outline_with n links) w ≡ true) e fit)

pub write_below : (n : List Bool) (k : ℕ) (links : List (Option LinkState)) (wake : Wake) → wake ≡ Writable k → fits (outline_with n links) wake ≡ true → k < length links
write_below n k links wake e fit = open_below links k (subst (λ w. fits (outline_with n links) w ≡ true) e fit)

-- a wake that sets a flag of a link, or clears it
flags : (t : Option Log) (k : ℕ) (f : LinkState → LinkState) (wake : Wake) (kept : Kept) (links' : List (Option LinkState)) (link : Option LinkState) →
    ((s : State) (log : Log) → wake_phase wake s log ≡ accept (with_slot k (in_slot f (slot_at k s)) s) log) → some_link (slice_get kept.links k) ≡ link → links' ≡ slice_set kept.links k (in_open f link) →
    Simulates t t (StandsFor kept) (StandsFor (record kept { links = links' })) (wake_phase wake) accept
flags t k f wake kept links' link simulates here e =
    simulates_nothing t (StandsFor kept) (StandsFor (record kept { links = links' })) (wake_phase wake) accept (λ s. with_slot k (in_slot f (slot_at k s)) s)
    (λ s h.
    let same : (slot_at k s).link ≡ link = slot_link s.slots k ∙ ap (λ l. some_link (slice_get l k)) h.links ∙ here in
    record { devices = h.devices; waiting = h.waiting; links = links_of-set s.slots k (in_slot f (slot_at k s)) ∙ ap (λ l. slice_set l k (in_open f (slot_at k s).link)) h.links ∙ ap (λ o. slice_set kept.links k (in_open f o)) same ∙ sym e })
    (λ s h log. simulates s log)

pub readies : (t : Option Log) (k : ℕ) (kept : Kept) (links' : List (Option LinkState)) (link : Option LinkState) → some_link (slice_get kept.links k) ≡ link → links' ≡ slice_set kept.links k (in_open mark_readable link) →
    Simulates t t (StandsFor kept) (StandsFor (record kept { links = links' })) (wake_phase (Readable k)) accept
unfolding wake_phase
readies t k kept links' link here e = flags t k mark_readable (Readable k) kept links' link (λ s log. refl) here e

pub unsticks : (t : Option Log) (k : ℕ) (kept : Kept) (links' : List (Option LinkState)) (link : Option LinkState) → some_link (slice_get kept.links k) ≡ link → links' ≡ slice_set kept.links k (in_open mark_writable link) →
    Simulates t t (StandsFor kept) (StandsFor (record kept { links = links' })) (wake_phase (Writable k)) accept
unfolding wake_phase
unsticks t k kept links' link here e = flags t k mark_writable (Writable k) kept links' link (λ s log. refl) here e

pub ready_settled : (waits : Bool) (l : LinkState) → IsSettled waits l → IsSettled waits (mark_readable l)
ready_settled waits l s = record { bounds = record { rest = s.bounds.rest; pending = s.bounds.pending }; short = s.short; room = s.room }

pub writable_settled : (waits : Bool) (l : LinkState) → IsSettled waits l → IsSettled waits (mark_writable l)
writable_settled waits l s = record { bounds = record { rest = s.bounds.rest; pending = s.bounds.pending }; short = s.short; room = s.room }

pub stays_idle : (t : Option Log) (kept : Kept) → Simulates t t (StandsFor kept) (StandsFor kept) (wake_phase Idle) accept
unfolding wake_phase
stays_idle t kept = simulates_nothing t (StandsFor kept) (StandsFor kept) (wake_phase Idle) accept (λ s. s) (λ s h. h) (λ s h log. refl)

pub stays_stop : (t : Option Log) (kept : Kept) → Simulates t t (StandsFor kept) (StandsFor kept) (wake_phase Stop) accept
unfolding wake_phase
stays_stop t kept = simulates_nothing t (StandsFor kept) (StandsFor kept) (wake_phase Stop) accept (λ s. s) (λ s h. h) (λ s h log. refl)

-- the same for a wake that equals another
pub at_wake : {a b : Option Log} {kept kept' : Kept} {wake wake' : Wake} → wake ≡ wake' → Simulates a b (StandsFor kept) (StandsFor kept') (wake_phase wake') accept → Simulates a b (StandsFor kept) (StandsFor kept') (wake_phase wake) accept
at_wake {a} {b} {kept} {kept'} {wake} {wake'} e d = subst (λ w. Simulates a b (StandsFor kept) (StandsFor kept') (wake_phase w) accept) (sym e) d

-- what is kept after a wake that changed one link, which is settled then
pub wake_keeps : {a b : Option Log} (env : KeptSharedState) (links : List (Option LinkState)) (k : ℕ) (link : Option LinkState) {f : State → Log → Option (Parsed State)} {g : State → Log → Option (Parsed State)} →
    Simulates a b (StandsFor (kept_of env links)) (StandsFor (kept_of env (slice_set links k link))) f g → IsBetweenPhases (kept_of env links) → IsSettledSlot (has_waiting env.waits k) link → IsBetweenPhases (kept_of env (slice_set links k link))
wake_keeps env links k link d old one =
    simulates_keep (kept_of env links) (kept_of env (slice_set links k link)) d old
    (record {
      links = length-set links k link ∙ old.orderly.links;
      settled = settled_set env.waits env.waits links k link old.orderly.settled (λ j apart. refl) one;
      later = old.orderly.later;
    })

-- the same where the wake set a flag of the link, or cleared it
pub flag_keeps : {a b : Option Log} (mark : LinkState → LinkState) (env : KeptSharedState) (links : List (Option LinkState)) (k : ℕ) (d old link : Option LinkState) {f : State → Log → Option (Parsed State)} {g : State → Log → Option (Parsed State)} →
    Simulates a b (StandsFor (kept_of env links)) (StandsFor (kept_of env (slice_set links k link))) f g → IsBetweenPhases (kept_of env links) → ((l : LinkState) → IsSettled (has_waiting env.waits k) l → IsSettled (has_waiting env.waits k) (mark l)) →
    old ≡ get_or links k d → k < length links → link ≡ in_open mark old → IsBetweenPhases (kept_of env (slice_set links k link))
flag_keeps mark env links k d old link woken between keeps is low marked =
    wake_keeps env links k link woken between (flag_settled mark (has_waiting env.waits k) old link keeps (settled_here env.waits links k k d old between.orderly.settled refl is low) marked)

-- Ticks

-- a device that failed
pub fails : (d : KeptDevice) (n : ℕ) (captured : List ℤ) (b : Bool) (s : DeviceState) → StandsForDevice d (device_after n captured b s) → StandsForDevice (record d { is_dead = true }) (device_after n captured true s)
fails d n captured b s h = record { ty = h.ty; rate = h.rate; listed = h.listed; ahead = h.ahead; back = h.back; hears = h.hears; keeps = h.keeps; whole = h.whole; controls = h.controls; line = h.line; dead = refl }

-- what is kept once n frames of a device have passed
abbrev pub passed_kept : ℕ → ℕ → KeptDevice → Kept → Kept
passed_kept k n d kept = record kept { devices = slice_set kept.devices k d; waits = map (deferral_after_frames k n) kept.waits }

-- where a tick leads before requests complete
record Passed (k n : ℕ) (kept : Kept) (d' : KeptDevice) (part : Log) (s : State) : Type 0 where
  captured : List ℤ
  is_dead : Bool
  stands : StandsFor (passed_kept k n d' kept) (record s { devices = with_device k (device_after n captured is_dead) s.devices })
  same : (more : Log) → wake_phase (Ticked k n) s (part ++ more) ≡ accept (tick k n captured is_dead s) more

-- a device has gone over sample periods, and so have the requests that wait for it
passed_on : (k n : ℕ) (kept : Kept) (d d' : KeptDevice) (s : State) (captured : List ℤ) (is_dead : Bool) (device : DeviceState) → n ≤ longest_tick → AreLater kept.waits → StandsFor kept s →
    slice_get s.devices k ≡ Some device → StandsForDevice d device → StandsForDevice d' (device_after n captured is_dead device) →
    StandsFor (passed_kept k n d' kept) (record s { devices = with_device k (device_after n captured is_dead) s.devices })
passed_on k n kept d d' s captured is_dead device few l h here stands one = record {
  devices = subst (λ o. StandForDevices (slice_set kept.devices k d') (device_set k (device_after n captured is_dead) s.devices o)) (sym here) (stands_set kept.devices s.devices k d' (device_after n captured is_dead device) h.devices one);
  waiting = subst (λ o. StandForDeferrals (device_set k (device_after n captured is_dead) s.devices o) (map (deferral_after_frames k n) kept.waits) s.waiting) (sym here)
      (waits_passed s.devices k n device captured is_dead kept.waits s.waiting here few (horizon_bounds device d stands).0 l h.waiting);
  links = h.links;
}

-- a dead device
passes_dead : (k n : ℕ) (kept : Kept) (d d' : KeptDevice) (given : List ℕ) → n ≤ longest_tick → AreLater kept.waits → slice_get kept.devices k ≡ Some d → d.is_dead ≡ true →
    Passes d d' n None given → (s : State) → StandsFor kept s → Passed k n kept d' [] s
unfolding wake_phase
passes_dead k n kept d d' given few l here dead p s h =
    let r = found kept.devices s.devices k d here h.devices in
    let silent = captured_samples r.state n None in
    let gone : StandsForDevice d' (device_after n silent true r.state) = subst (λ b. StandsForDevice d' (device_after n silent b r.state)) (sym r.stands.dead ∙ dead) (p.stands r.state r.stands) in
    record {
      captured = silent;
      is_dead = true;
      stands = passed_on k n kept d d' s silent true r.state few l h r.here r.stands gone;
      same = λ more.
          subst (λ o. tick_phase k n o s more ≡ accept (tick k n silent true s) more) (sym r.here)
          (ap (λ b. cond b (accept (tick k n silent true s) more) (parse_then (parse_one (capture_by k n r.state) more) (after_capture k n r.state s))) (sym r.stands.dead ∙ dead));
    }

-- a live device
passes_live : (a b : Option Log) (k n : ℕ) (kept : Kept) (d d' : KeptDevice) → n ≤ longest_tick → AreLater kept.waits → slice_get kept.devices k ≡ Some d → d.is_dead ≡ false →
    (t : TicksLive k n d d' a b) → (s : State) → StandsFor kept s → Passed k n kept d' t.part s
unfolding wake_phase
passes_live a b k n kept d d' few l here live t s h =
    let r = found kept.devices s.devices k d here h.devices in
    record {
      captured = captured_samples r.state n t.came;
      is_dead = t.is_dead;
      stands = passed_on k n kept d d' s (captured_samples r.state n t.came) t.is_dead r.state few l h r.here r.stands (t.stands r.state r.stands);
      same = λ more.
          subst (λ o. tick_phase k n o s (t.part ++ more) ≡ accept (tick k n (captured_samples r.state n t.came) t.is_dead s) more) (sym r.here)
          (ap (λ b. cond b (accept (tick k n (captured_samples r.state n None) true s) (t.part ++ more)) (parse_then (parse_one (capture_by k n r.state) (t.part ++ more)) (after_capture k n r.state s))) (sym r.stands.dead ∙ live)
          ∙ t.goes r.state r.stands s more);
    }

-- either, with the part that was added to the log
record PassesAll (a b : Option Log) (k n : ℕ) (kept : Kept) (d' : KeptDevice) : Type 0 where
  part : Log
  told : Appended a part b
  quiet : wakes part ≡ 0
  each : (s : State) → StandsFor kept s → Passed k n kept d' part s

passes_all : (a b : Option Log) (k n : ℕ) (kept : Kept) (d d' : KeptDevice) → n ≤ longest_tick → AreLater kept.waits → slice_get kept.devices k ≡ Some d → Ticks d.is_dead k n d d' a b → PassesAll a b k n kept d'
passes_all a b k n kept d d' few l here t =
    elim d.is_dead as (λ dead. d.is_dead ≡ dead → Ticks dead k n d d' a b → PassesAll a b k n kept d') [
      | true ↦ λ e t. subst (λ y. PassesAll a y k n kept d') t.2 (record { part = []; told = appended_none a; quiet = refl; each = passes_dead k n kept d d' t.0 few l here e t.1 })
      | false ↦ λ e t. record { part = t.part; told = t.told; quiet = t.quiet; each = passes_live a b k n kept d d' few l here e t }
    ] refl t

-- the state that is stood for before requests complete
pub passed_state : (a b : Option Log) (k n : ℕ) (kept : Kept) (d d' : KeptDevice) → n ≤ longest_tick → AreLater kept.waits → slice_get kept.devices k ≡ Some d → Ticks d.is_dead k n d d' a b →
    ((s : State) × StandsFor kept s) → (s : State) × StandsFor (passed_kept k n d' kept) s
passed_state a b k n kept d d' few l here t h =
    let p = (passes_all a b k n kept d d' few l here t).each h.0 h.1 in (record h.0 { devices = with_device k (device_after n p.captured p.is_dead) h.0.devices }, p.stands)

-- a tick, after which requests complete
pub ticks : (a b : Option Log) (k n : ℕ) (kept kept' : Kept) (d d' : KeptDevice) → n ≤ longest_tick → AreLater kept.waits → slice_get kept.devices k ≡ Some d → Ticks d.is_dead k n d d' a b →
    ((s : State) → StandsFor (passed_kept k n d' kept) s → StandsFor kept' (complete_due k s)) → Simulates a b (StandsFor kept) (StandsFor kept') (wake_phase (Ticked k n)) accept
ticks a b k n kept kept' d d' few l here t complete =
    let all = passes_all a b k n kept d d' few l here t in
    record {
      part = all.part;
      told = all.told;
      quiet = all.quiet;
      each = λ s h.
          let p = all.each s h in
          record { state = tick k n p.captured p.is_dead s; stands = complete (record s { devices = with_device k (device_after n p.captured p.is_dead) s.devices }) p.stands; same = p.same };
    }

-- the samples that come to a device
came_samples : (came : Bool) (n m : ℕ) (bytes : List ℕ) (xs : List ℤ) (s : DeviceState) → m ≡ n * s.channels → xs ≡ cond came (samples s.ty bytes) (replicate m (pos 0)) → xs ≡ captured_samples s n (cond came (Some bytes) None)
came_samples true n m bytes xs s all is = is
came_samples false n m bytes xs s all is = is ∙ ap (λ k. replicate k (pos 0)) (all ∙ mul_comm n s.channels)

-- a device that took them in, and the sound that it gave, after n frames
pub passes_by : (came : Bool) (n m : ℕ) (d d' : KeptDevice) (bytes given : List ℕ) (xs sound : List ℤ) → m ≡ n * d.next.channels → length xs ≡ m → xs ≡ cond came (samples d.ty bytes) (replicate m (pos 0)) → given ≡ bytes_of d.ty sound →
    ((s : DeviceState) → StandsForDevice d s → StandsForDevice d' (device_after (frame_count s.channels xs) xs s.is_dead s)) →
    ((s : DeviceState) → StandsForDevice d s → sound ≡ through_output_control s.controls (next_sound s (frame_count s.channels xs))) → Passes d d' n (cond came (Some bytes) None) given
passes_by came n m d d' bytes given xs sound all size is told stands hands = record {
  stands = λ s h.
      let all' = all ∙ ap (λ c. n * c) h.hears.channels in
      let frames = are_frames xs n s.channels (size ∙ all') h.hears.count in
      let came_in = came_samples came n m bytes xs s all' (is ∙ ap (λ ty. cond came (samples ty bytes) (replicate m (pos 0))) h.ty) in
      subst (λ ys. StandsForDevice d' (device_after n ys s.is_dead s)) came_in (subst (λ k. StandsForDevice d' (device_after k xs s.is_dead s)) frames (stands s h));
  gives = λ s h.
      let frames = are_frames xs n s.channels (size ∙ all ∙ ap (λ c. n * c) h.hears.channels) h.hears.count in
      told ∙ ap (λ ty. bytes_of ty sound) h.ty ∙ ap (bytes_of s.ty) (hands s h ∙ ap (λ k. through_output_control s.controls (next_sound s k)) frames);
}

-- the calls of a live device

capture_taken : (k n : ℕ) (device : DeviceState) (got : Option (List ℕ)) → is_capture n device got ≡ true → (log : Log) → parse_one (capture_by k n device) (Captured k n got ∷ log) ≡ accept got log
capture_taken k n device got fits log = rw (eq-refl k, eq-refl n, fits)

emit_taken : (k n : ℕ) (device : DeviceState) (captured : List ℤ) (s : State) (done : Bool) (log : Log) → parse_one (emit_by k n device captured s) (Emitted k (sound device n) done ∷ log) ≡ accept (tick k n captured (not done) s) log
emit_taken k n device captured s done log = rw (eq-refl k, same_bytes-refl (sound device n))

pub capture_failed : (a b : Option Log) (k n : ℕ) (d d' e : KeptDevice) (came : Bool) (bytes given : List ℕ) → came ≡ false → Passes d d' n (cond came (Some bytes) None) given →
    Appended a (Captured k n (cond came (Some bytes) None) ∷ []) b → e ≡ record d' { is_dead = true } → TicksLive k n d e a b
capture_failed a b k n d d' e true bytes given f p told is = absurd cc
capture_failed a b k n d d' e false bytes given f p told is = record {
  part = Captured k n None ∷ [];
  told = told;
  quiet = refl;
  came = None;
  is_dead = true;
  stands = λ device h. subst (λ x. StandsForDevice x (device_after n (captured_samples device n None) true device)) (sym is) (fails d' n (captured_samples device n None) device.is_dead device (p.stands device h));
  goes = λ device h s more. ap (λ x. parse_then x (after_capture k n device s)) (capture_taken k n device None refl more);
}

-- the bytes that came fit, and the sound that is handed out is the right one
capture_emitted : (a b c : Option Log) (k n : ℕ) (d d' e : KeptDevice) (bytes given : List ℕ) (done : Bool) → length bytes ≡ n * frame_bytes d.ty d.next.channels → Passes d d' n (Some bytes) given →
    Appended a (Captured k n (Some bytes) ∷ []) b → Appended b (Emitted k given done ∷ []) c →
    ((device : DeviceState) → StandsForDevice d device → StandsForDevice e (device_after n (captured_samples device n (Some bytes)) (not done) device)) → TicksLive k n d e a c
capture_emitted a b c k n d d' e bytes given done size p told told' stands = record {
  part = Captured k n (Some bytes) ∷ Emitted k given done ∷ [];
  told = appended_on a b c (Captured k n (Some bytes) ∷ []) (Emitted k given done ∷ []) told told';
  quiet = refl;
  came = Some bytes;
  is_dead = not done;
  stands = stands;
  goes = λ device h s more.
      let same : n * frame_bytes d.ty d.next.channels ≡ n * frame_bytes device.ty device.channels = ap (λ t. n * frame_bytes t d.next.channels) h.ty ∙ ap (λ c. n * frame_bytes device.ty c) h.hears.channels in
      let fits : is_capture n device (Some bytes) ≡ true = ap (λ m. m == n * frame_bytes device.ty device.channels) (size ∙ same) ∙ eq-refl (n * frame_bytes device.ty device.channels) in
      ap (λ x. parse_then x (after_capture k n device s)) (capture_taken k n device (Some bytes) fits (Emitted k given done ∷ more))
      ∙ ap (λ g. parse_one (emit_by k n device (captured_samples device n (Some bytes)) s) (Emitted k g done ∷ more)) (p.gives device h)
      ∙ emit_taken k n device (captured_samples device n (Some bytes)) s done more;
}

pub emit_failed : (a b c : Option Log) (k n : ℕ) (d d' e : KeptDevice) (came done : Bool) (bytes given : List ℕ) → came ≡ true → done ≡ false → length bytes ≡ n * frame_bytes d.ty d.next.channels → Passes d d' n (cond came (Some bytes) None) given →
    Appended a (Captured k n (cond came (Some bytes) None) ∷ []) b → Appended b (Emitted k given done ∷ []) c → e ≡ record d' { is_dead = true } → TicksLive k n d e a c
emit_failed a b c k n d d' e false done bytes given t f size p told told' is = absurd cc
emit_failed a b c k n d d' e true true bytes given t f size p told told' is = absurd cc
emit_failed a b c k n d d' e true false bytes given t f size p told told' is =
    capture_emitted a b c k n d d' e bytes given false size p told told'
    (λ device h. subst (λ x. StandsForDevice x (device_after n (captured_samples device n (Some bytes)) true device)) (sym is) (fails d' n (captured_samples device n (Some bytes)) device.is_dead device (p.stands device h)))

pub emit_done : (a b c : Option Log) (k n : ℕ) (d d' : KeptDevice) (came done : Bool) (bytes given : List ℕ) → came ≡ true → done ≡ true → d.is_dead ≡ false → length bytes ≡ n * frame_bytes d.ty d.next.channels → Passes d d' n (cond came (Some bytes) None) given →
    Appended a (Captured k n (cond came (Some bytes) None) ∷ []) b → Appended b (Emitted k given done ∷ []) c → TicksLive k n d d' a c
emit_done a b c k n d d' false done bytes given t f live size p told told' = absurd cc
emit_done a b c k n d d' true false bytes given t f live size p told told' = absurd cc
emit_done a b c k n d d' true true bytes given t f live size p told told' =
    capture_emitted a b c k n d d' d' bytes given true size p told told'
    (λ device h. subst (λ b. StandsForDevice d' (device_after n (captured_samples device n (Some bytes)) b device)) (sym h.dead ∙ live) (p.stands device h))

-- Starts

one_started : (ds : List KeptDevice) (config : List DeviceSpec) (d : KeptDevice) (spec : DeviceSpec) → StandsForDevice d (opening_device spec) →
    StandForDevices ds (map opening_device config) → StandForDevices (ds ++ d ∷ []) (map opening_device (config ++ spec ∷ []))
one_started [] [] d spec e h = (e, tt)
one_started [] (c ∷ config) d spec e h = absurd h
one_started (x ∷ ds) [] d spec e h = absurd h
one_started (x ∷ ds) (c ∷ config) d spec e h = (h.0, one_started ds config d spec e h.1)

-- one more device at its start
pub next_started : (ds ds' : List KeptDevice) (config : List DeviceSpec) (i : ℕ) (d : KeptDevice) (fallback : DeviceSpec) → i < length config → ds' ≡ ds ++ d ∷ [] → StandsForDevice d (opening_device (get_or config i fallback)) →
    StandForDevices ds (map opening_device (take i config)) → StandForDevices ds' (map opening_device (take (i + 1) config))
next_started ds ds' config i d fallback lt e one h = rw (e, take_more config i fallback lt) (one_started ds (take i config) d (get_or config i fallback) one h)
