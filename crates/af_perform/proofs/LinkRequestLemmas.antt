-- Requests of a link, in any environment.
use Rattle.std.proofs.Common.{◌≡◌, ℕ, zero, suc, ℤ, Bool, true, false, not, nat_lt, nat_le, ◌&&◌, cond, min, Ok, Err, [], ◌∷◌, ◌+◌, ◌-◌, ◌*◌, ◌%◌, ◌^◌, ◌<◌, ◌≤◌, List, ◌++◌, length, get_or, slice_get, slice_set, refl, sym, ap, ◌∙◌, subst, arith}
use Rattle.std.proofs.lemmas.Bool.Decides.{nat_tests}
use Rattle.std.specs.declared.option.Option.{Option}
use Rattle.std.specs.declared.option.Option.TheVariants.{None, Some}
use Rattle.af_limits.specs.Limits.{longest_play, longest_record}
use Rattle.af_time.specs.DeviceTime.{unwrap}
use Rattle.af_sample.specs.Channels.{AreWholeFrames, IsChannelCount, frame_count}
use Rattle.af_sample.specs.SampleTypes.{frame_bytes}
use Rattle.af_sample.specs.Heard.{AcceptedPlay}
use Rattle.af_context.specs.declared.Context.{Context}
use Rattle.af_context.specs.declared.ContextFault.TheVariants.{BadAc as BadAc'}
use Rattle.af_context.specs.Contexts.{is_in_use, reference, with_changed, with_settings}
use Rattle.af_wire.specs.Message.{error}
use Rattle.af_request.specs.Answer.{plain, time, played, recorded}
use Rattle.af_request.specs.Opcodes as opcodes
use Rattle.af_buffers.specs.PlayBuffer.{accepted_at, frames_beyond as play_beyond, frames_within}
use Rattle.af_buffers.specs.RecordBuffer.{frames_before, frames_until_past as record_beyond}
use Rattle.af_model.specs.declared.refusal.RefusalCause.TheVariants.{BadAc, BadValue}
use Rattle.af_model.specs.declared.refusal.Refusal.{Refusal}
use Rattle.af_model.specs.State.{DeviceState, Deferred, deferred_play, deferred_record, LinkState, EnvironmentState, OpenLink, open_link, with_device, device_set}
use Rattle.af_model.specs.Reply.{code_of_cause, reply_message}
use Rattle.af_model.specs.Checks.{check, check_gain, where_named, refuse_or, in_device}
use Rattle.af_model.specs.ContextRequests.{change, change_refusal, named_gain, named_preempt}
use Rattle.af_model.specs.Waiting.{wait}
use Rattle.af_model.specs.Play.{accept_play, entry_now, frames_of, in_devices, sent_sound, start_play, tell_played}
use Rattle.af_model.specs.Record.{give_record, given_frames, recorded_bytes, start_record}
use Rattle.af_model.specs.Tick.{answer_deferred, complete_deferred}
use Rattle.af_model.specs.Perform.{channels_at, tell_time}
use Rattle.af_model.proofs.DueLemmas.{sent_frames}
use Rattle.af_model.proofs.SafeLemmas.{SameClock}
use Rattle.af_model.proofs.BoolTestLemmas.{both-true}
use Rattle.af_state.specs.Kept.{KeptDevice, StandsForDevice, StandForDevices, kept_channels_at}
use Rattle.af_state.specs.Deferrals.{KeptDeferral, IsNear, StandsForDeferral, StandForDeferrals, with_start_word}
use Rattle.af_state.specs.SharedState.{KeptSharedState, StandsForSharedState, StandsForLink, ChangesLinkIn, ChangesLink, kept_shared_state}
use Rattle.af_state.proofs.DeviceLemmas.{Found, device_at, found, not_found, same_channels, same_set, state_there, stands_set}
use Rattle.af_state.proofs.PlayLemmas.{before-same, within-same, play_beyond-same, record_beyond-same, near_start, start_meant, horizon_bounds, completes}
use Rattle.af_state.proofs.DeferredRequestLemmas.{play_is, record_is}
use Rattle.af_state.proofs.DeferralLemmas.{waits_push, waits_set}
use Rattle.af_perform.proofs.CheckLemmas.{frames_fit, pass_first, not_false}

-- what leads a link, leads it at each place
pub leads_at : (ds : List KeptDevice) (ks : List KeptDeferral) (l l' : LinkState) (f : OpenLink → OpenLink) (a : EnvironmentState) → ChangesLinkIn a f l l' → StandsForSharedState (kept_shared_state ds ks) a → StandsForLink (kept_shared_state ds ks) l' (f (open_link a l))
leads_at ds ks l l' f a leads h =
    ((subst (StandForDevices ds) (sym leads.1) h.0, subst (λ ws. StandForDeferrals (f (open_link a l)).environment.devices ks ws) (sym leads.2) (subst (λ devices. StandForDeferrals devices ks a.waiting) (sym leads.1) h.1)), leads.0)

-- a link that is refused
abbrev pub with_error : ℕ → Refusal → LinkState → LinkState
with_error opcode r l = record l { pending = l.pending ++ error l.order (code_of_cause r.cause) r.value opcode l.sequence }

pub leads_refused : (l l' : LinkState) (opcode : ℕ) (o : Option Refusal) (r : Refusal) (f : OpenLink → OpenLink) → o ≡ Some r → l' ≡ with_error opcode r l → ChangesLink (refuse_or opcode o f) l l'
leads_refused l l' opcode o r f is e = subst (λ o. ChangesLink (refuse_or opcode o f) l l') (sym is) (λ a. (sym e, refl, refl))

pub leads_passed : (l l' : LinkState) (opcode : ℕ) (o : Option Refusal) (f : OpenLink → OpenLink) → o ≡ None → ChangesLink f l l' → ChangesLink (refuse_or opcode o f) l l'
leads_passed l l' opcode o f is leads = subst (λ o. ChangesLink (refuse_or opcode o f) l l') (sym is) leads

-- the same for checks that look at the channels of a device
pub matches_refused : (ds : List KeptDevice) (ks : List KeptDeferral) (l l' : LinkState) (opcode d : ℕ) (check : Option ℕ → Option Refusal) (r : Refusal) (f : OpenLink → OpenLink) → check (kept_channels_at ds d) ≡ Some r → l' ≡ with_error opcode r l →
    (a : EnvironmentState) → StandsForSharedState (kept_shared_state ds ks) a → StandsForLink (kept_shared_state ds ks) l' (refuse_or opcode (check (channels_at a.devices d)) f (open_link a l))
matches_refused ds ks l l' opcode d check r f is e a h =
    leads_at ds ks l l' (refuse_or opcode (check (channels_at a.devices d)) f) a (leads_refused l l' opcode (check (channels_at a.devices d)) r f (ap check (sym (same_channels ds a.devices d h.0)) ∙ is) e a) h

pub matches_passed : (ds : List KeptDevice) (ks : List KeptDeferral) (l l' : LinkState) (opcode d : ℕ) (check : Option ℕ → Option Refusal) (f : OpenLink → OpenLink) → check (kept_channels_at ds d) ≡ None → ChangesLink f l l' →
    (a : EnvironmentState) → StandsForSharedState (kept_shared_state ds ks) a → StandsForLink (kept_shared_state ds ks) l' (refuse_or opcode (check (channels_at a.devices d)) f (open_link a l))
matches_passed ds ks l l' opcode d check f is leads a h =
    leads_at ds ks l l' (refuse_or opcode (check (channels_at a.devices d)) f) a (leads_passed l l' opcode (check (channels_at a.devices d)) f (ap check (sym (same_channels ds a.devices d h.0)) ∙ is) leads a) h

-- a request that names a device

pub device_missing : (ds : List KeptDevice) (ks : List KeptDeferral) (l l' : LinkState) (opcode d value : ℕ) (f : DeviceState → OpenLink → OpenLink) → length ds ≤ d → value ≡ d → l' ≡ record l { pending = l.pending ++ error l.order 3 value opcode l.sequence } →
    (a : EnvironmentState) → StandsForSharedState (kept_shared_state ds ks) a → StandsForLink (kept_shared_state ds ks) l' (in_device opcode d f (slice_get a.devices d) (open_link a l))
device_missing ds ks l l' opcode d value f past v e a h =
    let refused : ℕ → LinkState = λ t. record l { pending = l.pending ++ error l.order 3 t opcode l.sequence } in
    subst (λ o. StandsForLink (kept_shared_state ds ks) l' (in_device opcode d f o (open_link a l))) (sym (not_found ds a.devices d past h.0)) (h, ap refused (sym v) ∙ sym e)

pub device_found : (ds ds' : List KeptDevice) (ks ks' : List KeptDeferral) (l l' : LinkState) (opcode d : ℕ) (x : KeptDevice) (f : DeviceState → OpenLink → OpenLink) → slice_get ds d ≡ Some x →
    ((a : EnvironmentState) (s : DeviceState) → StandsForSharedState (kept_shared_state ds ks) a → slice_get a.devices d ≡ Some s → StandsForDevice x s → StandsForLink (kept_shared_state ds' ks') l' (f s (open_link a l))) →
    (a : EnvironmentState) → StandsForSharedState (kept_shared_state ds ks) a → StandsForLink (kept_shared_state ds' ks') l' (in_device opcode d f (slice_get a.devices d) (open_link a l))
device_found ds ds' ks ks' l l' opcode d x f here step a h =
    let r : Found a.devices d x = found ds a.devices d x here h.0 in
    subst (λ o. StandsForLink (kept_shared_state ds' ks') l' (in_device opcode d f o (open_link a l))) (sym r.here) (step a r.state h r.here r.stands)

-- what a device at a number stands for
pub stands_here : (ds : List KeptDevice) (ks : List KeptDeferral) (a : EnvironmentState) (d : ℕ) (x : KeptDevice) (s : DeviceState) → StandsForSharedState (kept_shared_state ds ks) a → slice_get ds d ≡ Some x → slice_get a.devices d ≡ Some s → StandsForDevice x s
stands_here ds ks a d x s h here there =
    let r : Found a.devices d x = found ds a.devices d x here h.0 in
    let same : r.state ≡ s = let both : Some r.state ≡ Some s = sym r.here ∙ there in cc in
    subst (StandsForDevice x) same r.stands

-- what is kept at the number of a device stands for the device
pub device_here : (e : KeptSharedState) (ds : List KeptDevice) (ks : List KeptDeferral) (a : EnvironmentState) (i d : ℕ) (x : KeptDevice) (s : DeviceState) → kept_shared_state ds ks ≡ e → i ≡ d → d < length e.devices → x ≡ get_or ds i x →
    StandsForSharedState e a → slice_get a.devices d ≡ Some s → StandsForSharedState (kept_shared_state ds ks) a × StandsForDevice x s
device_here e ds ks a i d x s view number there at h known =
    let environment = subst (λ (e : KeptSharedState). StandsForSharedState e a) (sym view) h in
    let low = subst (λ (e : KeptSharedState). d < length e.devices) (sym view) there in
    let here = device_at ds i d x number (omega (arith, low, number)) ∙ ap (λ x. Some x) (sym at) in
    (environment, stands_here ds ks a d x s environment here known)

-- the same, where a context names the device
pub device_named : (e : KeptSharedState) (ds : List KeptDevice) (ks : List KeptDeferral) (a : EnvironmentState) (i d named : ℕ) (x : KeptDevice) (s : DeviceState) → kept_shared_state ds ks ≡ e → i ≡ d → d < length e.devices → x ≡ get_or ds i x →
    StandsForSharedState e a → d ≡ named → slice_get a.devices named ≡ Some s → (slice_get a.devices d ≡ Some s) × StandsForSharedState (kept_shared_state ds ks) a × StandsForDevice x s
device_named e ds ks a i d named x s view number there at h is known =
    let own : slice_get a.devices d ≡ Some s = ap (slice_get a.devices) is ∙ known in
    let here = device_here e ds ks a i d x s view number there at h own in
    (own, here.0, here.1)

-- a device exists whose number is below the number of devices
pub kept_there : (ds : List KeptDevice) (d : ℕ) → d < length ds → (x : KeptDevice) × (slice_get ds d ≡ Some x)
kept_there [] d low = absurd (omega arith)
kept_there (x ∷ ds) zero low = (x, refl)
kept_there (x ∷ ds) (suc d) low = kept_there ds d (omega arith)

-- it is kept if its number is below the number of those that are lent
pub device_lent : (e : KeptSharedState) (ds lent : List KeptDevice) (ks : List KeptDeferral) (i d : ℕ) (x : KeptDevice) → kept_shared_state ds ks ≡ e → lent ≡ ds → i ≡ d → d < length lent → x ≡ get_or ds i x → slice_get e.devices d ≡ Some x
device_lent e ds lent ks i d x view same number there at =
    let low : d < length ds = subst (λ xs. d < length xs) same there in
    subst (λ (e : KeptSharedState). slice_get e.devices d ≡ Some x) view (device_at ds i d x number (omega (arith, low, number)) ∙ ap (λ x. Some x) (sym at))

-- none is kept if it is not
pub none_lent : (e : KeptSharedState) (ds lent : List KeptDevice) (ks : List KeptDeferral) (d : ℕ) → kept_shared_state ds ks ≡ e → lent ≡ ds → length lent ≤ d → length e.devices ≤ d
none_lent e ds lent ks d view same past = subst (λ (e : KeptSharedState). length e.devices ≤ d) view (subst (λ xs. length xs ≤ d) same past)

-- it exists in its environment
pub device_there : (e : KeptSharedState) (ds : List KeptDevice) (ks : List KeptDeferral) (i d : ℕ) (x : KeptDevice) → kept_shared_state ds ks ≡ e → i ≡ d → d < length e.devices → x ≡ get_or ds i x → slice_get e.devices d ≡ Some x
device_there e ds ks i d x view number there at = device_lent e ds ds ks i d x view refl number (subst (λ (e : KeptSharedState). d < length e.devices) (sym view) there) at

-- a device that exists
pub any_device : (ds ds' : List KeptDevice) (ks ks' : List KeptDeferral) (l l' : LinkState) (opcode d : ℕ) (f : DeviceState → OpenLink → OpenLink) → d < length ds →
    ((a : EnvironmentState) (s : DeviceState) → StandsForSharedState (kept_shared_state ds ks) a → slice_get a.devices d ≡ Some s → StandsForLink (kept_shared_state ds' ks') l' (f s (open_link a l))) →
    (a : EnvironmentState) → StandsForSharedState (kept_shared_state ds ks) a → StandsForLink (kept_shared_state ds' ks') l' (in_device opcode d f (slice_get a.devices d) (open_link a l))
any_device ds ds' ks ks' l l' opcode d f there step a h =
    let r = state_there ds a.devices d there h.0 in
    subst (λ o. StandsForLink (kept_shared_state ds' ks') l' (in_device opcode d f o (open_link a l))) (sym r.1) (step a r.0 h r.1)

-- the time that is kept is the time that is replied
pub time_told : (l l' : LinkState) (x : KeptDevice) (t : ℕ) → t ≡ x.next.time → l' ≡ record l { pending = l.pending ++ reply_message l.order opcodes.get_time (time t) l.sequence } →
    (s : DeviceState) → StandsForDevice x s → ChangesLink (tell_time s) l l'
time_told l l' x t is e s h a =
    let said : ℕ → LinkState = λ t. record l { pending = l.pending ++ reply_message l.order opcodes.get_time (time t) l.sequence } in
    (ap said (sym h.hears.time ∙ sym is) ∙ sym e, refl, refl)

-- ChangeAC

pub changed : (l l1 l2 : LinkState) (mask ac preempt : ℕ) (play_gain record_gain : ℤ) (p r : Option ℤ) (b : Option Bool) → p ≡ named_gain mask 1 play_gain → r ≡ named_gain mask 2 record_gain → b ≡ named_preempt mask preempt →
    l1 ≡ record l { contexts = with_changed l.contexts ac (with_settings p r b) } → l2 ≡ record l1 { pending = l1.pending ++ reply_message l1.order opcodes.change_ac plain l1.sequence } → ChangesLink (change mask ac preempt play_gain record_gain) l l2
changed l l1 l2 mask ac preempt play_gain record_gain p r b e1 e2 e3 e4 e5 a =
    let told : LinkState → LinkState = λ m. record m { pending = m.pending ++ reply_message m.order opcodes.change_ac plain m.sequence } in
    let set : Option ℤ → Option ℤ → Option Bool → LinkState = λ p r b. record l { contexts = with_changed l.contexts ac (with_settings p r b) } in
    (sym (e5 ∙ ap told (e4 ∙ ap (λ p. set p r b) e1 ∙ ap (λ r. set (named_gain mask 1 play_gain) r b) e2 ∙ ap (set (named_gain mask 1 play_gain) (named_gain mask 2 record_gain)) e3)), refl, refl)

-- a context that is changed is in use
pub change_in_use : (contexts : List Context) (mask ac preempt : ℕ) (play_gain record_gain : ℤ) → change_refusal contexts mask ac preempt play_gain record_gain ≡ None → reference contexts ac ≡ Ok tt
unfolding change_refusal
change_in_use contexts mask ac preempt play_gain record_gain e =
    let one = pass_first (not (is_in_use contexts ac)) BadAc ac (check (not (is_in_use contexts ac)) BadAc ac)
    (where_named mask 1 (check_gain play_gain) ∷ where_named mask 2 (check_gain record_gain) ∷ where_named mask 4 (check (nat_lt 1 preempt) BadValue preempt) ∷ []) refl e in
    ap (λ b. cond b (Ok tt) (Err BadAc')) (not_false (is_in_use contexts ac) one.0)

-- A request that is refused, or is done if its checks pass

pub at_refused : (ds : List KeptDevice) (ks : List KeptDeferral) (l l' : LinkState) (opcode : ℕ) (o : Option Refusal) (r : Refusal) (f : OpenLink → OpenLink) (a : EnvironmentState) → o ≡ Some r → l' ≡ with_error opcode r l → StandsForSharedState (kept_shared_state ds ks) a →
    StandsForLink (kept_shared_state ds ks) l' (refuse_or opcode o f (open_link a l))
at_refused ds ks l l' opcode o r f a is e h = leads_at ds ks l l' (refuse_or opcode o f) a (leads_refused l l' opcode o r f is e a) h

pub at_passed : (ds : List KeptDevice) (ks : List KeptDeferral) (l l' : LinkState) (opcode : ℕ) (o : Option Refusal) (f : OpenLink → OpenLink) (a : EnvironmentState) → o ≡ None → StandsForLink (kept_shared_state ds ks) l' (f (open_link a l)) → StandsForLink (kept_shared_state ds ks) l' (refuse_or opcode o f (open_link a l))
at_passed ds ks l l' opcode o f a is at = subst (λ o. StandsForLink (kept_shared_state ds ks) l' (refuse_or opcode o f (open_link a l))) (sym is) at

pub either_at : (ds : List KeptDevice) (ks : List KeptDeferral) (l : LinkState) (test b : Bool) (p q : OpenLink) → test ≡ b → StandsForLink (kept_shared_state ds ks) l (cond b p q) → StandsForLink (kept_shared_state ds ks) l (cond test p q)
either_at ds ks l test b p q is at = subst (λ t. StandsForLink (kept_shared_state ds ks) l (cond t p q)) (sym is) at

-- Plays

-- what is replied to an accepted play
told_at : (ds : List KeptDevice) (ks : List KeptDeferral) (a : EnvironmentState) (l l' : LinkState) (quiet : Bool) (s : DeviceState) (t : ℕ) → StandsForSharedState (kept_shared_state ds ks) a → t ≡ s.now % 2 ^ 32 →
    l' ≡ cond quiet l (record l { pending = l.pending ++ reply_message l.order opcodes.play (played t) l.sequence }) → StandsForLink (kept_shared_state ds ks) l' (tell_played quiet s (open_link a l))
told_at ds ks a l l' true s t h is e = (h, sym e)
told_at ds ks a l l' false s t h is e = (h, ap (λ t. record l { pending = l.pending ++ reply_message l.order opcodes.play (played t) l.sequence }) (sym is) ∙ sym e)

-- one device changes, but not its time, its rate or its channels
pub device_changes : (ds : List KeptDevice) (ks : List KeptDeferral) (d : ℕ) (x' : KeptDevice) (a : EnvironmentState) (s : DeviceState) (f : DeviceState → DeviceState) → StandsForSharedState (kept_shared_state ds ks) a → slice_get a.devices d ≡ Some s →
    StandsForDevice x' (f s) → SameClock s (f s) → StandForDevices (slice_set ds d x') (with_device d f a.devices) × StandForDeferrals (with_device d f a.devices) ks a.waiting
device_changes ds ks d x' a s f h there stands same =
    subst (λ o. StandForDevices (slice_set ds d x') (device_set d f a.devices o) × StandForDeferrals (device_set d f a.devices o) ks a.waiting) (sym there)
    (stands_set ds a.devices d x' (f s) h.0 stands, waits_set a.devices d s (f s) ks a.waiting there same.0 same.1 same.2 h.1)

-- a device changed in answer to a play, and the link is replied to
pub play_told : (ds : List KeptDevice) (ks : List KeptDeferral) (i : ℕ) (x' : KeptDevice) (l l' : LinkState) (quiet : Bool) (d t : ℕ) (f : DeviceState → DeviceState) (a : EnvironmentState) (s : DeviceState) → i ≡ d → StandsForSharedState (kept_shared_state ds ks) a →
    slice_get a.devices d ≡ Some s → StandsForDevice x' (f s) → SameClock s (f s) → t ≡ x'.next.time → l' ≡ cond quiet l (record l { pending = l.pending ++ reply_message l.order opcodes.play (played t) l.sequence }) →
    StandsForLink (kept_shared_state (slice_set ds i x') ks) l' (tell_played quiet s (in_devices d f (open_link a l)))
play_told ds ks i x' l l' quiet d t f a s number h there stands same is e =
    let time : t ≡ s.now % 2 ^ 32 = is ∙ stands.hears.time ∙ ap (λ n. n % 2 ^ 32) same.0 in
    subst (λ i. StandsForLink (kept_shared_state (slice_set ds i x') ks) l' (tell_played quiet s (in_devices d f (open_link a l)))) (sym number)
    (told_at (slice_set ds d x') ks (in_devices d f (open_link a l)).environment l l' quiet s t (device_changes ds ks d x' a s f h there stands same) time e)

-- how many frames the sound is that a client sends
sound_frames : (x : KeptDevice) (s : DeviceState) (c : Context) (bytes : List ℕ) (sound : List ℤ) → StandsForDevice x s → sound ≡ sent_sound c bytes → frame_count x.next.channels sound ≡ frames_of s.channels c (length bytes)
sound_frames x s c bytes sound h is = ap (λ n. frame_count n sound) h.hears.channels ∙ ap (frame_count s.channels) is ∙ sent_frames s.channels c bytes

-- a play that ends within the horizon is accepted
pub play_started : (ds ds' : List KeptDevice) (ks : List KeptDeferral) (x : KeptDevice) (l l' : LinkState) (k : ℕ) (quiet : Bool) (c : Context) (start : ℕ) (bytes : List ℕ) (sound : List ℤ) (a : EnvironmentState) (s : DeviceState) → start < 2 ^ 32 → StandsForDevice x s →
    sound ≡ sent_sound c bytes → frame_count x.next.channels sound ≤ frames_within x.next start →
    StandsForLink (kept_shared_state ds' ks) l' (tell_played quiet s (in_devices c.device (accept_play k (accepted_at s.now start sound c.preempt)) (open_link a l))) → StandsForLink (kept_shared_state ds' ks) l' (start_play k quiet c start bytes s (open_link a l))
play_started ds ds' ks x l l' k quiet c start bytes sound a s word h is within at =
    let same = within-same x s start word h in
    let size = sound_frames x s c bytes sound h is in
    let test : nat_le (frames_of s.channels c (length bytes)) (s.now + s.rate * 4 - unwrap s.now start) ≡ true = grind (arith, nat_tests) in
    either_at ds' ks l' (nat_le (frames_of s.channels c (length bytes)) (s.now + s.rate * 4 - unwrap s.now start)) true (tell_played quiet s (in_devices c.device (accept_play k (entry_now c s start bytes)) (open_link a l)))
    (wait k c.device (deferred_play quiet (unwrap s.now start) (sent_sound c bytes) c.preempt) (open_link a l)) test
    (subst (λ xs. StandsForLink (kept_shared_state ds' ks) l' (tell_played quiet s (in_devices c.device (accept_play k (accepted_at s.now start xs c.preempt)) (open_link a l)))) is at)

-- and any other is deferred
pub play_waits : (ds : List KeptDevice) (ks ks' : List KeptDeferral) (x : KeptDevice) (l : LinkState) (k : ℕ) (quiet : Bool) (c : Context) (start : ℕ) (bytes : List ℕ) (sound : List ℤ) (left : ℕ) (a : EnvironmentState) (s : DeviceState) → start < 2 ^ 32 → StandsForSharedState (kept_shared_state ds ks) a →
    slice_get a.devices c.device ≡ Some s → StandsForDevice x s → sound ≡ sent_sound c bytes → length sound ≤ longest_play → AreWholeFrames x.next.channels sound → frames_within x.next start < frame_count x.next.channels sound →
    left ≡ play_beyond x.next start (frame_count x.next.channels sound) →
    ks' ≡ ks ++ record { wait = record { link = k; device = c.device; left = left }; deferred = deferred_play quiet start sound c.preempt } ∷ [] → StandsForLink (kept_shared_state ds ks') l (start_play k quiet c start bytes s (open_link a l))
play_waits ds ks ks' x l k quiet c start bytes sound left a s word h there stands is few whole past count e =
    let size = sound_frames x s c bytes sound stands is in
    let frames : frame_count x.next.channels sound ≡ frame_count s.channels sound = ap (λ n. frame_count n sound) stands.hears.channels in
    let same = within-same x s start word stands in
    let meant = start_meant x s start word stands in
    let bounds = horizon_bounds s x stands in
    let far = bounds.0 in
    let late = meant.late in
    let beyond = play_beyond-same x s start (frame_count x.next.channels sound) word stands in
    let test : nat_le (frames_of s.channels c (length bytes)) (s.now + s.rate * 4 - unwrap s.now start) ≡ false = grind (arith, nat_tests) in
    let deferred : ℕ → List ℤ → Deferred = λ w xs. deferred_play quiet w xs c.preempt in
    let one : StandsForDeferral a.devices (record { wait = record { link = k; device = c.device; left = left }; deferred = deferred_play quiet start sound c.preempt }) (record { link = k; device = c.device; deferred = deferred_play quiet (unwrap s.now start) sound c.preempt }) = record {
      link = refl;
      device = refl;
      deferred = ap (λ w. deferred w sound) (sym meant.word);
      state = s;
      here = there;
      left = omega arith;
      near = (omega arith, late);
      short = (few, subst (λ n. AreWholeFrames n sound) stands.hears.channels whole);
    } in
    either_at ds ks' l (nat_le (frames_of s.channels c (length bytes)) (s.now + s.rate * 4 - unwrap s.now start)) false (tell_played quiet s (in_devices c.device (accept_play k (entry_now c s start bytes)) (open_link a l)))
    (wait k c.device (deferred_play quiet (unwrap s.now start) (sent_sound c bytes) c.preempt) (open_link a l)) test
    (subst (λ xs. StandsForLink (kept_shared_state ds ks') l (wait k c.device (deferred_play quiet (unwrap s.now start) xs c.preempt) (open_link a l))) is
    (subst (λ qs. StandsForLink (kept_shared_state ds qs) l (wait k c.device (deferred_play quiet (unwrap s.now start) sound c.preempt) (open_link a l))) (sym e)
    ((h.0, waits_push a.devices ks a.waiting (record { wait = record { link = k; device = c.device; left = left }; deferred = deferred_play quiet start sound c.preempt }) (record { link = k; device = c.device; deferred = deferred_play quiet (unwrap s.now start) sound c.preempt }) h.1 one), refl)))

-- a play that was deferred
play_completed : (k : ℕ) (ds : List KeptDevice) (ks : List KeptDeferral) (i : ℕ) (x' : KeptDevice) (x : KeptDevice) (l l' : LinkState) (quiet : Bool) (d start t : ℕ) (sound : List ℤ) (preempt : Bool) (a : EnvironmentState) (s : DeviceState) (whole : ℕ) → i ≡ d → StandsForSharedState (kept_shared_state ds ks) a →
    slice_get a.devices d ≡ Some s → StandsForDevice x s → start ≡ whole % 2 ^ 32 → IsNear (s.rate * 4) s.now (deferred_play quiet whole sound preempt) → StandsForDevice x' (accept_play k (accepted_at s.now start sound preempt) s) → t ≡ x'.next.time →
    l' ≡ cond quiet l (record l { pending = l.pending ++ reply_message l.order opcodes.play (played t) l.sequence }) → StandsForLink (kept_shared_state (slice_set ds i x') ks) l' (answer_deferred (deferred_play quiet whole sound preempt) s (in_devices d (complete_deferred k (deferred_play quiet whole sound preempt)) (open_link a l)))
play_completed k ds ks i x' x l l' quiet d start t sound preempt a s whole number h there stands word near accepted is e =
    let deferred : Deferred = deferred_play quiet whole sound preempt in
    let early = near.0 in
    let means : unwrap s.now start ≡ whole = near_start x s start whole stands word (omega arith) near.1 in
    let entry : ℕ → AcceptedPlay = λ w. record { start = w; samples = sound; preempt = preempt; at = s.now } in
    play_told ds ks i x' l l' quiet d t (complete_deferred k deferred) a s number h there
    (completes k x' s deferred (subst (λ w. StandsForDevice x' (accept_play k (entry w) s)) means accepted) early) (refl, refl, refl) is e

pub play_completes : (k : ℕ) (ds : List KeptDevice) (ks : List KeptDeferral) (i : ℕ) (x' : KeptDevice) (x : KeptDevice) (l l' : LinkState) (quiet : Bool) (d start t : ℕ) (sound : List ℤ) (preempt : Bool) (a : EnvironmentState) (s : DeviceState) (deferred : Deferred) → i ≡ d → StandsForSharedState (kept_shared_state ds ks) a →
    slice_get a.devices d ≡ Some s → StandsForDevice x s → deferred_play quiet start sound preempt ≡ with_start_word deferred → IsNear (s.rate * 4) s.now deferred → StandsForDevice x' (accept_play k (accepted_at s.now start sound preempt) s) → t ≡ x'.next.time →
    l' ≡ cond quiet l (record l { pending = l.pending ++ reply_message l.order opcodes.play (played t) l.sequence }) → StandsForLink (kept_shared_state (slice_set ds i x') ks) l' (answer_deferred deferred s (in_devices d (complete_deferred k deferred) (open_link a l)))
play_completes k ds ks i x' x l l' quiet d start t sound preempt a s deferred number h there stands word near accepted is e =
    let r = play_is deferred quiet start sound preempt word in
    subst (λ (y : Deferred). StandsForLink (kept_shared_state (slice_set ds i x') ks) l' (answer_deferred y s (in_devices d (complete_deferred k y) (open_link a l)))) (sym r.1)
    (play_completed k ds ks i x' x l l' quiet d start t sound preempt a s r.0 number h there stands r.2 (subst (IsNear (s.rate * 4) s.now) r.1 near) accepted is e)

-- Records

pub frames_given : (l l' : LinkState) (c : Context) (start : ℕ) (x : KeptDevice) (t n : ℕ) (given : List ℕ) → t ≡ x.next.time → ((s : DeviceState) → StandsForDevice x s → given ≡ recorded_bytes c s (unwrap s.now start) n) →
    l' ≡ record l { pending = l.pending ++ reply_message l.order opcodes.record (recorded t given) l.sequence } → (s : DeviceState) → StandsForDevice x s → ChangesLink (give_record c (unwrap s.now start) n s) l l'
frames_given l l' c start x t n given is gives e s h a =
    let said : ℕ → List ℕ → LinkState = λ t given. record l { pending = l.pending ++ reply_message l.order opcodes.record (recorded t given) l.sequence } in
    (sym (e ∙ ap (λ t. said t given) (is ∙ h.hears.time) ∙ ap (said (s.now % 2 ^ 32)) (gives s h)), refl, refl)

pub record_given : (l l' : LinkState) (blocking : Bool) (c : Context) (start frames : ℕ) (x : KeptDevice) (n : ℕ) → start < 2 ^ 32 → n ≡ cond blocking frames (min (frames_before x.last start) frames) →
    ((s : DeviceState) → StandsForDevice x s → ChangesLink (give_record c (unwrap s.now start) n s) l l') → (s : DeviceState) → StandsForDevice x s → ChangesLink (give_record c (unwrap s.now start) (given_frames blocking s start frames) s) l l'
record_given l l' blocking c start frames x n word few leads s h =
    let count : n ≡ cond blocking frames (min (s.now - unwrap s.now start) frames) = few ∙ ap (λ m. cond blocking frames (min m frames)) (before-same x s start word h) in
    subst (λ m. ChangesLink (give_record c (unwrap s.now start) m s) l l') count (leads s h)

-- a record that is answered now
pub record_started : (ds : List KeptDevice) (ks : List KeptDeferral) (x : KeptDevice) (l l' : LinkState) (k : ℕ) (blocking : Bool) (c : Context) (start bytes frames : ℕ) (a : EnvironmentState) (s : DeviceState) → start < 2 ^ 32 → StandsForSharedState (kept_shared_state ds ks) a → StandsForDevice x s →
    frames ≡ frames_of x.next.channels c bytes → (blocking && nat_lt (frames_before x.last start) frames) ≡ false → ChangesLink (give_record c (unwrap s.now start) (given_frames blocking s start (frames_of s.channels c bytes)) s) l l' →
    StandsForLink (kept_shared_state ds ks) l' (start_record k blocking c start bytes s (open_link a l))
record_started ds ks x l l' k blocking c start bytes frames a s word h stands asked now leads =
    let all : frames ≡ frames_of s.channels c bytes = asked ∙ ap (λ n. frames_of n c bytes) stands.hears.channels in
    let test : (blocking && nat_lt (s.now - unwrap s.now start) (frames_of s.channels c bytes)) ≡ false =
    sym (ap (λ m. blocking && nat_lt m frames) (before-same x s start word stands) ∙ ap (λ m. blocking && nat_lt (s.now - unwrap s.now start) m) all) ∙ now in
    either_at ds ks l' (blocking && nat_lt (s.now - unwrap s.now start) (frames_of s.channels c bytes)) false (wait k c.device (deferred_record c (unwrap s.now start) (frames_of s.channels c bytes)) (open_link a l))
    (give_record c (unwrap s.now start) (given_frames blocking s start (frames_of s.channels c bytes)) s (open_link a l)) test
    (leads_at ds ks l l' (give_record c (unwrap s.now start) (given_frames blocking s start (frames_of s.channels c bytes)) s) a (leads a) h)

-- and one that is deferred
pub record_waits : (ds : List KeptDevice) (ks ks' : List KeptDeferral) (x : KeptDevice) (l : LinkState) (k : ℕ) (blocking : Bool) (c : Context) (start bytes frames left : ℕ) (a : EnvironmentState) (s : DeviceState) → start < 2 ^ 32 → StandsForSharedState (kept_shared_state ds ks) a →
    slice_get a.devices c.device ≡ Some s → StandsForDevice x s → frames ≡ frames_of x.next.channels c bytes → frames * frame_bytes c.ty x.next.channels ≤ longest_record → (blocking && nat_lt (frames_before x.last start) frames) ≡ true → left ≡ record_beyond x.last start frames →
    ks' ≡ ks ++ record { wait = record { link = k; device = c.device; left = left }; deferred = deferred_record c start frames } ∷ [] → StandsForLink (kept_shared_state ds ks') l (start_record k blocking c start bytes s (open_link a l))
record_waits ds ks ks' x l k blocking c start bytes frames left a s word h there stands asked few waits count e =
    let all : frames ≡ frames_of s.channels c bytes = asked ∙ ap (λ n. frames_of n c bytes) stands.hears.channels in
    let before = before-same x s start word stands in
    let test : (blocking && nat_lt (s.now - unwrap s.now start) (frames_of s.channels c bytes)) ≡ true =
    sym (ap (λ m. blocking && nat_lt m frames) before ∙ ap (λ m. blocking && nat_lt (s.now - unwrap s.now start) m) all) ∙ waits in
    let most : frames ≤ longest_record = (frames_fit c.ty x.next.channels frames (subst (λ n. IsChannelCount n) (sym stands.hears.channels) stands.hears.count) few).frames_few in
    let past : nat_lt (frames_before x.last start) frames ≡ true = (both-true blocking (nat_lt (frames_before x.last start) frames) waits).1 in
    let meant = start_meant x s start word stands in
    let late = meant.late in
    let bounds = horizon_bounds s x stands in
    let far = bounds.0 in
    let beyond = record_beyond-same x s start frames word stands in
    let not_before : s.now < unwrap s.now start + frames = let lt : frames_before x.last start < frames = grind (arith, nat_tests) in omega (arith, lt, before) in
    let one : StandsForDeferral a.devices (record { wait = record { link = k; device = c.device; left = left }; deferred = deferred_record c start frames }) (record { link = k; device = c.device; deferred = deferred_record c (unwrap s.now start) frames }) = record {
      link = refl;
      device = refl;
      deferred = ap (λ w. deferred_record c w frames) (sym meant.word);
      state = s;
      here = there;
      left = count ∙ beyond;
      near = (omega arith, late);
      short = (most, subst (λ n. frames * frame_bytes c.ty n ≤ longest_record) stands.hears.channels few);
    } in
    either_at ds ks' l (blocking && nat_lt (s.now - unwrap s.now start) (frames_of s.channels c bytes)) true (wait k c.device (deferred_record c (unwrap s.now start) (frames_of s.channels c bytes)) (open_link a l))
    (give_record c (unwrap s.now start) (given_frames blocking s start (frames_of s.channels c bytes)) s (open_link a l)) test
    (subst (λ m. StandsForLink (kept_shared_state ds ks') l (wait k c.device (deferred_record c (unwrap s.now start) m) (open_link a l))) all
    (subst (λ qs. StandsForLink (kept_shared_state ds qs) l (wait k c.device (deferred_record c (unwrap s.now start) frames) (open_link a l))) (sym e)
    ((h.0, waits_push a.devices ks a.waiting (record { wait = record { link = k; device = c.device; left = left }; deferred = deferred_record c start frames }) (record { link = k; device = c.device; deferred = deferred_record c (unwrap s.now start) frames }) h.1 one), refl)))

-- a record that was deferred
record_completed : (k : ℕ) (ds : List KeptDevice) (ks : List KeptDeferral) (x : KeptDevice) (l l' : LinkState) (c : Context) (d start frames : ℕ) (a : EnvironmentState) (s : DeviceState) (whole : ℕ) → slice_get ds d ≡ Some x → StandsForSharedState (kept_shared_state ds ks) a →
    slice_get a.devices d ≡ Some s → StandsForDevice x s → start ≡ whole % 2 ^ 32 → IsNear (s.rate * 4) s.now (deferred_record c whole frames) → ChangesLink (give_record c (unwrap s.now start) frames s) l l' →
    StandsForLink (kept_shared_state ds ks) l' (answer_deferred (deferred_record c whole frames) s (in_devices d (complete_deferred k (deferred_record c whole frames)) (open_link a l)))
record_completed k ds ks x l l' c d start frames a s whole here h there stands word near leads =
    let deferred : Deferred = deferred_record c whole frames in
    let bounds = horizon_bounds s x stands in
    let wide = bounds.1 in
    let early = near.0 in
    let means : unwrap s.now start ≡ whole = near_start x s start whole stands word (omega arith) near.1 in
    let environment = (in_devices d (complete_deferred k deferred) (open_link a l)).environment in
    let gives : ChangesLink (give_record c whole frames s) l l' = subst (λ w. ChangesLink (give_record c w frames s) l l') means leads in
    let changed = device_changes ds ks d x a s (complete_deferred k deferred) h there (completes k x s deferred stands early) (refl, refl, refl) in
    leads_at ds ks l l' (give_record c whole frames s) environment (gives environment)
    (subst (λ xs. StandForDevices xs environment.devices × StandForDeferrals environment.devices ks a.waiting) (same_set ds d x here) changed)

pub record_completes : (k : ℕ) (ds : List KeptDevice) (ks : List KeptDeferral) (x : KeptDevice) (l l' : LinkState) (c : Context) (d start frames : ℕ) (a : EnvironmentState) (s : DeviceState) (deferred : Deferred) → slice_get ds d ≡ Some x → StandsForSharedState (kept_shared_state ds ks) a →
    slice_get a.devices d ≡ Some s → StandsForDevice x s → deferred_record c start frames ≡ with_start_word deferred → IsNear (s.rate * 4) s.now deferred → ChangesLink (give_record c (unwrap s.now start) frames s) l l' →
    StandsForLink (kept_shared_state ds ks) l' (answer_deferred deferred s (in_devices d (complete_deferred k deferred) (open_link a l)))
record_completes k ds ks x l l' c d start frames a s deferred here h there stands word near leads =
    let r = record_is deferred c start frames word in
    subst (λ (y : Deferred). StandsForLink (kept_shared_state ds ks) l' (answer_deferred y s (in_devices d (complete_deferred k y) (open_link a l)))) (sym r.1)
    (record_completed k ds ks x l l' c d start frames a s r.0 here h there stands r.2 (subst (IsNear (s.rate * 4) s.now) r.1 near) leads)
