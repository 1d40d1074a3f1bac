-- Requests on the controls of a device, and on its line.
use Rattle.std.proofs.Common.{◌≡◌, ℕ, ℤ, Bool, zero, suc, ◌<◌, ◌≤◌, List, [], ◌∷◌, ◌++◌, length, slice_get, slice_set, option_map, Ok, Err, refl, sym, ap, ◌∙◌, subst, arith}
use Rattle.std.specs.declared.option.Option.{Option}
use Rattle.std.specs.declared.option.Option.TheVariants.{None, Some}
use Rattle.af_request.specs.declared.reply.Controls.{Controls}
use Rattle.af_request.specs.declared.reply.Phone.{Phone}
use Rattle.af_request.specs.Answer.{Answer, controls}
use Rattle.af_request.specs.Opcodes as opcodes
use Rattle.af_model.specs.declared.refusal.RefusalCause.TheVariants.{BadDevice, BadLine}
use Rattle.af_model.specs.declared.refusal.Refusal.{Refusal}
use Rattle.af_model.specs.State.{DeviceState, LinkState, EnvironmentState, OpenLink, open_link}
use Rattle.af_model.specs.Reply.{reply_message, reply_with}
use Rattle.af_model.specs.Checks.{in_device}
use Rattle.af_model.specs.DeviceRequests.{with_device_controls, on_line, tell_controls, with_device_hook, with_named}
use Rattle.af_phone.specs.Lines.{with_wanted_hook}
use Rattle.af_model.specs.Play.{in_devices}
use Rattle.af_model.proofs.SafeLemmas.{SameClock}
use Rattle.af_state.specs.Kept.{KeptDevice, StandsForDevice}
use Rattle.af_perform.specs.Lines.{device_line_or, line_at, line_or}
use Rattle.af_state.specs.Deferrals.{KeptDeferral}
use Rattle.af_state.specs.SharedState.{StandsForSharedState, StandsForLink, ChangesLink, kept_shared_state}
use Rattle.af_state.proofs.DeviceLemmas.{Found, found, not_found}
use Rattle.af_state.proofs.PlayLemmas.{stands_changed}
use Rattle.af_perform.proofs.LinkRequestLemmas.{device_changes, with_error}

-- a device changes, but not its time, its rate or its channels, and the link is replied to
pub changed_replied : (ds : List KeptDevice) (ks : List KeptDeferral) (i : ℕ) (x' : KeptDevice) (l l' : LinkState) (opcode d : ℕ) (answer : Answer) (f : DeviceState → DeviceState) (a : EnvironmentState) (s : DeviceState) → i ≡ d → StandsForSharedState (kept_shared_state ds ks) a →
    slice_get a.devices d ≡ Some s → StandsForDevice x' (f s) → SameClock s (f s) → l' ≡ record l { pending = l.pending ++ reply_message l.order opcode answer l.sequence } →
    StandsForLink (kept_shared_state (slice_set ds i x') ks) l' (reply_with opcode answer (in_devices d f (open_link a l)))
changed_replied ds ks i x' l l' opcode d answer f a s number h there stands same e =
    subst (λ i. StandsForLink (kept_shared_state (slice_set ds i x') ks) l' (reply_with opcode answer (in_devices d f (open_link a l)))) (sym number) (device_changes ds ks d x' a s f h there stands same, sym e)

pub controlled : (k : ℕ) (x x' : KeptDevice) (c : Controls) (s : DeviceState) (mask input_on output_on : ℕ) (input_gain output_gain : ℤ) → StandsForDevice x s → c ≡ with_named mask input_on output_on input_gain output_gain x.controls → x' ≡ record x { controls = c } →
    StandsForDevice x' (with_device_controls k mask input_on output_on input_gain output_gain s)
controlled k x x' c s mask input_on output_on input_gain output_gain h is e =
    subst (λ (y : KeptDevice). StandsForDevice y (with_device_controls k mask input_on output_on input_gain output_gain s)) (sym e)
    (stands_changed x s x.next s.accepted s.completed c (with_named mask input_on output_on input_gain output_gain s.controls) x.line s.line (s.actors ++ k ∷ []) h refl h.hears h.whole
    (is ∙ ap (with_named mask input_on output_on input_gain output_gain) h.controls) h.line)

-- the line of a device becomes another, and who acted on it is not kept
pub relined_by : (actors : List ℕ) (f : Phone → Phone) (x x' : KeptDevice) (line : Option Phone) (s : DeviceState) → StandsForDevice x s → line ≡ option_map f x.line → x' ≡ record x { line = line } →
    StandsForDevice x' (record s { line = option_map f s.line; actors = actors })
relined_by actors f x x' line s h is e =
    subst (λ (y : KeptDevice). StandsForDevice y (record s { line = option_map f s.line; actors = actors })) (sym e)
    (stands_changed x s x.next s.accepted s.completed x.controls s.controls line (option_map f s.line) actors h refl h.hears h.whole h.controls (is ∙ ap (option_map f) h.line))

pub relined : (f : Phone → Phone) (x x' : KeptDevice) (line : Option Phone) (s : DeviceState) → StandsForDevice x s → line ≡ option_map f x.line → x' ≡ record x { line = line } → StandsForDevice x' (record s { line = option_map f s.line })
relined f x x' line s h is e = relined_by s.actors f x x' line s h is e

-- the hook of a device's line is wanted
pub hook_wanted : (k : ℕ) (off : Bool) (x x' : KeptDevice) (line : Option Phone) (s : DeviceState) → StandsForDevice x s → line ≡ option_map (with_wanted_hook off) x.line → x' ≡ record x { line = line } → StandsForDevice x' (with_device_hook k off s)
hook_wanted k off x x' line s h is e = relined_by (s.actors ++ k ∷ []) (with_wanted_hook off) x x' line s h is e

-- the controls that are kept are those that are replied
pub controls_told : (l l' : LinkState) (x : KeptDevice) (c : Controls) → c ≡ x.controls → l' ≡ record l { pending = l.pending ++ reply_message l.order opcodes.query_controls (controls c) l.sequence } → (s : DeviceState) → StandsForDevice x s → ChangesLink (tell_controls s) l l'
controls_told l l' x c is e s h a =
    let said : Controls → LinkState = λ c. record l { pending = l.pending ++ reply_message l.order opcodes.query_controls (controls c) l.sequence } in
    (ap said (sym h.controls ∙ sym is) ∙ sym e, refl, refl)

-- Requests that name the line of a device

-- a device that is kept, with this line
record Lined (ds : List KeptDevice) (d : ℕ) (phone : Phone) : Type 0 where
  device : KeptDevice
  here : slice_get ds d ≡ Some device
  line : device.line ≡ Some phone

lined : (ds : List KeptDevice) (d : ℕ) (phone : Phone) → line_at ds d ≡ Ok phone → Lined ds d phone
lined ds d phone e =
    elim (slice_get ds d) as (λ o. slice_get ds d ≡ o → device_line_or d o ≡ Ok phone → Lined ds d phone) [
      | None ↦ λ i e. absurd cc
      | Some x ↦ λ i e. elim x.line as (λ o. x.line ≡ o → line_or d o ≡ Ok phone → Lined ds d phone) [
        | None ↦ λ j e. absurd cc
        | Some p ↦ λ j e. let same : p ≡ phone = cc in record { device = x; here = i; line = j ∙ ap (λ p. Some p) same }
      ] refl e
    ] refl e

below : (ds : List KeptDevice) (d : ℕ) (x : KeptDevice) → slice_get ds d ≡ Some x → d < length ds
below [] d x e = absurd cc
below (y ∷ ds) zero x e = omega arith
below (y ∷ ds) (suc d) x e = let lt = below ds d x e in omega (arith, lt)

pub line_there : (ds : List KeptDevice) (d : ℕ) (phone : Phone) → line_at ds d ≡ Ok phone → d < length ds
line_there ds d phone e = let r = lined ds d phone e in below ds d r.device r.here

pub line_found : (ds ds' : List KeptDevice) (ks ks' : List KeptDeferral) (l l' : LinkState) (opcode d : ℕ) (phone : Phone) (f : Phone → OpenLink → OpenLink) → line_at ds d ≡ Ok phone →
    ((a : EnvironmentState) (s : DeviceState) → StandsForSharedState (kept_shared_state ds ks) a → slice_get a.devices d ≡ Some s → StandsForLink (kept_shared_state ds' ks') l' (f phone (open_link a l))) →
    (a : EnvironmentState) → StandsForSharedState (kept_shared_state ds ks) a → StandsForLink (kept_shared_state ds' ks') l' (in_device opcode d (λ device. on_line opcode d f device.line) (slice_get a.devices d) (open_link a l))
line_found ds ds' ks ks' l l' opcode d phone f is step a h =
    let k = lined ds d phone is in
    let r : Found a.devices d k.device = found ds a.devices d k.device k.here h.0 in
    let line : r.state.line ≡ Some phone = sym r.stands.line ∙ k.line in
    subst (λ o. StandsForLink (kept_shared_state ds' ks') l' (in_device opcode d (λ device. on_line opcode d f device.line) o (open_link a l))) (sym r.here)
    (subst (λ o. StandsForLink (kept_shared_state ds' ks') l' (on_line opcode d f o (open_link a l))) (sym line) (step a r.state h r.here))

pub line_missing : (ds : List KeptDevice) (ks : List KeptDeferral) (l l' : LinkState) (opcode d : ℕ) (r : Refusal) (f : Phone → OpenLink → OpenLink) → line_at ds d ≡ Err r → l' ≡ with_error opcode r l →
    (a : EnvironmentState) → StandsForSharedState (kept_shared_state ds ks) a → StandsForLink (kept_shared_state ds ks) l' (in_device opcode d (λ device. on_line opcode d f device.line) (slice_get a.devices d) (open_link a l))
line_missing ds ks l l' opcode d r f is e a h =
    elim (slice_get ds d) as (λ o. slice_get ds d ≡ o → device_line_or d o ≡ Err r → StandsForLink (kept_shared_state ds ks) l' (in_device opcode d (λ device. on_line opcode d f device.line) (slice_get a.devices d) (open_link a l))) [
      | None ↦ λ i g.
          let same : r ≡ record { cause = BadDevice; value = d } = cc in
          subst (λ o. StandsForLink (kept_shared_state ds ks) l' (in_device opcode d (λ device. on_line opcode d f device.line) o (open_link a l))) (sym (not_found ds a.devices d (past ds d i) h.0)) (h, ap (λ q. with_error opcode q l) (sym same) ∙ sym e)
      | Some x ↦ λ i g.
          let s : Found a.devices d x = found ds a.devices d x i h.0 in
          elim x.line as (λ o. x.line ≡ o → line_or d o ≡ Err r → StandsForLink (kept_shared_state ds ks) l' (in_device opcode d (λ device. on_line opcode d f device.line) (slice_get a.devices d) (open_link a l))) [
            | None ↦ λ j g.
                let same : r ≡ record { cause = BadLine; value = d } = cc in
                subst (λ o. StandsForLink (kept_shared_state ds ks) l' (in_device opcode d (λ device. on_line opcode d f device.line) o (open_link a l))) (sym s.here)
                (subst (λ o. StandsForLink (kept_shared_state ds ks) l' (on_line opcode d f o (open_link a l))) (sym (sym s.stands.line ∙ j)) (h, ap (λ q. with_error opcode q l) (sym same) ∙ sym e))
            | Some p ↦ λ j g. absurd cc
          ] refl g
    ] refl is
  where
    past : (ds : List KeptDevice) (d : ℕ) → slice_get ds d ≡ None → length ds ≤ d
    past [] d e = omega arith
    past (y ∷ ds) zero e = absurd cc
    past (y ∷ ds) (suc d) e = let le = past ds d e in omega (arith, le)
