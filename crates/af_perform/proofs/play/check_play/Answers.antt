use Rattle.std.proofs.Common.{◌≡◌, ℕ, ◌∙◌, ap, sym, subst, length, refl}
use Rattle.af_request.specs.Opcodes as opcodes
use Rattle.af_model.specs.Play.{play, play_refusal, start_play}
use Rattle.af_model.proofs.BoolTestLemmas.{some_is}
use Rattle.af_state.specs.Kept.{KeptDevice}
use Rattle.af_perform.specs.Sounds.{WholeBytes}
use Rattle.af_perform.proofs.CheckLemmas.{play_passes, whole_bytes}
use Rattle.af_perform.proofs.LinkRequestLemmas.{at_refused, at_passed, device_found, device_lent, device_missing, none_lent, with_error}
use Rattle.af_perform.proofs.play.check_play.Goals as goal

pub returns-then-is_missing-clause-step : goal.returns-then-is_missing-clause-step
returns-then-is_missing-clause-step c =
    let p = c.args.asked.now in
    let e = c.args.shared.now in
    device_missing e.devices e.waits c.args.link.now _ opcodes.play p.context.device p.context.device (play c.args.number p.quiet p.context p.start.0 p.bytes.now)
    (none_lent e _ _ _ p.context.device c.shared.view_is c.deref.ensures.value (c.if-is_missing.ensures.missing refl)) refl
    (c.refuse.ensures ∙ ap (λ q. with_error opcodes.play q c.args.link.now) c.no_device.ensures)

pub returns-in-Some-clause-step : goal.returns-in-Some-clause-step
returns-in-Some-clause-step c =
    let p = c.args.asked.now in
    let e = c.args.shared.now in
    device_found e.devices e.devices e.waits e.waits c.args.link.now _ opcodes.play p.context.device _ (play c.args.number p.quiet p.context p.start.0 p.bytes.now)
    (device_lent e _ _ _ _ p.context.device _ c.shared.view_is c.deref.ensures.value c.from.ensures (c.if-is_missing.ensures.there refl) c.index.ensures)
    (λ a s h here st. at_refused e.devices e.waits c.args.link.now _ opcodes.play (play_refusal s.channels p.context (length p.bytes.now)) c.in-Some.refusal (start_play c.args.number p.quiet p.context p.start.0 p.bytes.now s) a
    (ap (λ (n : ℕ). play_refusal n p.context (length p.bytes.now)) (sym (c.channels-channels.ensures.value ∙ st.hears.channels)) ∙ sym c.play_refusal.ensures ∙ c.in-Some.is) c.refuse-in-Some.ensures h)

pub returns-in-None-clause-step : goal.returns-in-None-clause-step
returns-in-None-clause-step c =
    let p = c.args.asked.now in
    let e = c.args.shared.now in
    let e' = c.convert_play.new.shared in
    device_found e.devices e'.devices e.waits e'.waits c.args.link.now _ opcodes.play p.context.device _ (play c.args.number p.quiet p.context p.start.0 p.bytes.now)
    (device_lent e _ _ _ _ p.context.device _ c.shared.view_is c.deref.ensures.value c.from.ensures (c.if-is_missing.ensures.there refl) c.index.ensures)
    (λ a s h here st. at_passed e'.devices e'.waits c.args.link.now _ opcodes.play (play_refusal s.channels p.context (length p.bytes.now)) (start_play c.args.number p.quiet p.context p.start.0 p.bytes.now s) a
    (ap (λ (n : ℕ). play_refusal n p.context (length p.bytes.now)) (sym (c.channels-channels.ensures.value ∙ st.hears.channels)) ∙ sym c.play_refusal.ensures ∙ c.in-None.is) (c.convert_play.ensures.step a s h here))

pub convert_play-requires-clause-whole : goal.convert_play-requires-clause-whole
convert_play-requires-clause-whole c = λ d here.
    let p = c.args.asked.now in
    let at = device_lent c.args.shared.now _ _ _ _ p.context.device _ c.shared.view_is c.deref.ensures.value c.from.ensures (c.if-is_missing.ensures.there refl) c.index.ensures in
    let own : c.channels-channels.result ≡ d.next.channels = c.channels-channels.ensures.value ∙ ap (λ (x : KeptDevice). x.next.channels) (some_is (sym at ∙ here)) in
    subst (λ n. WholeBytes p.context.ty n (length p.bytes.now)) own
    (whole_bytes p.context.ty c.channels-channels.result (length p.bytes.now) c.channels-channels.ensures.count (play_passes c.channels-channels.result p.context (length p.bytes.now) (sym c.play_refusal.ensures ∙ c.in-None.is)))
