use Rattle.std.proofs.Common.{◌≡◌, ℕ, ◌≤◌, ◌*◌, ◌/◌, ◌∙◌, ap, sym, subst, slice_get, refl, arith}
use Rattle.std.specs.declared.option.Option.TheVariants.{Some}
use Rattle.af_limits.specs.Limits.{longest_record}
use Rattle.af_request.specs.Opcodes as opcodes
use Rattle.af_sample.specs.SampleTypes.{frame_bytes}
use Rattle.af_model.specs.Record.{record_refusal, record_sound, start_record}
use Rattle.af_model.proofs.BoolTestLemmas.{some_is}
use Rattle.af_state.specs.Kept.{KeptDevice}
use Rattle.af_perform.proofs.LinkRequestLemmas.{at_refused, at_passed, device_found, device_lent, device_missing, none_lent, with_error}
use Rattle.af_perform.proofs.CheckLemmas.{few_frames, record_passes}
use Rattle.af_perform.proofs.record.check_record.Goals as goal

pub answer_or_defer-requires-clause-few : goal.answer_or_defer-requires-clause-few
answer_or_defer-requires-clause-few c =
    let r = c.args.asked in
    let bytes = record_passes c.channels-channels.result r.context r.bytes (sym c.record_refusal.ensures ∙ c.in-None.is) in
    let less = (few_frames r.context.ty c.channels-channels.result r.bytes c.channels-channels.ensures.count).0 in
    subst (λ w. r.bytes / w ≤ longest_record) (sym c.frame_bytes.ensures) (omega (arith, less, bytes))

pub answer_or_defer-requires-clause-fits : goal.answer_or_defer-requires-clause-fits
answer_or_defer-requires-clause-fits c = λ d here.
    let r = c.args.asked in
    let at = device_lent c.args.shared.now _ _ _ _ r.context.device _ c.shared.view_is c.deref.ensures.value c.from.ensures (c.if-is_missing.ensures.there refl) c.index.ensures in
    let own : c.channels-channels.result ≡ d.next.channels = c.channels-channels.ensures.value ∙ ap (λ (x : KeptDevice). x.next.channels) (some_is (sym at ∙ here)) in
    let bytes = record_passes c.channels-channels.result r.context r.bytes (sym c.record_refusal.ensures ∙ c.in-None.is) in
    let less = (few_frames r.context.ty c.channels-channels.result r.bytes c.channels-channels.ensures.count).1 in
    subst (λ n. r.bytes / c.frame_bytes.result * frame_bytes r.context.ty n ≤ longest_record) own
    (subst (λ w. r.bytes / w * frame_bytes r.context.ty c.channels-channels.result ≤ longest_record) (sym c.frame_bytes.ensures) (omega (arith, less, bytes)))

pub returns-then-is_missing-clause-step : goal.returns-then-is_missing-clause-step
returns-then-is_missing-clause-step c =
    let r = c.args.asked in
    let e = c.args.shared.now in
    device_missing e.devices e.waits c.args.link.now _ opcodes.record r.context.device r.context.device (record_sound c.args.number r.blocking r.context r.start.0 r.bytes)
    (none_lent e _ _ _ r.context.device c.shared.view_is c.deref.ensures.value (c.if-is_missing.ensures.missing refl)) refl
    (c.refuse.ensures ∙ ap (λ q. with_error opcodes.record q c.args.link.now) c.no_device.ensures)

pub returns-in-Some-clause-step : goal.returns-in-Some-clause-step
returns-in-Some-clause-step c =
    let r = c.args.asked in
    let e = c.args.shared.now in
    device_found e.devices e.devices e.waits e.waits c.args.link.now _ opcodes.record r.context.device _ (record_sound c.args.number r.blocking r.context r.start.0 r.bytes)
    (device_lent e _ _ _ _ r.context.device _ c.shared.view_is c.deref.ensures.value c.from.ensures (c.if-is_missing.ensures.there refl) c.index.ensures)
    (λ a s h here st. at_refused e.devices e.waits c.args.link.now _ opcodes.record (record_refusal s.channels r.context r.bytes) c.in-Some.refusal (start_record c.args.number r.blocking r.context r.start.0 r.bytes s) a
    (ap (λ (n : ℕ). record_refusal n r.context r.bytes) (sym (c.channels-channels.ensures.value ∙ st.hears.channels)) ∙ sym c.record_refusal.ensures ∙ c.in-Some.is) c.refuse-in-Some.ensures h)

pub returns-in-None-clause-step : goal.returns-in-None-clause-step
returns-in-None-clause-step c =
    let r = c.args.asked in
    let e = c.args.shared.now in
    let e' = c.answer_or_defer.new.shared in
    let at = device_lent e _ _ _ _ r.context.device _ c.shared.view_is c.deref.ensures.value c.from.ensures (c.if-is_missing.ensures.there refl) c.index.ensures in
    let own : (d : KeptDevice) → slice_get e.devices r.context.device ≡ Some d → c.channels-channels.result ≡ d.next.channels =
    λ d known. c.channels-channels.ensures.value ∙ ap (λ (x : KeptDevice). x.next.channels) (some_is (sym at ∙ known)) in
    device_found e.devices e'.devices e.waits e'.waits c.args.link.now _ opcodes.record r.context.device _ (record_sound c.args.number r.blocking r.context r.start.0 r.bytes) at
    (λ a s h here st. at_passed e'.devices e'.waits c.args.link.now _ opcodes.record (record_refusal s.channels r.context r.bytes) (start_record c.args.number r.blocking r.context r.start.0 r.bytes s) a
    (ap (λ (n : ℕ). record_refusal n r.context r.bytes) (sym (c.channels-channels.ensures.value ∙ st.hears.channels)) ∙ sym c.record_refusal.ensures ∙ c.in-None.is)
    (c.answer_or_defer.ensures.step r.bytes (λ d known. ap (λ w. r.bytes / w) (c.frame_bytes.ensures ∙ ap (frame_bytes r.context.ty) (own d known))) a s h here))
