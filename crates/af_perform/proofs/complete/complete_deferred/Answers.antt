use Rattle.std.proofs.Common.{◌≡◌, ◌∙◌, ap, sym, subst}
use Rattle.af_model.specs.State.{Deferred, deferred_play, deferred_record}
use Rattle.af_state.specs.declared.deferred_request.DeferredWork.{DeferredWork}
use Rattle.af_state.specs.Deferred.{deferred_as}
use Rattle.af_state.specs.Deferrals.{CanComplete}
use Rattle.af_perform.proofs.complete.complete_deferred.Goals as goal

pub accept-requires-clause-can : goal.accept-requires-clause-can
accept-requires-clause-can c = λ d here.
    let r = c.parts-what.result in
    let same : c.args.deferred.now ≡ deferred_play c.in-Play.quiet r.1.0 r.2.now c.in-Play.preempt = c.parts-what.ensures.deferred ∙ ap (λ (what : DeferredWork). deferred_as what r.1.0 r.2.now) c.in-Play.is in
    subst (λ (x : Deferred). CanComplete d x) same (c.requires.can d here)

pub complete_record-requires-clause-can : goal.complete_record-requires-clause-can
complete_record-requires-clause-can c = λ d here.
    let r = c.parts-what.result in
    let same : c.args.deferred.now ≡ deferred_record c.in-Record.context r.1.0 c.in-Record.frames = c.parts-what.ensures.deferred ∙ ap (λ (what : DeferredWork). deferred_as what r.1.0 r.2.now) c.in-Record.is in
    subst (λ (x : Deferred). CanComplete d x) same (c.requires.can d here)

pub returns-in-Play-clause-step : goal.returns-in-Play-clause-step
returns-in-Play-clause-step c = λ k ks a s deferred h there word near.
    let r = c.parts-what.result in
    let same : c.args.deferred.now ≡ deferred_play c.in-Play.quiet r.1.0 r.2.now c.in-Play.preempt = c.parts-what.ensures.deferred ∙ ap (λ (what : DeferredWork). deferred_as what r.1.0 r.2.now) c.in-Play.is in
    c.accept.ensures.completes k ks a s deferred h there (sym same ∙ word) near

pub returns-in-Record-clause-step : goal.returns-in-Record-clause-step
returns-in-Record-clause-step c = λ k ks a s deferred h there word near.
    let r = c.parts-what.result in
    let same : c.args.deferred.now ≡ deferred_record c.in-Record.context r.1.0 c.in-Record.frames = c.parts-what.ensures.deferred ∙ ap (λ (what : DeferredWork). deferred_as what r.1.0 r.2.now) c.in-Record.is in
    c.complete_record.ensures.step k ks a s deferred h there (sym same ∙ word) near
