use Rattle.std.proofs.Common.{subst, rules, to_z, of_z, to_z-of_z, w16}
use Rattle.af_request.specs.Asked.{request_meaning, change_ac, create_ac}
use Rattle.af_model.specs.State.{open_link}
use Rattle.af_model.specs.Perform.{request_effect}
use Rattle.af_state.specs.SharedState.{StandsForLink, ChangesLink, kept_shared_state}
use Rattle.af_perform.proofs.LinkRequestLemmas.{leads_at}
use Rattle.af_perform.proofs.dispatch.done_at_once.Goals as goal

pub returns-in-GetTime-clause-step : goal.returns-in-GetTime-clause-step
returns-in-GetTime-clause-step c = λ k once ks a h. rw c.in-GetTime.is (c.get_time.ensures.step k ks a h)

pub returns-in-CreateAc-clause-step : goal.returns-in-CreateAc-clause-step
returns-in-CreateAc-clause-step c = λ k once ks a h.
    let e = c.in-CreateAc in
    let first = subst (λ g. StandsForLink (kept_shared_state c.args.devices.now ks) c.create_ac.new.link (request_effect k (create_ac e.device e.ac e.ty e.channels e.preempt g (to_z w16 (of_z w16 e.record_gain))) (open_link a c.args.link.now))) (to_z-of_z {w = w16} (search rules)) (c.create_ac.ensures.step k ks a h) in
    let step = subst (λ g. StandsForLink (kept_shared_state c.args.devices.now ks) c.create_ac.new.link (request_effect k (create_ac e.device e.ac e.ty e.channels e.preempt e.play_gain g) (open_link a c.args.link.now))) (to_z-of_z {w = w16} (search rules)) first in
    rw e.is step

pub returns-in-ChangeAc-clause-step : goal.returns-in-ChangeAc-clause-step
returns-in-ChangeAc-clause-step c = λ k once ks a h.
    let first = subst (λ g. ChangesLink (request_effect k (change_ac c.in-ChangeAc.mask c.in-ChangeAc.ac c.in-ChangeAc.preempt g (to_z w16 (of_z w16 c.in-ChangeAc.record_gain)))) c.args.link.now c.change_ac.new.link) (to_z-of_z {w = w16} (search rules)) (c.change_ac.ensures.step k) in
    let leads = subst (λ g. ChangesLink (request_effect k (change_ac c.in-ChangeAc.mask c.in-ChangeAc.ac c.in-ChangeAc.preempt c.in-ChangeAc.play_gain g)) c.args.link.now c.change_ac.new.link) (to_z-of_z {w = w16} (search rules)) first in
    leads_at c.args.devices.now ks c.args.link.now _ (request_effect k (request_meaning c.args.request.now)) a (rw c.in-ChangeAc.is (leads a)) h

pub returns-in-FreeAc-clause-step : goal.returns-in-FreeAc-clause-step
returns-in-FreeAc-clause-step c = λ k once ks a h. leads_at c.args.devices.now ks c.args.link.now _ (request_effect k (request_meaning c.args.request.now)) a (rw c.in-FreeAc.is (c.free_ac.ensures.step k a)) h

pub returns-in-SelectEvents-clause-step : goal.returns-in-SelectEvents-clause-step
returns-in-SelectEvents-clause-step c = λ k once ks a h. rw c.in-SelectEvents.is (c.select_events.ensures.step k ks a h)

pub returns-in-QueryControls-clause-step : goal.returns-in-QueryControls-clause-step
returns-in-QueryControls-clause-step c = λ k once ks a h. rw c.in-QueryControls.is (c.query_controls.ensures.step k ks a h)

pub returns-in-QueryPhone-clause-step : goal.returns-in-QueryPhone-clause-step
returns-in-QueryPhone-clause-step c = λ k once ks a h. rw c.in-QueryPhone.is (c.query_phone.ensures.step k ks a h)
