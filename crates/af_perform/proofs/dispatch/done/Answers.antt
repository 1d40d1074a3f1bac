use Rattle.std.proofs.Common.{subst, rules, to_z, of_z, to_z-of_z, w16}
use Rattle.std.proofs.lemmas.List.{with_items_is}
use Rattle.af_request.specs.Asked.{request_meaning, set_controls}
use Rattle.af_model.specs.State.{open_link}
use Rattle.af_model.specs.Perform.{request_effect}
use Rattle.af_state.specs.SharedState.{StandsForLink, kept_shared_state}
use Rattle.af_perform.proofs.FrameRequestLemmas.{at_once}
use Rattle.af_perform.proofs.LeavesLemmas.{leads_opened, leads_read, leaves_opened, leaves_same}
use Rattle.af_perform.proofs.dispatch.done.Goals as goal

pub returns-in_default-clause-step : goal.returns-in_default-clause-step
returns-in_default-clause-step c =
    leads_read c.args.shared.now c.shared-in_default.inside.devices.items _ c.shared-in_default.inside.waits c.args.link.now _ (request_effect c.args.number (request_meaning c.args.request.now)) c.shared-in_default.view_is c.deref.ensures.value
    (c.done_at_once.ensures.step c.args.number (at_once c.args.request.now c.in_default.not-PlayRun c.in_default.not-RecordRun c.in_default.not-SetControls c.in_default.not-HookSwitch))

pub returns-in_default-clause-leaves : goal.returns-in_default-clause-leaves
returns-in_default-clause-leaves c = leaves_same c.args.number c.args.shared.now c.args.link.now _ c.requires.asks.free c.done_at_once.ensures.rest

pub returns-in-SetControls-clause-step : goal.returns-in-SetControls-clause-step
returns-in-SetControls-clause-step c =
    let e = c.in-SetControls in
    let room = c.shared.inside.devices in
    leads_opened c.args.shared.now room.items _ c.set_controls.new.devices _ c.shared.inside.waits c.args.link.now _ (request_effect c.args.number (request_meaning c.args.request.now)) c.shared.view_is c.deref_mut.ensures.value (with_items_is room c.set_controls.new.devices (search rules))
    (λ ks a h.
    let first = subst (λ g. StandsForLink (kept_shared_state c.set_controls.new.devices ks) c.set_controls.new.link (request_effect c.args.number (set_controls e.device e.mask e.input_on e.output_on g (to_z w16 (of_z w16 e.output_gain))) (open_link a c.args.link.now))) (to_z-of_z {w = w16} (search rules)) (c.set_controls.ensures.step c.args.number ks a h) in
    let step = subst (λ g. StandsForLink (kept_shared_state c.set_controls.new.devices ks) c.set_controls.new.link (request_effect c.args.number (set_controls e.device e.mask e.input_on e.output_on e.input_gain g) (open_link a c.args.link.now))) (to_z-of_z {w = w16} (search rules)) first in
    rw e.is step)

pub returns-in-SetControls-clause-leaves : goal.returns-in-SetControls-clause-leaves
returns-in-SetControls-clause-leaves c = leaves_opened c.args.number c.args.shared.now c.shared.inside.devices.items _ c.shared.inside.waits c.args.link.now _ c.shared.view_is c.requires.asks.free c.set_controls.ensures.rest

pub returns-in-HookSwitch-clause-step : goal.returns-in-HookSwitch-clause-step
returns-in-HookSwitch-clause-step c =
    let room = c.shared-in-HookSwitch.inside.devices in
    leads_opened c.args.shared.now room.items _ c.hook_switch.new.devices _ c.shared-in-HookSwitch.inside.waits c.args.link.now _ (request_effect c.args.number (request_meaning c.args.request.now)) c.shared-in-HookSwitch.view_is c.deref_mut-in-HookSwitch.ensures.value (with_items_is room c.hook_switch.new.devices (search rules))
    (λ ks a h. rw c.in-HookSwitch.is (c.hook_switch.ensures.step c.args.number ks a h))

pub returns-in-HookSwitch-clause-leaves : goal.returns-in-HookSwitch-clause-leaves
returns-in-HookSwitch-clause-leaves c = leaves_opened c.args.number c.args.shared.now c.shared-in-HookSwitch.inside.devices.items _ c.shared-in-HookSwitch.inside.waits c.args.link.now _ c.shared-in-HookSwitch.view_is c.requires.asks.free c.hook_switch.ensures.rest
