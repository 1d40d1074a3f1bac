use Rattle.std.proofs.Common.{rules, ◌≡◌, ◌∙◌, ℕ, List, ap}
use Rattle.af_toolkit.specs.Talk.{creates}
use Rattle.af_toolkit.proofs.PartLemmas.{goes_stop, goes_through}
use Rattle.af_toolkit.proofs.ToolPartLemmas.{is_tool}
use Rattle.af_meter.specs.Trace.{meters_on}
use Rattle.af_toolkit.specs.declared.talk.ToolContext.{ToolContext}
use Rattle.af_request.specs.Asked.{Asked}
use Rattle.af_request.specs.declared.reply.DeviceInfo.{DeviceInfo}
use Rattle.af_lib.specs.Calls.{device_channels}
use Rattle.af_meter.proofs.metering.meter_on.Goals as goal

-- the context of a tool, by other names of its device and of its channels
context_asked : (devices : List DeviceInfo) (context : ToolContext) {number channels : ℕ} {asked : Asked} → context.device ≡ number → device_channels devices number ≡ channels → creates channels context ≡ asked → creates (device_channels devices context.device) context ≡ asked
context_asked devices context same_device same_channels same = ap (λ (n : ℕ). creates n context) (ap (device_channels devices) same_device ∙ same_channels) ∙ same

pub returns-in_err-start-clause-goes : goal.returns-in_err-start-clause-goes
unfolding meters_on
returns-in_err-start-clause-goes g c =
    let context = c.context_of.ensures in
    let asked = context_asked c.args.conn.now.devices c.context_of.result context.device c.requires.channels (context.asked c.args.device.channels) in
    goes_stop is_tool _ (search rules) (rw (asked, context.device) at (c.in_err-start.ensures.goes (g.K.Sink.held c.args.sink.now)))

pub returns-in_err-tell-clause-goes : goal.returns-in_err-tell-clause-goes
unfolding meters_on
returns-in_err-tell-clause-goes g c =
    let context = c.context_of.ensures in
    let asked = context_asked c.args.conn.now.devices c.context_of.result context.device c.requires.channels (context.asked c.args.device.channels) in
    goes_through is_tool _ (rw (asked, context.device) at (c.in_ok-start.ensures.goes (g.K.Sink.held c.args.sink.now)))
    (goes_stop is_tool _ (search rules) (rw (c.plan_of.ensures.value, c.count.ensures) at c.in_err-tell.ensures.goes))

pub returns-clause-goes : goal.returns-clause-goes
unfolding meters_on
returns-clause-goes g c =
    let context = c.context_of.ensures in
    let asked = context_asked c.args.conn.now.devices c.context_of.result context.device c.requires.channels (context.asked c.args.device.channels) in
    goes_through is_tool _ (rw (asked, context.device) at (c.in_ok-start.ensures.goes (g.K.Sink.held c.args.sink.now)))
    (goes_through is_tool _ (rw (c.plan_of.ensures.value, c.count.ensures) at c.in_ok-tell.ensures.goes) (c.finish.ensures.goes _))
