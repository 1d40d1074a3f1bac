use Rattle.std.proofs.Common.{rules, ◌≡◌, ◌∙◌, ℕ, List, Err, Option, None, ap, false, refl}
use Rattle.af_toolkit.specs.Talk.{creates}
use Rattle.af_toolkit.specs.declared.talk.ToolContext.{ToolContext}
use Rattle.af_request.specs.Asked.{Asked}
use Rattle.af_request.specs.declared.reply.DeviceInfo.{DeviceInfo}
use Rattle.af_lib.specs.Calls.{device_channels}
use Rattle.af_toolkit.proofs.PartLemmas.{goes_stop, goes_through}
use Rattle.af_toolkit.proofs.ToolPartLemmas.{is_tool}
use Rattle.af_logger.specs.declared.logger.Logger.{Logger}
use Rattle.af_logger.specs.declared.plan.Plan.{Plan}
use Rattle.af_toolkit.specs.declared.end.ToolEnd.TheVariants as tool
use Rattle.af_toolkit.specs.Ends.{client_of}
use Rattle.af_logger.specs.Trace.{logs_on}
use Rattle.af_logger.proofs.LoopLemmas.{none_desk}
use Rattle.af_logger.proofs.PumpLemmas.{goes_outer}
use Rattle.af_logger.proofs.LoggedLemmas.{has_logged, no_value, none_logged, part_came}
use Rattle.af_logger.proofs.logging.log_on.Goals as goal

-- the context of a tool, by other names of its device and of its channels
context_asked : (devices : List DeviceInfo) (context : ToolContext) {number channels : ℕ} {asked : Asked} → context.device ≡ number → device_channels devices number ≡ channels → creates channels context ≡ asked → creates (device_channels devices context.device) context ≡ asked
context_asked devices context same_device same_channels same = ap (λ (n : ℕ). creates n context) (ap (device_channels devices) same_device ∙ same_channels) ∙ same

pub returns-in_err-now-clause-goes : goal.returns-in_err-now-clause-goes
unfolding logs_on
returns-in_err-now-clause-goes g c held =
    let context = c.context_of.ensures in
    let asked = context_asked c.args.conn.now.devices c.context_of.result context.device c.requires.channels (context.asked c.args.device c.plan_of-plan.ensures.value) in
    goes_stop is_tool _ (search rules) (rw (asked, context.device) at (c.in_err-now.ensures.goes held))

pub log_all-came-requires-clause-desk : goal.log_all-came-requires-clause-desk
log_all-came-requires-clause-desk g c =
    let logger = c.new-logger.ensures.value in
    none_desk c.new-logger.result _ c.requires.idle (ap (λ (l : Logger). l.waiting) logger) (ap (λ (l : Logger). l.last) logger)

pub returns-then-logger-clause-goes : goal.returns-then-logger-clause-goes
unfolding logs_on
returns-then-logger-clause-goes g c held =
    let context = c.context_of.ensures in
    let asked = context_asked c.args.conn.now.devices c.context_of.result context.device c.requires.channels (context.asked c.args.device c.plan_of-plan.ensures.value) in
    goes_through is_tool _ (rw (asked, context.device) at (c.in_ok-now.ensures.goes held))
    (goes_outer _ refl (rw (c.new-logger.ensures.value, c.plan_of-plan.ensures.value, c.start_of.ensures) at (c.log_all-came.ensures.goes held)))

pub returns-clause-goes : goal.returns-clause-goes
unfolding logs_on
returns-clause-goes g c held =
    let context = c.context_of.ensures in
    let asked = context_asked c.args.conn.now.devices c.context_of.result context.device c.requires.channels (context.asked c.args.device c.plan_of-plan.ensures.value) in
    goes_through is_tool _ (rw (asked, context.device) at (c.in_ok-now.ensures.goes held))
    (rw (c.new-logger.ensures.value, c.plan_of-plan.ensures.value, c.start_of.ensures) at (c.log_all-came.ensures.goes held))

pub returns-in_err-now-clause-logged : goal.returns-in_err-now-clause-logged
returns-in_err-now-clause-logged g c input told = none_logged c.from_residual.result c.requires.idle c.from_residual.ensures.0

pub returns-then-logger-clause-logged : goal.returns-then-logger-clause-logged
returns-then-logger-clause-logged g c input told =
    let context = c.context_of.ensures in
    let asked = context_asked c.args.conn.now.devices c.context_of.result context.device c.requires.channels (context.asked c.args.device c.plan_of-plan.ensures.value) in
    let e = c.log_all-came.ensures in
    let begun = part_came (rw (asked, context.device) at (c.in_ok-now.ensures.goes None)) (client_of c.args.conn.now input) (input, told, refl) in
    has_logged (Err tool.SinkFault) begun.1 begun.2 (c.new-logger.ensures.value ∙ ap (λ (p : Plan). record { plan = p; at = c.start_of.result; begun = 0; waiting = None; last = None; failed = false }) c.plan_of-plan.ensures.value) c.start_of.ensures c.requires.idle e.records e.leaves.plan (c.end.ensures.gone c.args.task.now.job.now) (λ other. absurd (other refl)) no_value no_value

pub returns-clause-logged : goal.returns-clause-logged
returns-clause-logged g c input told =
    let context = c.context_of.ensures in
    let asked = context_asked c.args.conn.now.devices c.context_of.result context.device c.requires.channels (context.asked c.args.device c.plan_of-plan.ensures.value) in
    let e = c.log_all-came.ensures in
    let begun = part_came (rw (asked, context.device) at (c.in_ok-now.ensures.goes None)) (client_of c.args.conn.now input) (input, told, refl) in
    has_logged c.log_all-came.result begun.1 begun.2 (c.new-logger.ensures.value ∙ ap (λ (p : Plan). record { plan = p; at = c.start_of.result; begun = 0; waiting = None; last = None; failed = false }) c.plan_of-plan.ensures.value) c.start_of.ensures c.requires.idle e.records e.leaves.plan (c.end.ensures.gone c.args.task.now.job.now) (λ other. c.if-logger.false) e.whole (λ ok. e.begun ok (ap (λ (l : Logger). l.begun) c.new-logger.ensures.value))
