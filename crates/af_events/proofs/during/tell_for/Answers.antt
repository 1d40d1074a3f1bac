use Rattle.std.proofs.Common.{rules}
use Rattle.af_toolkit.proofs.PartLemmas.{goes_stop, goes_through}
use Rattle.af_toolkit.proofs.ToolPartLemmas.{is_tool}
use Rattle.af_events.specs.Trace.{tells_for}
use Rattle.af_events.proofs.DuringLemmas.{clock_asked}
use Rattle.af_events.proofs.during.tell_for.Goals as goal

pub returns-in_err-start-clause-goes : goal.returns-in_err-start-clause-goes
unfolding tells_for
returns-in_err-start-clause-goes g c =
    let context = c.context.ensures in
    let asked = clock_asked c.args.conn.now.devices c.context.result c.args.span context.device c.requires.channels context.asked in
    goes_stop is_tool _ (search rules) (rw (asked, context.device) at (c.in_err-start.ensures.goes (g.K.Sink.held c.args.sink.now)))

pub returns-in_err-tell_during-clause-goes : goal.returns-in_err-tell_during-clause-goes
unfolding tells_for
returns-in_err-tell_during-clause-goes g c =
    let context = c.context.ensures in
    let asked = clock_asked c.args.conn.now.devices c.context.result c.args.span context.device c.requires.channels context.asked in
    goes_through is_tool _ (rw (asked, context.device) at (c.in_ok-start.ensures.goes (g.K.Sink.held c.args.sink.now)))
    (goes_stop is_tool _ (search rules) c.in_err-tell_during.ensures.goes)

pub returns-clause-goes : goal.returns-clause-goes
unfolding tells_for
returns-clause-goes g c =
    let context = c.context.ensures in
    let asked = clock_asked c.args.conn.now.devices c.context.result c.args.span context.device c.requires.channels context.asked in
    goes_through is_tool _ (rw (asked, context.device) at (c.in_ok-start.ensures.goes (g.K.Sink.held c.args.sink.now)))
    (goes_through is_tool _ c.in_ok-tell_during.ensures.goes (c.finish.ensures.goes _))
