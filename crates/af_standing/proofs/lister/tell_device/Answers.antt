use Rattle.std.proofs.Common.{rules}
use Rattle.af_toolkit.proofs.PartLemmas.{goes_stop, goes_through}
use Rattle.af_toolkit.proofs.ToolPartLemmas.{is_tool, writes_go}
use Rattle.af_toolkit.proofs.StepLemmas.{not_link}
use Rattle.af_standing.proofs.lister.tell_device.Goals as goal

pub returns-in_err-controls_report-clause-goes : goal.returns-in_err-controls_report-clause-goes
returns-in_err-controls_report-clause-goes g c = goes_stop is_tool _ (search rules) (c.in_err-controls_report.ensures.goes _)

pub returns-in_err-now-clause-goes : goal.returns-in_err-now-clause-goes
returns-in_err-now-clause-goes g c = goes_through is_tool _ (c.in_ok-controls_report.ensures.goes _) (goes_stop is_tool _ (search rules) (c.in_err-now.ensures.goes _))

pub returns-clause-goes : goal.returns-clause-goes
returns-clause-goes g c =
    goes_through is_tool _ (c.in_ok-controls_report.ensures.goes _) (goes_through is_tool _ (c.in_ok-now.ensures.goes _)
    (writes_go g.K.Sink.held _ c.report.result c.args.sink.now c.report.new.sink c.report.ensures.written))

pub returns-clause-kept : goal.returns-clause-kept
returns-clause-kept g c = not_link _ c.report.result c.report.ensures.end
