use Rattle.std.proofs.Common.{rules}
use Rattle.af_toolkit.proofs.PartLemmas.{goes_stop, goes_through}
use Rattle.af_toolkit.proofs.ToolPartLemmas.{is_tool}
use Rattle.af_logger.proofs.RecordLemmas.{records_past}
use Rattle.af_logger.proofs.logging.log_all.Goals as goal

pub returns-in_err-log_pieces-clause-goes : goal.returns-in_err-log_pieces-clause-goes
returns-in_err-log_pieces-clause-goes g c held = goes_stop is_tool _ (search rules) (c.in_err-log_pieces.ensures.goes held)

pub returns-clause-goes : goal.returns-clause-goes
returns-clause-goes g c held = goes_through is_tool _ (c.in_ok-log_pieces.ensures.goes held) (c.finish.ensures.goes held)

pub returns-in_err-log_pieces-clause-records : goal.returns-in_err-log_pieces-clause-records
returns-in_err-log_pieces-clause-records g c = records_past c.in_err-log_pieces.ensures.records

pub returns-clause-records : goal.returns-clause-records
returns-clause-records g c = records_past c.in_ok-log_pieces.ensures.records
