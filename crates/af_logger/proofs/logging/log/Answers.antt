use Rattle.std.proofs.Common.{◌≡◌, refl, sym, ap}
use Rattle.af_lib.specs.Calls.{channels_or_one}
use Rattle.af_toolkit.specs.Trace.{done, ends, refused}
use Rattle.af_toolkit.proofs.ToolPartLemmas.{followed_end, trace_goes_on, trace_stops}
use Rattle.af_logger.specs.Trace.{log_trace}
use Rattle.af_logger.proofs.SentLemmas.{device_there, missing_ends, missing_exactly, missing_ran, missing_sent, ran_ends, ran_there, there_exactly, there_sent}
use Rattle.af_logger.proofs.LoggedLemmas.{not_done, other_end, there_ran}
use Rattle.af_logger.proofs.logging.log.Goals as goal

pub returns-in-Err-clause-sent : goal.returns-in-Err-clause-sent
returns-in-Err-clause-sent g c input told = missing_sent c.args.job.now _ _ (sym c.in-Err.ensures.value)

pub returns-in-Err-clause-ran : goal.returns-in-Err-clause-ran
returns-in-Err-clause-ran g c input told = missing_ran c.args.job.now _ _ _ _ (sym c.in-Err.ensures.value)

pub returns-in-Err-clause-no_device : goal.returns-in-Err-clause-no_device
returns-in-Err-clause-no_device g c n = missing_exactly (sym c.in-Err.ensures.value) n

pub returns-in-Err-clause-end : goal.returns-in-Err-clause-end
returns-in-Err-clause-end g c = missing_ends _ _ (sym c.in-Err.ensures.value)

pub log_on-requires-clause-channels : goal.log_on-requires-clause-channels
log_on-requires-clause-channels g c = ap channels_or_one (device_there _ _ c.in-Ok.ensures.value)

pub returns-in-Ok-log_on-clause-sent : goal.returns-in-Ok-log_on-clause-sent
unfolding log_trace
returns-in-Ok-log_on-clause-sent g c input told =
    there_sent c.args.job.now _ (sym c.in-Ok.ensures.value) (trace_goes_on refused (λ _. ends done) (input, told, refl) (c.in-Ok-log_on.ensures.goes _) (followed_end done refl))

pub returns-in-Ok-log_on-clause-ran : goal.returns-in-Ok-log_on-clause-ran
unfolding log_trace
returns-in-Ok-log_on-clause-ran g c input told =
    there_ran c.args.job.now _ _ (sym c.in-Ok.ensures.value) (trace_goes_on refused (λ _. ends done) (input, told, refl) (c.in-Ok-log_on.ensures.goes _) (followed_end done refl)) (c.in-Ok-log_on.ensures.logged input told) (λ other same. cc same) (λ done. refl)

pub returns-in-Ok-log_on-clause-no_device : goal.returns-in-Ok-log_on-clause-no_device
returns-in-Ok-log_on-clause-no_device g c n = there_exactly (sym c.in-Ok.ensures.value) (λ k e. cc e) n

pub returns-in-Err-log_on-clause-sent : goal.returns-in-Err-log_on-clause-sent
unfolding log_trace
returns-in-Err-log_on-clause-sent g c input told =
    there_sent c.args.job.now _ (sym c.in-Ok.ensures.value) (trace_stops refused (λ _. ends done) (input, told, refl) (c.in-Err-log_on.ensures.goes _))

pub returns-in-Err-log_on-clause-ran : goal.returns-in-Err-log_on-clause-ran
unfolding log_trace
returns-in-Err-log_on-clause-ran g c input told =
    there_ran c.args.job.now _ _ (sym c.in-Ok.ensures.value) (trace_stops refused (λ _. ends done) (input, told, refl) (c.in-Err-log_on.ensures.goes _)) (c.in-Err-log_on.ensures.logged input told) other_end (not_done c.in-Err-log_on.end c.in-Err-log_on.ensures.end)

pub returns-in-Err-log_on-clause-no_device : goal.returns-in-Err-log_on-clause-no_device
returns-in-Err-log_on-clause-no_device g c n = there_exactly (sym c.in-Ok.ensures.value) (ran_there c.in-Err-log_on.end c.in-Err-log_on.ensures.end) n

pub returns-in-Err-log_on-clause-end : goal.returns-in-Err-log_on-clause-end
returns-in-Err-log_on-clause-end g c = ran_ends c.in-Err-log_on.end c.in-Err-log_on.ensures.end
