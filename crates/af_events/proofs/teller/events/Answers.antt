use Rattle.std.proofs.Common.{refl, sym}
use Rattle.af_toolkit.specs.Trace.{done, ends, refused}
use Rattle.af_toolkit.proofs.ToolPartLemmas.{followed_end, trace_goes_on, trace_stops}
use Rattle.af_events.specs.Trace.{events_trace}
use Rattle.af_events.proofs.ToldLemmas.{events_ran, missing_ends, missing_exactly, missing_ran, there_exactly, there_ran, telling_ends, telling_there}
use Rattle.af_events.proofs.teller.events.Goals as goal

pub returns-in-Some-clause-ran : goal.returns-in-Some-clause-ran
returns-in-Some-clause-ran g c input told = missing_ran _ _ _ _ _ (sym c.in-Some.ensures)

pub returns-in-Some-clause-no_device : goal.returns-in-Some-clause-no_device
returns-in-Some-clause-no_device g c n = missing_exactly (sym c.in-Some.ensures)

pub returns-in-Some-clause-no_line : goal.returns-in-Some-clause-no_line
returns-in-Some-clause-no_line g c n = missing_exactly (sym c.in-Some.ensures)

pub returns-in-Some-clause-end : goal.returns-in-Some-clause-end
returns-in-Some-clause-end g c = missing_ends c.args.job.now.devices c.args.conn.now.devices (sym c.in-Some.ensures)

pub returns-in-Ok-clause-ran : goal.returns-in-Ok-clause-ran
unfolding events_trace
returns-in-Ok-clause-ran g c input told =
    there_ran (sym c.in_default.ensures) (events_ran c.requires.some (trace_goes_on refused (λ _. ends done) (input, told, refl) c.in-Ok.ensures.goes (followed_end done refl)))

pub returns-in-Ok-clause-no_device : goal.returns-in-Ok-clause-no_device
returns-in-Ok-clause-no_device g c n = there_exactly (sym c.in_default.ensures) (λ e. cc e)

pub returns-in-Ok-clause-no_line : goal.returns-in-Ok-clause-no_line
returns-in-Ok-clause-no_line g c n = there_exactly (sym c.in_default.ensures) (λ e. cc e)

pub returns-in-Err-clause-ran : goal.returns-in-Err-clause-ran
unfolding events_trace
returns-in-Err-clause-ran g c input told =
    there_ran (sym c.in_default.ensures) (events_ran c.requires.some (trace_stops refused (λ _. ends done) (input, told, refl) c.in-Err.ensures.goes))

pub returns-in-Err-clause-no_device : goal.returns-in-Err-clause-no_device
returns-in-Err-clause-no_device g c n = there_exactly (sym c.in_default.ensures) (telling_there c.in-Err.end c.in-Err.ensures.end n)

pub returns-in-Err-clause-no_line : goal.returns-in-Err-clause-no_line
returns-in-Err-clause-no_line g c n = there_exactly (sym c.in_default.ensures) (λ e. cc e)

pub returns-in-Err-clause-end : goal.returns-in-Err-clause-end
returns-in-Err-clause-end g c = telling_ends c.in-Err.end c.in-Err.ensures.end
