use Rattle.std.proofs.Common.{◌≡◌, refl, sym, ap}
use Rattle.af_lib.specs.Calls.{channels_or_one}
use Rattle.af_toolkit.specs.declared.end.ToolEnd.TheVariants as end
use Rattle.af_toolkit.specs.Trace.{done, ends, refused}
use Rattle.af_toolkit.proofs.ToolPartLemmas.{followed_end, trace_goes_on, trace_stops}
use Rattle.af_meter.specs.Trace.{meter_trace}
use Rattle.af_meter.proofs.ToldLemmas.{device_there, meter_ran, missing_ends, missing_exactly, missing_ran, ran_ends, ran_there, there_exactly, there_ran}
use Rattle.af_meter.proofs.metering.meter.Goals as goal

pub returns-in-Err-clause-ran : goal.returns-in-Err-clause-ran
returns-in-Err-clause-ran g c input told = missing_ran c.args.job.now _ _ _ (sym c.in-Err.ensures.value)

pub returns-in-Err-clause-no_device : goal.returns-in-Err-clause-no_device
returns-in-Err-clause-no_device g c n = missing_exactly (sym c.in-Err.ensures.value) n

pub returns-in-Err-clause-end : goal.returns-in-Err-clause-end
returns-in-Err-clause-end g c = missing_ends _ _ (sym c.in-Err.ensures.value)

pub meter_on-requires-clause-channels : goal.meter_on-requires-clause-channels
meter_on-requires-clause-channels g c = ap channels_or_one (device_there _ _ c.in-Ok.ensures.value)

pub returns-in-Ok-meter_on-clause-ran : goal.returns-in-Ok-meter_on-clause-ran
unfolding meter_trace
returns-in-Ok-meter_on-clause-ran g c input told =
    there_ran (sym c.in-Ok.ensures.value) (meter_ran c.requires.some (trace_goes_on refused (λ _. ends done) (input, told, refl) c.in-Ok-meter_on.ensures.goes (followed_end done refl)))

pub returns-in-Ok-meter_on-clause-no_device : goal.returns-in-Ok-meter_on-clause-no_device
returns-in-Ok-meter_on-clause-no_device g c n = there_exactly (sym c.in-Ok.ensures.value) (λ k e. cc e) n

pub returns-in-Err-meter_on-clause-ran : goal.returns-in-Err-meter_on-clause-ran
unfolding meter_trace
returns-in-Err-meter_on-clause-ran g c input told =
    there_ran (sym c.in-Ok.ensures.value) (meter_ran c.requires.some (trace_stops refused (λ _. ends done) (input, told, refl) c.in-Err-meter_on.ensures.goes))

pub returns-in-Err-meter_on-clause-no_device : goal.returns-in-Err-meter_on-clause-no_device
returns-in-Err-meter_on-clause-no_device g c n = there_exactly (sym c.in-Ok.ensures.value) (ran_there c.in-Err-meter_on.end c.in-Err-meter_on.ensures.end) n

pub returns-in-Err-meter_on-clause-end : goal.returns-in-Err-meter_on-clause-end
returns-in-Err-meter_on-clause-end g c = ran_ends c.in-Err-meter_on.end c.in-Err-meter_on.ensures.end
