use Rattle.std.proofs.Common.{refl}
use Rattle.af_toolkit.specs.Trace.{done, ends, refused}
use Rattle.af_toolkit.specs.Ends.{client_of}
use Rattle.af_toolkit.proofs.ToolPartLemmas.{followed_end, trace_goes_on, trace_stops}
use Rattle.af_standing.specs.List.{list_trace}
use Rattle.af_standing.proofs.ListLemmas.{list_ran}
use Rattle.af_standing.proofs.StepLemmas.{lists_for}
use Rattle.af_standing.proofs.lister.list.Goals as goal

pub returns-in-Ok-clause-ran : goal.returns-in-Ok-clause-ran
unfolding list_trace
returns-in-Ok-clause-ran g c input told =
    list_ran c.args.conn.now.devices (client_of c.args.conn.now input) _ _ _ _ _ (trace_goes_on refused (λ _. ends done) (input, told, refl) c.in-Ok.ensures.goes (followed_end done refl))

pub returns-in-Err-clause-ran : goal.returns-in-Err-clause-ran
unfolding list_trace
returns-in-Err-clause-ran g c input told =
    list_ran c.args.conn.now.devices (client_of c.args.conn.now input) _ _ _ _ _ (trace_stops refused (λ _. ends done) (input, told, refl) c.in-Err.ensures.goes)

pub returns-in-Ok-clause-step : goal.returns-in-Ok-clause-step
returns-in-Ok-clause-step g c input told = lists_for (λ bad. cc bad) (c.in-Ok.ensures.step input told)

pub returns-in-Err-clause-step : goal.returns-in-Err-clause-step
returns-in-Err-clause-step g c input told = lists_for (λ bad. cc bad) (c.in-Err.ensures.step input told)
