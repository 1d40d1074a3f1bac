use Rattle.std.proofs.Common.{refl, subst, sym, ap, ◌∙◌, false, Option, option_and_then}
use Rattle.std.specs.Option.{option_map_or}
use Rattle.std.proofs.lemmas.Option.{same_Some}
use Rattle.af_toolkit.specs.declared.end.ToolEnd.TheVariants as end
use Rattle.af_cli.specs.Words.{Job}
use Rattle.af_cli.specs.Call.{job_of_call}
use Rattle.af_tools.specs.Reading.{TellsIfRead}
use Rattle.af_tools.specs.Run.{EndsForCause, JobDone, is_of_job, job_form, job_reads}
use Rattle.af_tools.proofs.OutcomeLemmas.{did, ranged_call}
use Rattle.af_tools.specs.RunSteps.{JobInStep}
use Rattle.af_tools.proofs.RunStepLemmas.{idle_steps}
use Rattle.af_tools.proofs.DialLemmas.{lost_strict, not_too_long, ran_none}
use Rattle.af_tools.proofs.run.af_run.Goals as goal

pub returns-in-Err-OutOfMemory-clause-told : goal.returns-in-Err-OutOfMemory-clause-told
returns-in-Err-OutOfMemory-clause-told g c j called used links bytes told tells =
    did j bytes end.OutOfMemory links _ _ _ _ _ (ran_none j bytes end.OutOfMemory links _ _ _ _ refl told refl) (λ e. cc) (λ few e. cc) (λ e. cc)

pub returns-in-Ok-clause-told : goal.returns-in-Ok-clause-told
returns-in-Ok-clause-told g c j called used links bytes told tells =
    let j' = job_of_call c.in-Ok.call in
    let same = same_Some (job_of_call c.in-Ok.call) j (sym c.in-Ok.ensures.ok ∙ called) in
    let read : TellsIfRead g.S.Source.left (job_reads j') bytes c.args.source.now c.run_call.new.source = λ reads. tells (ap job_reads (sym same) ∙ reads) in
    subst (λ (x : Job). JobDone x bytes c.run_call.result links (g.D.Dial.links c.run_call.new.dial) (g.K.Sink.held c.args.sink.now) (g.K.Sink.held c.run_call.new.sink) (g.D.Dial.back c.args.dial.now) (g.D.Dial.back c.run_call.new.dial))
    same
    (did j' bytes c.run_call.result links _ _ _ _ _ (c.run_call.ensures.ran links bytes told read) (λ way. ranged_call c.in-Ok.call c.in-Ok.ensures.call)
    (not_too_long j' c.run_call.ensures.end c.run_call.ensures.causes.source read)
    (λ lost. lost_strict j' (ap (is_of_job j') (sym lost) ∙ c.run_call.ensures.end)))

pub returns-in-Ok-clause-causes : goal.returns-in-Ok-clause-causes
returns-in-Ok-clause-causes g c =
    subst (λ (o : Option Job). EndsForCause g.S.Source.left g.S.Source.faults g.K.Sink.faults g.D.Dial.faults g.D.Dial.hurt (option_map_or job_reads o false) (option_and_then job_form o) c.run_call.result c.args.source.now c.run_call.new.source c.args.sink.now c.run_call.new.sink c.args.dial.now c.run_call.new.dial) (sym c.in-Ok.ensures.ok) c.run_call.ensures.causes

pub returns-in-Ok-clause-unread : goal.returns-in-Ok-clause-unread
returns-in-Ok-clause-unread g c j called server order t is = c.run_call.ensures.unread server order t (same_Some (job_of_call c.in-Ok.call) j (sym c.in-Ok.ensures.ok ∙ called) ∙ is)

pub returns-in-Err-Usage-clause-step : goal.returns-in-Err-Usage-clause-step
returns-in-Err-Usage-clause-step g c j called links bytes told tells = idle_steps j bytes end.Usage links _ _ _ _ _ _ (refl, refl) refl

pub returns-in-Err-OutOfMemory-clause-step : goal.returns-in-Err-OutOfMemory-clause-step
returns-in-Err-OutOfMemory-clause-step g c j called links bytes told tells = idle_steps j bytes end.OutOfMemory links _ _ _ _ _ _ (refl, refl) refl

pub returns-in-Ok-clause-step : goal.returns-in-Ok-clause-step
returns-in-Ok-clause-step g c j called =
    subst (λ (x : Job). JobInStep g.D.Dial.links g.D.Dial.back g.S.Source.left g.K.Sink.held x c.run_call.result c.args.dial.now c.run_call.new.dial c.args.source.now c.run_call.new.source c.args.sink.now c.run_call.new.sink)
    (same_Some (job_of_call c.in-Ok.call) j (sym c.in-Ok.ensures.ok ∙ called)) c.run_call.ensures.step
