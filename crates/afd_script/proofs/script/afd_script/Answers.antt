use Rattle.std.proofs.Common.{◌≡◌}
use Rattle.std.specs.declared.option.Option.TheVariants.{None, Some}
use Rattle.afd_script.specs.declared.job.ScriptJob.TheVariants as job
use Rattle.afd_script.specs.Words.{job_of}
use Rattle.afd_script.proofs.JobLemmas.{did_script, did_exercise, nothing_asked, good_script, exercise_done}
use Rattle.afd_script.proofs.script.afd_script.Goals as goal

pub returns-in-None-clause-complete : goal.returns-in-None-clause-complete
returns-in-None-clause-complete g c =
    let asked : job_of c.args.words.now ≡ None = cc (c.job_of.ensures.value, c.in-None.is) in
    λ can held. absurd (nothing_asked g.S.Source.left g.S.Source.faults (job_of c.args.words.now) _ _ asked can)

pub returns-in-Some-Script-clause-done : goal.returns-in-Some-Script-clause-done
returns-in-Some-Script-clause-done g c =
    let asked : job_of c.args.words.now ≡ Some job.Script = cc (c.job_of.ensures.value, c.in-Some-Script.is, c.in-Some-Script.field-0-is) in
    λ e. did_script (job_of c.args.words.now) _ _ _ _ _ asked (c.transcribe.ensures.done e)

pub returns-in-Some-Script-clause-cut : goal.returns-in-Some-Script-clause-cut
returns-in-Some-Script-clause-cut g c =
    let asked : job_of c.args.words.now ≡ Some job.Script = cc (c.job_of.ensures.value, c.in-Some-Script.is, c.in-Some-Script.field-0-is) in
    λ e. did_script (job_of c.args.words.now) _ _ _ _ _ asked (c.transcribe.ensures.cut e)

pub returns-in-Some-Script-clause-complete : goal.returns-in-Some-Script-clause-complete
returns-in-Some-Script-clause-complete g c =
    let asked : job_of c.args.words.now ≡ Some job.Script = cc (c.job_of.ensures.value, c.in-Some-Script.is, c.in-Some-Script.field-0-is) in
    λ can held. c.transcribe.ensures.complete (good_script g.S.Source.left g.S.Source.faults (job_of c.args.words.now) _ _ asked can) held

pub returns-in-Some-Exercise-clause-done : goal.returns-in-Some-Exercise-clause-done
returns-in-Some-Exercise-clause-done g c =
    let asked = c.in-Some-Exercise in
    λ e. did_exercise (job_of c.args.words.now) _ _ _ _ _ asked.seed asked.turns (cc (c.job_of.ensures.value, asked.is, asked.field-0-is)) (c.exercise.ensures.done e)

pub returns-in-Some-Exercise-clause-cut : goal.returns-in-Some-Exercise-clause-cut
returns-in-Some-Exercise-clause-cut g c =
    let asked = c.in-Some-Exercise in
    λ e. did_exercise (job_of c.args.words.now) _ _ _ _ _ asked.seed asked.turns (cc (c.job_of.ensures.value, asked.is, asked.field-0-is)) (c.exercise.ensures.cut e)

pub returns-in-Some-Exercise-clause-complete : goal.returns-in-Some-Exercise-clause-complete
returns-in-Some-Exercise-clause-complete g c = λ can held.
    exercise_done c.exercise.result c.exercise.ensures.ends (λ e. held (c.exercise.ensures.sink.1 e))
