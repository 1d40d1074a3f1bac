use Rattle.std.proofs.Common.{rules, ◌≢◌, refl, Option, List}
use Rattle.af_process.specs.Acts.{Told}
use Rattle.af_answer.specs.declared.child.ChildEnd.{ChildEnd}
use Rattle.af_answer.specs.declared.child.ChildEnd.TheVariants as ended
use Rattle.af_answer.specs.declared.job.AnswerJob.{AnswerJob}
use Rattle.af_answer.specs.AnswerTrace.{leaves_message}
use Rattle.af_answer.specs.AnswerParts.{RunsBy}
use Rattle.af_answer.proofs.AnswerPartLemmas.{went_value}
use Rattle.af_answer.proofs.call.leave_message.Goals as goal

-- after another greeting no child runs
none_left : (job : AnswerJob) (greeting : ChildEnd) (acts : Option (List Told)) → greeting ≢ ended.Good → RunsBy acts acts (leaves_message job greeting) greeting
none_left job ended.Good acts other = absurd (other refl)
none_left job greeting acts other = λ link held. went_value greeting

pub returns-in-Bad-clause-left : goal.returns-in-Bad-clause-left
returns-in-Bad-clause-left g c = none_left c.args.job.now c.args.greeting _ (search rules)
