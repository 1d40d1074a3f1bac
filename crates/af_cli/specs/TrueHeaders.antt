-- Which recordings keep the header of their file true to what was written so far.
use Rattle.std.specs.Prelude.{◌||◌, Option, None, is_some, option_and_then, if◌then◌else◌, List}
use Rattle.af_sound.specs.declared.head.SoundForm.{SoundForm}
use Rattle.clap.specs.Words.{Text}
use Rattle.af_cli.specs.declared.job.RecordJob.{RecordJob}
use Rattle.af_cli.specs.declared.job.Task.TheVariants as task
use Rattle.af_cli.specs.Words.{Job, job, one, relay}

-- the form of a recording whose header is kept true: one by seconds, or one whose words ask for it
abbrev pub true_form : RecordJob → Option SoundForm
true_form recording = if is_some recording.seconds || recording.true_header then recording.form else None

-- the form of a job whose header is kept true; only arecord has one
abbrev pub job_true_form : Job → Option SoundForm
job_true_form (one server order (task.Record recording)) = true_form recording
job_true_form (one server order (task.Play play)) = None
job_true_form (one server order (task.Set set)) = None
job_true_form (one server order task.List) = None
job_true_form (relay from to order pass) = None

-- the form of arguments whose header is kept true
abbrev pub asked_true_form : List Text → Option SoundForm
asked_true_form words = option_and_then job_true_form (job words)
