use Rattle.std.proofs.Common.{rules, ◌≡◌, ◌∙◌, ap, true, false, is_some, List, ℕ}
use Rattle.af_process.specs.declared.act.BeganGot.TheVariants as got
use Rattle.af_attendant.specs.Ran.{command_words, not_started, starved}
use Rattle.af_attendant.proofs.AttendantPartLemmas.{went_through, went_value}
use Rattle.af_attendant.proofs.AttendantStepLemmas.{started_went}
use Rattle.af_attendant.proofs.StandingLemmas.{run_gone, run_here}
use Rattle.af_attendant.proofs.watch.run_command.Goals as goal

pub returns-then-is_gone-clause-goes : goal.returns-then-is_gone-clause-goes
returns-then-is_gone-clause-goes g c held =
    let gone : is_some c.args.line.now.gone ≡ true = search rules in
    rw c.not_run.ensures (run_gone c.args.job.now c.args.call c.args.text.now.bytes gone)

pub returns-in-Running-clause-goes : goal.returns-in-Running-clause-goes
returns-in-Running-clause-goes g c held =
    let here : is_some c.args.line.now.gone ≡ false = search rules in
    run_here c.args.job.now c.args.call c.args.text.now.bytes here (went_through _ (started_went (got.Child 0) (c.command_words-words.ensures.words ∙ ap (λ (d : List ℕ). command_words c.args.job.now c.args.call d c.args.text.now.bytes) c.digits.ensures.digits) c.in-Running.ensures.acts) (c.watch.ensures.goes held))

pub returns-in-Failed-clause-goes : goal.returns-in-Failed-clause-goes
returns-in-Failed-clause-goes g c held =
    let here : is_some c.args.line.now.gone ≡ false = search rules in
    rw c.not_started.ensures (run_here c.args.job.now c.args.call c.args.text.now.bytes here (went_through _ (started_went got.Failed (c.command_words-words.ensures.words ∙ ap (λ (d : List ℕ). command_words c.args.job.now c.args.call d c.args.text.now.bytes) c.digits.ensures.digits) c.in-Failed.ensures.acts) (went_value not_started)))

pub returns-in-OutOfMemory-clause-goes : goal.returns-in-OutOfMemory-clause-goes
returns-in-OutOfMemory-clause-goes g c held =
    let here : is_some c.args.line.now.gone ≡ false = search rules in
    rw c.starved.ensures (run_here c.args.job.now c.args.call c.args.text.now.bytes here (went_through _ (started_went got.NoMemory (c.command_words-words.ensures.words ∙ ap (λ (d : List ℕ). command_words c.args.job.now c.args.call d c.args.text.now.bytes) c.digits.ensures.digits) c.in-OutOfMemory.ensures.acts) (went_value starved)))
