use Rattle.std.proofs.Common.{◌≡◌, ◌∷◌, [], List, ℕ, subst, refl, Option}
use Rattle.af_io.specs.Observed.{Appended}
use Rattle.af_io.proofs.AppendedLemmas.{appended_on}
use Rattle.af_process.specs.declared.act.BeganGot.{BeganGot}
use Rattle.af_process.specs.declared.act.BeganGot.TheVariants as got
use Rattle.af_process.specs.Acts.{Told, began, status_of}
use Rattle.af_answer.specs.Children.{child_ran, start_failed, start_starved}
use Rattle.af_answer.proofs.AnswerStepLemmas.{child_went}
use Rattle.af_answer.proofs.child.run_child.Goals as goal

-- the start of a child, by its command line
began_by : {words words' : List (List ℕ)} (how : BeganGot) (acts acts' : Option (List Told)) → words ≡ words' → Appended acts (began words how ∷ []) acts' → Appended acts (began words' how ∷ []) acts'
began_by how acts acts' same told = subst (λ (words : List (List ℕ)). Appended acts (began words how ∷ []) acts') same told

pub returns-in-Child-clause-ran : goal.returns-in-Child-clause-ran
returns-in-Child-clause-ran g c =
    child_went c.args.text.now.bytes (child_ran c.in-Child.child (status_of c.finish_command.result)) c.finished_end.ensures
    (appended_on _ _ _ _ _ (began_by (got.Child c.in-Child.child) _ _ c.shell_words.ensures.words c.in-Child.ensures.acts) c.finish_command.ensures.acts)

pub returns-in-Failed-clause-ran : goal.returns-in-Failed-clause-ran
returns-in-Failed-clause-ran g c = child_went c.args.text.now.bytes start_failed refl (began_by got.Failed _ _ c.shell_words.ensures.words c.in-Failed.ensures.acts)

pub returns-in-OutOfMemory-clause-ran : goal.returns-in-OutOfMemory-clause-ran
returns-in-OutOfMemory-clause-ran g c = child_went c.args.text.now.bytes start_starved refl (began_by got.NoMemory _ _ c.shell_words.ensures.words c.in-OutOfMemory.ensures.acts)
