-- What is known of a job, once it is known which one the arguments ask for.
use Rattle.std.proofs.Common.{◌≡◌, ◌⊎◌, inl, inr, ℕ, List, sym, subst}
use Rattle.std.specs.declared.option.Option.{Option}
use Rattle.std.specs.declared.option.Option.TheVariants.{None, Some}
use Rattle.af_io.specs.declared.flow.Put.{Put}
use Rattle.afd_script.specs.declared.job.ScriptJob.{ScriptJob}
use Rattle.afd_script.specs.declared.job.ScriptJob.TheVariants as job
use Rattle.afd_script.specs.declared.script.ScriptEnd.{ScriptEnd}
use Rattle.afd_script.specs.declared.script.ScriptEnd.TheVariants as end
use Rattle.afd_script.specs.Ends.{WroteTranscript, WroteSummary, IsGoodScript, Did, CanBeDone}

module _ (asked : Option ScriptJob) (left left' held held' : Option (List ℕ)) (put : Put) where
  pub did_script : asked ≡ Some job.Script → WroteTranscript put left left' held held' → Did put asked left left' held held'
  did_script e h = subst (λ j. Did put j left left' held held') (sym e) h

  pub did_exercise : (seed turns : ℕ) → asked ≡ Some (job.Exercise seed turns) → WroteSummary put seed turns held held' → Did put asked left left' held held'
  did_exercise seed turns e h = subst (λ j. Did put j left left' held held') (sym e) h

module _ {S : Type 0} (left : S → Option (List ℕ)) (faults : S → ℕ) (asked : Option ScriptJob) (before after : S) where
  pub nothing_asked : asked ≡ None → CanBeDone left faults asked before after → ⊥
  nothing_asked e h = subst (λ j. CanBeDone left faults j before after) e h

  pub good_script : asked ≡ Some job.Script → CanBeDone left faults asked before after → IsGoodScript left faults before after
  good_script e h = subst (λ j. CanBeDone left faults j before after) e h

-- an exercise comes to its end if the sink does not fail
pub exercise_done : (ended : ScriptEnd) → (ended ≡ end.Done) ⊎ ((ended ≡ end.SinkFault) ⊎ (ended ≡ end.OutOfMemory)) → (ended ≡ end.SinkFault → ⊥) → (ended ≡ end.Done) ⊎ (ended ≡ end.OutOfMemory)
exercise_done ended (inl done) holds = inl done
exercise_done ended (inr (inl failed)) holds = absurd (holds failed)
exercise_done ended (inr (inr wanted)) holds = inr wanted
