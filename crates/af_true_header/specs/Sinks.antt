-- A sink that keeps the header of a sound file true, over one that can be corrected.
use Rattle.std.specs.Prelude.{◌≡◌, ◌⊎◌, ⊤, ℕ, if◌then◌else◌, Option, Some, None, List, []}
use Rattle.af_io.specs.declared.flow.Put.{Put}
use Rattle.af_io.specs.declared.flow.Put.TheVariants as put
use Rattle.af_sound.specs.declared.head.SoundForm.{SoundForm}
use Rattle.af_sound.specs.declared.head.SoundHead.{SoundHead}
use Rattle.af_sound.specs.Heads.{IsHead}
use Rattle.af_sound.specs.Written.{IsWritableHead, written_head}
use Rattle.af_true_header.specs.declared.sound_file.SoundFile.{SoundFile}
use Rattle.af_true_header.specs.declared.stage.Stage.{Stage}
use Rattle.af_true_header.specs.declared.stage.Stage.TheVariants as stage
use Rattle.af_true_header.specs.Headers.{true_header}
use Rattle.af_true_header.specs.Files.{begun_file, HoldsFile, IsFile, file_after, is_due, stating, written_file}

-- a sink that keeps a header true: the sink below it, and where the writing is
pub record HeaderState (K : Type 0) : Type 0 where
  pub sink : K
  pub stage : Stage

-- nothing is corrected, or a piece is the header of a file
abbrev pub IsBegun : SoundForm → (piece : List ℕ) → Stage → Type 0
IsBegun form piece after = (after ≡ stage.Plain)
    ⊎ ((head : SoundHead) × IsWritableHead form head × (piece ≡ written_head form head)
    × (after ≡ stage.Begun (begun_file form head)))

-- A first piece begins a file of a form exactly if it is a header of it.
pub record BeginsFile (form : SoundForm) (piece : List ℕ) (after : Stage) : Type 0 where
  pub begun : (head : SoundHead) → IsWritableHead form head → IsHead form piece head → piece ≡ written_head form head →
      after ≡ stage.Begun (begun_file form head)
  pub plain : IsBegun form piece after

-- before a header of this form, if one is to be kept true
abbrev pub first_stage : Option SoundForm → Stage
first_stage None = stage.Plain
first_stage (Some form) = stage.Before form

-- where the writing is after a write of a piece, by where it was
abbrev pub IsStageAfter : Stage → (piece : List ℕ) → Put → Stage → Type 0
IsStageAfter stage.Plain piece answer after = after ≡ stage.Plain
IsStageAfter (stage.Before form) piece put.Done after = BeginsFile form piece after
IsStageAfter (stage.Before form) piece put.Failed after = after ≡ stage.Plain
IsStageAfter (stage.Begun file) piece answer after = after ≡ stage.Begun (file_after file piece answer)

-- the file whose header is to be corrected
abbrev pub due_file : Stage → Option SoundFile
due_file stage.Plain = None
due_file (stage.Before form) = None
due_file (stage.Begun file) = if is_due file then Some file else None

-- the file that was begun
abbrev pub begun_in : Stage → Option SoundFile
begun_in stage.Plain = None
begun_in (stage.Before form) = None
begun_in (stage.Begun file) = Some file

-- the header of a file, if there is one to correct, was made true to what was written so far; nothing else was done
abbrev pub Corrects : {K : Type 0} → (corrects : K → ℕ → List ℕ → Put → K → Type 0) → Option SoundFile →
    (before after : HeaderState K) → Type 0
Corrects corrects None before after = after ≡ before
Corrects corrects (Some file) before after = (answer : Put)
    × corrects before.sink 0 (true_header file.form file.head file.extent) answer after.sink
    × (after.stage ≡ stage.Begun (stating answer file))

-- A write is that of the sink below, and then the header is corrected if that is due.
pub record WritesThrough {K : Type 0} (writes : K → List ℕ → Put → K → Type 0) (corrects : K → ℕ → List ℕ → Put → K → Type 0)
    (before : HeaderState K) (piece : List ℕ) (answer : Put) (after : HeaderState K) : Type 0 where
  pub between : HeaderState K
  pub wrote : writes before.sink piece answer between.sink
  pub stage : IsStageAfter before.stage piece answer between.stage
  pub corrected : Corrects corrects (due_file between.stage) between after

-- what was written, by what the sink below holds
abbrev pub written_in : Stage → List ℕ → List ℕ
written_in stage.Plain held = held
written_in (stage.Before form) held = held
written_in (stage.Begun file) held = written_file file held

-- What the sink below holds, if it is observable: nothing before the header was written, and from then on the header that is
-- true to what the file states, and what was written after it.
abbrev pub Holds : Stage → List ℕ → Type 0
Holds stage.Plain held = ⊤
Holds (stage.Before form) held = held ≡ []
Holds (stage.Begun file) held = HoldsFile file held

abbrev pub HoldsIfTold : Stage → Option (List ℕ) → Type 0
HoldsIfTold stage None = ⊤
HoldsIfTold stage (Some held) = Holds stage held

abbrev pub IsStage : Stage → Type 0
IsStage stage.Plain = ⊤
IsStage (stage.Before form) = ⊤
IsStage (stage.Begun file) = IsFile file
