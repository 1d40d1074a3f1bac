-- Whether it is quiet, as the tool keeps it.
use Rattle.std.specs.Prelude.{◌≡◌, ℕ, false, List, IfSome}
use Rattle.af_meter.specs.declared.level.Levels.{Levels}
use Rattle.af_meter.specs.declared.plan.Plan.{Plan}
use Rattle.af_meter.specs.declared.plan.QuietSpan.{QuietSpan}
use Rattle.af_meter.specs.declared.row.Row.{Row}
use Rattle.af_meter.specs.Lines.{is_quiet, quiet_frames}

-- so it is after these intervals: while it is not quiet, it is known for how long the peaks have been below the limit
pub record IsRow (span : QuietSpan) (frames : ℕ) (row : Row) (intervals : List Levels) : Type 0 where
  pub quiet : row.quiet ≡ is_quiet span frames intervals
  pub low : row.quiet ≡ false → row.frames ≡ quiet_frames span.below frames intervals

-- the same of a plan, if it is to tell changes
abbrev pub KeepsRow : Plan → Row → List Levels → Type 0
KeepsRow plan row intervals = IfSome plan.quiet (λ span. IsRow span plan.frames row intervals)
