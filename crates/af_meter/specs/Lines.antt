-- The lines that are written of intervals.
use Rattle.std.specs.Prelude.{ℕ, ◌+◌, nat_le, Bool, true, false, if◌then◌else◌, List, [], ◌∷◌, ◌++◌, codes, decimal}
use Rattle.std.specs.Prelude.{Option, None, Some}
use Rattle.std.specs.Option.{option_map_or}
use Rattle.af_meter.specs.declared.level.Level.{Level}
use Rattle.af_meter.specs.declared.level.Levels.{Levels}
use Rattle.af_meter.specs.declared.plan.Plan.{Plan}
use Rattle.af_meter.specs.declared.plan.QuietSpan.{QuietSpan}
use Rattle.af_meter.specs.declared.row.Line.{Line}
use Rattle.af_meter.specs.declared.row.Line.TheVariants as line
use Rattle.af_meter.specs.Levels.{is_below}

-- how loud a channel is, as a text
abbrev pub level_text : Level → List ℕ
level_text level = codes " peak " ++ decimal level.peak ++ codes " mean " ++ decimal level.mean

-- the line of an interval at a time: how loud each channel is
unfoldable pub levels_line : (at : ℕ) → Levels → List ℕ
levels_line at levels =
    decimal at ++ level_text levels.first ++ option_map_or level_text levels.second [] ++ codes "\n"

-- what is written of an interval
abbrev pub line_text : (at : ℕ) → Levels → Line → List ℕ
line_text at levels line.Levels = levels_line at levels
line_text at levels line.Quiet = decimal at ++ codes " quiet\n"
line_text at levels line.Sound = decimal at ++ codes " sound\n"

-- for how many frames, up to the last of these intervals, all peaks have been below the limit; the latest interval stands first
abbrev pub quiet_frames : (limit frames : ℕ) → List Levels → ℕ
quiet_frames limit frames [] = 0
quiet_frames limit frames (levels ∷ before) = if is_below limit levels then frames + quiet_frames limit frames before else 0

-- after these intervals it is quiet: the peaks have been below the limit for so long
abbrev pub is_quiet : QuietSpan → (frames : ℕ) → List Levels → Bool
is_quiet span frames intervals = nat_le span.frames (quiet_frames span.below frames intervals)

-- the line of a change
abbrev pub line_of_change : (was is : Bool) → Option Line
line_of_change false true = Some line.Quiet
line_of_change true false = Some line.Sound
line_of_change _ _ = None

-- the line of an interval after others, if it has one: where only changes are written, it becomes quiet by this interval, or is
-- no longer quiet
abbrev pub line_of : Plan → Levels → (before : List Levels) → Option Line
line_of plan levels before =
    option_map_or (λ (span : QuietSpan).
    line_of_change (is_quiet span plan.frames before) (is_quiet span plan.frames (levels ∷ before)))
    plan.quiet (Some line.Levels)

-- what is written of an interval after others
abbrev pub text_of : (at : ℕ) → Levels → Option Line → List ℕ
text_of at levels line = option_map_or (line_text at levels) line []
