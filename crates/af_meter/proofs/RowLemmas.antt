-- Whether it is quiet, after one interval more.
use Rattle.std.proofs.Common.{◌≡◌, ◌≤◌, ◌<◌, ◌+◌, ℕ, nat_le, Bool, true, false, List, [], ◌∷◌, sym, ap, ap₂, subst, ◌∙◌, refl, arith, if◌then◌else◌, Option, None, Some}
use Rattle.std.specs.Option.{option_map_or}
use Rattle.std.specs.Prelude.{IfSome}
use Rattle.std.proofs.lemmas.Bool.Decides.{nat_tests}
use Rattle.af_meter.specs.declared.level.Levels.{Levels}
use Rattle.af_meter.specs.declared.plan.Plan.{Plan}
use Rattle.af_meter.specs.declared.plan.QuietSpan.{QuietSpan}
use Rattle.af_meter.specs.declared.row.Line.{Line}
use Rattle.af_meter.specs.declared.row.Line.TheVariants as line
use Rattle.af_meter.specs.declared.row.Row.{Row}
use Rattle.af_meter.specs.Levels.{is_below}
use Rattle.af_meter.specs.Lines.{is_quiet, line_of, line_of_change, quiet_frames}
use Rattle.af_meter.specs.Plans.{IsPlan}
use Rattle.af_meter.specs.Rows.{IsRow, KeepsRow}

-- for how long the peaks have been below, after an interval that is not, or is
frames_loud : (span : QuietSpan) (frames : ℕ) (levels : Levels) (before : List Levels) → is_below span.below levels ≡ false → quiet_frames span.below frames (levels ∷ before) ≡ 0
frames_loud span frames levels before loud = rw loud refl

frames_low : (span : QuietSpan) (frames : ℕ) (levels : Levels) (before : List Levels) → is_below span.below levels ≡ true → quiet_frames span.below frames (levels ∷ before) ≡ frames + quiet_frames span.below frames before
frames_low span frames levels before low = rw low refl

module _ (span : QuietSpan) (frames : ℕ) (row : Row) (levels : Levels) (before : List Levels) (is : IsRow span frames row before) where
  -- an interval is not below the limit
  pub row_loud : {next : Row} → 1 ≤ span.frames → is_below span.below levels ≡ false → next.quiet ≡ false → next.frames ≡ 0 → IsRow span frames next (levels ∷ before)
  row_loud some loud quiet none =
      let zero_frames = frames_loud span frames levels before loud in
      let test : nat_le span.frames (quiet_frames span.below frames (levels ∷ before)) ≡ false = grind (arith, nat_tests) in
      record { quiet = quiet ∙ sym test; low = λ e. none ∙ sym zero_frames }

  -- it is, and it was quiet
  pub row_still : {next : Row} → is_below span.below levels ≡ true → row.quiet ≡ true → next.quiet ≡ true → IsRow span frames next (levels ∷ before)
  row_still low was quiet =
      let more = frames_low span frames levels before low in
      let long : nat_le span.frames (quiet_frames span.below frames before) ≡ true = sym is.quiet ∙ was in
      let test : nat_le span.frames (quiet_frames span.below frames (levels ∷ before)) ≡ true = grind (arith, nat_tests) in
      record { quiet = quiet ∙ sym test; low = λ e. absurd (let bad : true ≡ false = sym quiet ∙ e in cc bad) }

  -- it is, and it becomes quiet, or not yet
  pub row_becomes : {next : Row} → is_below span.below levels ≡ true → row.quiet ≡ false → span.frames ≤ row.frames + frames → next.quiet ≡ true → IsRow span frames next (levels ∷ before)
  row_becomes low was long quiet =
      let more = frames_low span frames levels before low in
      let kept = is.low was in
      let test : nat_le span.frames (quiet_frames span.below frames (levels ∷ before)) ≡ true = grind (arith, nat_tests) in
      record { quiet = quiet ∙ sym test; low = λ e. absurd (let bad : true ≡ false = sym quiet ∙ e in cc bad) }

  pub row_longer : {next : Row} → is_below span.below levels ≡ true → row.quiet ≡ false → row.frames + frames < span.frames → next.quiet ≡ false → next.frames ≡ row.frames + frames → IsRow span frames next (levels ∷ before)
  row_longer {next = next} low was short quiet longer =
      let more = frames_low span frames levels before low in
      let kept = is.low was in
      let test : nat_le span.frames (quiet_frames span.below frames (levels ∷ before)) ≡ false = grind (arith, nat_tests) in
      record { quiet = quiet ∙ sym test; low = λ e. (let same : next.frames ≡ quiet_frames span.below frames (levels ∷ before) = omega (arith, longer, kept, more) in same) }

-- before the first interval it is not quiet
begins_by : (frames : ℕ) (row : Row) (quiet : Option QuietSpan) → row.quiet ≡ false → row.frames ≡ 0 → IfSome quiet (λ span. (1 ≤ span.frames) × (span.frames ≤ 172800000)) → IfSome quiet (λ span. IsRow span frames row [])
begins_by frames row None silent none is = tt
begins_by frames row (Some span) silent none is =
    let some : 1 ≤ span.frames = is.0 in
    let test : nat_le span.frames 0 ≡ false = grind (arith, nat_tests) in
    record { quiet = silent ∙ sym test; low = λ e. none }

pub row_begins : (plan : Plan) (row : Row) → IsPlan plan → row.quiet ≡ false → row.frames ≡ 0 → KeepsRow plan row []
row_begins plan row is silent none = begins_by plan.frames row plan.quiet silent none is.quiet

-- where changes are told
module _ (plan : Plan) (span : QuietSpan) (is : plan.quiet ≡ Some span) (row next : Row) (levels : Levels) (before : List Levels) where
  pub kept_row : KeepsRow plan row before → IsRow span plan.frames row before
  kept_row kept = subst (λ (q : Option QuietSpan). IfSome q (λ s. IsRow s plan.frames row before)) is kept

  pub row_kept : IsRow span plan.frames next (levels ∷ before) → KeepsRow plan next (levels ∷ before)
  row_kept kept = subst (λ (q : Option QuietSpan). IfSome q (λ s. IsRow s plan.frames next (levels ∷ before))) (sym is) kept

  pub line_is : IsRow span plan.frames row before → IsRow span plan.frames next (levels ∷ before) → line_of_change row.quiet next.quiet ≡ line_of plan levels before
  line_is was now =
      ap₂ (λ (a b : Bool). line_of_change a b) was.quiet now.quiet
      ∙ sym (ap (λ (q : Option QuietSpan). option_map_or (λ (s : QuietSpan). line_of_change (is_quiet s plan.frames before) (is_quiet s plan.frames (levels ∷ before))) q (Some line.Levels)) is)

-- where each interval has a line
pub row_free : (plan : Plan) (row : Row) (intervals : List Levels) → plan.quiet ≡ None → KeepsRow plan row intervals
row_free plan row intervals is = subst (λ (q : Option QuietSpan). IfSome q (λ s. IsRow s plan.frames row intervals)) (sym is) tt

pub line_free : (plan : Plan) (levels : Levels) (before : List Levels) → plan.quiet ≡ None → (let l : Option Line = Some line.Levels in l ≡ line_of plan levels before)
line_free plan levels before is = sym (ap (λ (q : Option QuietSpan). option_map_or (λ (s : QuietSpan). line_of_change (is_quiet s plan.frames before) (is_quiet s plan.frames (levels ∷ before))) q (Some line.Levels)) is)
