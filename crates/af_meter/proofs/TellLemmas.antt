-- The steps of the tool meter: an interval is measured, and its line written.
use Rattle.std.proofs.Common.{◌≡◌, ◌≤◌, ◌<◌, ◌+◌, ◌-◌, ◌%◌, ◌^◌, ◌==◌, ℕ, zero, suc, Bool, true, false, List, [], ◌∷◌, sym, subst, ap, ap₂, ◌∙◌, refl, arith, Result, Ok, Err, Option, None, Some, inl, inr, if◌then◌else◌}
use Rattle.std.proofs.lemmas.Bool.{ne_eqb}
use Rattle.std.specs.Option.{option_map_or}
use Rattle.std.specs.Prelude.{IfSome}
use Rattle.af_io.proofs.AppendedLemmas.{appended_none}
use Rattle.af_toolkit.specs.declared.end.ToolEnd.{ToolEnd}
use Rattle.af_toolkit.specs.declared.end.ToolEnd.TheVariants as end
use Rattle.af_lib.specs.declared.fault.ConnFault.TheVariants as fault
use Rattle.af_toolkit.specs.Ends.{Writes}
use Rattle.af_toolkit.specs.Parts.{Goes, goes_on, has_value}
use Rattle.af_toolkit.specs.Trace.{refused}
use Rattle.af_toolkit.specs.ToolParts.{ToolPart, ToolSight, deeds, doing, tooling, writes}
use Rattle.af_toolkit.proofs.PartLemmas.{Reached, goes_stop, goes_through, goes_value, reached_goes, reached_here, reached_on}
use Rattle.af_toolkit.proofs.ToolPartLemmas.{is_tool, writes_go}
use Rattle.af_meter.specs.declared.level.Levels.{Levels}
use Rattle.af_meter.specs.declared.plan.Plan.{Plan}
use Rattle.af_meter.specs.declared.row.Line.{Line}
use Rattle.af_meter.specs.declared.row.Row.{Row}
use Rattle.af_meter.specs.Lines.{line_of, line_text, text_of}
use Rattle.af_meter.specs.Rows.{KeepsRow}
use Rattle.af_meter.specs.Trace.{GoesOnSink, measures, meters, most_intervals, writes_line}

nothing_goes : {o : ToolSight} → Goes (tooling refused) (writes []) (Ok tt) o o
nothing_goes {o} = record { came = λ w stands. (w, stands, deeds [] [], refl, (appended_none o.link.sent, appended_none o.held)) }

-- an interval has no line, or its line is written, or a part of it and then the sink failed
module _ {K : Type 0} (held : K → Option (List ℕ)) (at left : ℕ) (levels : Levels) where
  pub silent_goes : (sink : K) → GoesOnSink held sink sink (writes_line at levels None left) (Ok left)
  silent_goes sink link = goes_through is_tool (λ _. has_value doing left) nothing_goes (goes_value is_tool left)

  module _ (line : Line) (sink sink' : K) {piece : List ℕ} (same : piece ≡ line_text at levels line) where
    pub line_goes : (u : Unit {0}) → Writes held piece (Ok u) sink sink' → GoesOnSink held sink sink' (writes_line at levels (Some line) left) (Ok (left - 1))
    line_goes u wrote link =
        goes_through is_tool (λ _. has_value doing (left - 1)) (writes_go held (line_text at levels line) (Ok u) sink sink' (subst (λ (l : List ℕ). Writes held l (Ok u) sink sink') same wrote)) (goes_value is_tool (left - 1))

    pub cut_goes : (how : ToolEnd) {r : Result ℕ ToolEnd} → r ≡ Err how → Writes held piece (Err how) sink sink' → GoesOnSink held sink sink' (writes_line at levels (Some line) left) r
    cut_goes how {r} ended wrote link =
        goes_stop is_tool (λ _. has_value doing (left - 1)) ended (writes_go held (line_text at levels line) (Err how) sink sink' (subst (λ (l : List ℕ). Writes held l (Err how) sink sink') same wrote))

-- what follows the line of an interval, and its measures
abbrev pub after_line : Plan → (at : ℕ) → (before : List Levels) → (n : ℕ) → Levels → (more : ℕ) → ToolPart (Unit {0})
after_line plan at before n levels more = if more == 0 then has_value doing tt else meters n plan ((at + plan.frames) % 2 ^ 32) (levels ∷ before) more

abbrev pub after_interval : Plan → (at : ℕ) → (before : List Levels) → (n left : ℕ) → Levels → ToolPart (Unit {0})
after_interval plan at before n left levels = goes_on doing (writes_line at levels (line_of plan levels before) left) (after_line plan at before n levels)

meters_next : (plan : Plan) (at : ℕ) (before : List Levels) (n left : ℕ) → 0 < n → meters n plan at before left ≡ goes_on doing (measures plan at) (after_interval plan at before (n - 1) left)
unfolding meters
meters_next plan at before zero left some = absurd (omega (arith, some))
meters_next plan at before (suc n) left some = let less : suc n - 1 ≡ n = omega arith in rw less refl

-- the tool has come to an interval, after others
pub record IsMetering (part : ToolPart (Unit {0})) (plan : Plan) (n at : ℕ) (row : Row) (left : ℕ) (o p : ToolSight) : Type 0 where
  pub before : List Levels
  pub kept : KeepsRow plan row before
  pub reached : Reached (tooling refused) part (meters n plan at before left) o p

pub metering_begin : (plan : Plan) (start : ℕ) (row : Row) (left : ℕ) {o : ToolSight} → KeepsRow plan row [] → IsMetering (meters most_intervals plan start [] left) plan most_intervals start row left o o
metering_begin plan start row left is = record { before = []; kept = is; reached = reached_here is_tool }

module _ {part : ToolPart (Unit {0})} {plan : Plan} {n at left : ℕ} {row : Row} {o p : ToolSight} (m : IsMetering part plan n at row left o p) where
  -- no interval is allowed any more
  pub metering_spent : n ≡ 0 → Goes (tooling refused) part (Err end.EventFlood) o p
  unfolding meters
  metering_spent none =
      reached_goes is_tool _ (rw none at m.reached) (record { came = λ w stands. (deeds [] [], inr (fault.EventFlood, refl, refl), (appended_none p.link.sent, appended_none p.held)) })

  module _ (some : 0 < n) where
    started : Reached (tooling refused) part (goes_on doing (measures plan at) (after_interval plan at m.before (n - 1) left)) o p
    started = rw (meters_next plan at m.before n left some) at m.reached

    -- the tool ended within an interval
    pub metering_stopped : {how : ToolEnd} {result : Result (Unit {0}) ToolEnd} {q : ToolSight} → result ≡ Err how → Goes {X = Levels} (tooling refused) (measures plan at) (Err how) p q → Goes (tooling refused) part result o q
    metering_stopped same goes = reached_goes is_tool _ started (goes_stop is_tool (after_interval plan at m.before (n - 1) left) same goes)

    module _ {levels : Levels} {q : ToolSight} (measured : Goes (tooling refused) (measures plan at) (Ok levels) p q) {line : Option Line} (is_line : line ≡ line_of plan levels m.before) where
      begun : Reached (tooling refused) part (goes_on doing (writes_line at levels line left) (after_line plan at m.before (n - 1) levels)) o q
      begun = rw is_line (reached_on is_tool (after_interval plan at m.before (n - 1) left) started measured)

      -- within its line
      pub metering_cut : {how : ToolEnd} {result : Result (Unit {0}) ToolEnd} {r : ToolSight} → result ≡ Err how → Goes {X = ℕ} (tooling refused) (writes_line at levels line left) (Err how) q r → Goes (tooling refused) part result o r
      metering_cut same goes = reached_goes is_tool _ begun (goes_stop is_tool (after_line plan at m.before (n - 1) levels) same goes)

      module _ {more : ℕ} {r : ToolSight} (wrote : Goes (tooling refused) (writes_line at levels line left) (Ok more) q r) where
        lined : Reached (tooling refused) part (after_line plan at m.before (n - 1) levels more) o r
        lined = reached_on is_tool (after_line plan at m.before (n - 1) levels) begun wrote

        -- no line is left
        pub metering_done : more ≡ 0 → Goes (tooling refused) part (Ok tt) o r
        metering_done none = reached_goes is_tool _ (rw none at lined) (goes_value is_tool tt)

        -- or it goes on
        pub metering_on : 0 < more → {at' : ℕ} → at' ≡ (at + plan.frames) % 2 ^ 32 → {row' : Row} → KeepsRow plan row' (levels ∷ m.before) → IsMetering part plan (n - 1) at' row' more o r
        metering_on any place row' = record {
          before = levels ∷ m.before;
          kept = row';
          reached = rw (place) (rw (ne_eqb more 0 (λ same. omega (arith, any, same))) at lined);
        }
