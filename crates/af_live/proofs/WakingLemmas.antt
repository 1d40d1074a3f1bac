-- What a wait gives: what was kept ready, or what a poll finds if nothing was.
use Rattle.std.proofs.Common.{◌≡◌, ⊎_elim, inl, inr, ap, ℕ, ◌<◌, Bool, true, List, length, refl, sym, subst, ◌∙◌, arith, IfSome, MatchOption}
use Rattle.std.proofs.lemmas.Bool.{false≢true}
use Rattle.std.specs.declared.option.Option.{Option}
use Rattle.std.specs.declared.option.Option.TheVariants.{None, Some}
use Rattle.af_limits.specs.Limits.{most_links}
use Rattle.mio.specs.declared.event.event.Event.{Event}
use Rattle.af_world.specs.declared.happening.Wake.{Wake}
use Rattle.af_world.specs.declared.happening.Wake.TheVariants as wake
use Rattle.af_backend.specs.Rounds.{RoundState, next_round}
use Rattle.af_backend.specs.Backends.{BackendState}
use Rattle.af_live.specs.declared.link_table.LinkEntry.{LinkEntry}
use Rattle.af_live.specs.LinkTable.{link_at, something_ready, AreDrained, GivesFirst, LinkWakeFits}
use Rattle.af_live.specs.Polls.{LatestPoll, LeadsLinks, PolledGives}
use Rattle.af_live.specs.Shares.{some_cut}
use Rattle.af_lines.specs.HeldLines.{LinesState, lines_at_round_start, NoLines}
use Rattle.af_live.specs.declared.waking.Step.{Step}
use Rattle.af_live.specs.Readings.{pause_of, ClockState, PausesBy, PausesFor}
use Rattle.af_live.specs.RealWorld.{LeadsRound, LeadsLines, PassesLines, WakeFits}

pub kept_links : (events : List Event) (w : Wake) (old new : List (Option LinkEntry)) → LinkWakeFits old w → GivesFirst old (Some w) new → LeadsLinks events (Some w) old new
kept_links events (wake.Opened k) old new fits h = inl h
kept_links events (wake.Readable k) old new fits h = inl h
kept_links events (wake.Writable k) old new fits h = inl h
kept_links events wake.Idle old new fits h = inl h
kept_links events (wake.Ticked d n) old new fits h = absurd fits
kept_links events (wake.Line d change) old new fits h = absurd fits
kept_links events wake.Stop old new fits h = absurd fits

pub kept_round : (w : Wake) (old new : List (Option LinkEntry)) (clock : ClockState) (round : RoundState) (backends : List (Option BackendState)) →
    LinkWakeFits old w → GivesFirst old (Some w) new → LeadsRound (Some w) old clock round backends new clock round backends
kept_round (wake.Opened k) old new clock round backends fits h = inl ((h, refl), refl, refl)
kept_round (wake.Readable k) old new clock round backends fits h = inl ((h, refl), refl, refl)
kept_round (wake.Writable k) old new clock round backends fits h = inl ((h, refl), refl, refl)
kept_round wake.Idle old new clock round backends fits h = inl ((h, refl), refl, refl)
kept_round (wake.Ticked d n) old new clock round backends fits h = absurd fits
kept_round (wake.Line d change) old new clock round backends fits h = absurd fits
kept_round wake.Stop old new clock round backends fits h = absurd fits

pub kept_lines : (w : Wake) (old new : List (Option LinkEntry)) (round : RoundState) (lines : LinesState) →
    LinkWakeFits old w → GivesFirst old (Some w) new → LeadsLines (Some w) old round lines new round lines
kept_lines (wake.Opened k) old new round lines fits h = inl ((h, refl), refl)
kept_lines (wake.Readable k) old new round lines fits h = inl ((h, refl), refl)
kept_lines (wake.Writable k) old new round lines fits h = inl ((h, refl), refl)
kept_lines wake.Idle old new round lines fits h = inl ((h, refl), refl)
kept_lines (wake.Ticked d n) old new round lines fits h = absurd fits
kept_lines (wake.Line d change) old new round lines fits h = absurd fits
kept_lines wake.Stop old new round lines fits h = absurd fits

-- if nothing of what is kept is given, nothing is kept ready
pub nothing_kept : (links new : List (Option LinkEntry)) → length links ≡ most_links → GivesFirst links None new →
    (k : ℕ) → k < most_links → something_ready (link_at links k) ≡ true → ⊥
nothing_kept links new count h k below ready = false≢true (sym (h.0 k (omega (arith, count))) ∙ ready)

pub polled_links : (events : List Event) (o : Option Wake) (links now new : List (Option LinkEntry)) → GivesFirst links None now → IfSome o (λ w. LinkWakeFits now w) →
    MatchOption o (new ≡ now) (λ w. PolledGives events w now new) → LeadsLinks events o links new
polled_links events None links now new h fits polled = polled ∙ h.1
polled_links events (Some (wake.Opened k)) links now new h fits polled = inr ((h.0, refl), subst (λ x. PolledGives events (wake.Opened k) x new) h.1 polled)
polled_links events (Some (wake.Readable k)) links now new h fits polled = inr ((h.0, refl), subst (λ x. PolledGives events (wake.Readable k) x new) h.1 polled)
polled_links events (Some (wake.Writable k)) links now new h fits polled = inr ((h.0, refl), subst (λ x. PolledGives events (wake.Writable k) x new) h.1 polled)
polled_links events (Some wake.Idle) links now new h fits polled = inr ((h.0, refl), subst (λ x. PolledGives events wake.Idle x new) h.1 polled)
polled_links events (Some (wake.Ticked d n)) links now new h fits polled = absurd fits
polled_links events (Some (wake.Line d change)) links now new h fits polled = absurd fits
polled_links events (Some wake.Stop) links now new h fits polled = absurd fits

-- a poll comes after the last line, and a new round begins after it
pub polled_lines : (o : Option Wake) (now links' : List (Option LinkEntry)) (links : List (Option LinkEntry)) (round round' : RoundState) (lines past lines' : LinesState) →
    IfSome o (λ w. LinkWakeFits now w) → PassesLines round' lines past → MatchOption o (lines' ≡ past) (λ w. lines' ≡ lines_at_round_start past) →
    LeadsLines o links round lines links' round' lines'
polled_lines None now links' links round round' lines past lines' fits passes is = inr (subst (λ l. PassesLines round' lines l) (sym is) passes)
polled_lines (Some (wake.Opened k)) now links' links round round' lines past lines' fits passes is = inr (past, passes, is)
polled_lines (Some (wake.Readable k)) now links' links round round' lines past lines' fits passes is = inr (past, passes, is)
polled_lines (Some (wake.Writable k)) now links' links round round' lines past lines' fits passes is = inr (past, passes, is)
polled_lines (Some wake.Idle) now links' links round round' lines past lines' fits passes is = inr (past, passes, is)
polled_lines (Some (wake.Ticked d n)) now links' links round round' lines past lines' fits passes is = absurd fits
polled_lines (Some (wake.Line d change)) now links' links round round' lines past lines' fits passes is = absurd fits
polled_lines (Some wake.Stop) now links' links round round' lines past lines' fits passes is = absurd fits

-- which lines there are stays as a new round begins
lines_stay : (o : Option Wake) (lines lines' : LinesState) → MatchOption o (lines' ≡ lines) (λ w. lines' ≡ lines_at_round_start lines) → lines'.lines ≡ lines.lines
lines_stay None lines lines' is = ap (λ (l : LinesState). l.lines) is
lines_stay (Some w) lines lines' is = ap (λ (l : LinesState). l.lines) is

-- a poll that comes after a round pauses as a wait does
pub polled_pauses : (more : Bool) (step : Step) (links now : List (Option LinkEntry)) (round : RoundState) (lines lines' : LinesState) (o : Option Wake) (old new : LatestPoll) →
    GivesFirst links None now → MatchOption o (lines' ≡ lines) (λ w. lines' ≡ lines_at_round_start lines) → PausesFor more step now round lines new.pause →
    PausesBy more step.is_late links lines' old new
polled_pauses more step links now round lines lines' o old new first begun h = inr (
  h.0,
  h.1,
  ⊎_elim (λ same. inl same)
      (λ drained. inr (drained.0, subst (λ ls. AreDrained ls) first.1 drained.1, subst (λ ls. NoLines ls) (sym (lines_stay o lines lines' begun)) drained.2))
      h.2,
  subst (λ ls. new.pause ≡ pause_of h.0 h.1 step.is_late (some_cut ls)) first.1 h.4,
)

-- the last reading of a round stays as a new round begins
pub last_stays : (o : Option Wake) (past new : RoundState) (nanos : ℕ) → MatchOption o (new ≡ past) (λ w. new ≡ next_round past) →
    past.last ≡ Some nanos → new.last ≡ Some nanos
last_stays None past new nanos is last = ap (λ (r : RoundState). r.last) is ∙ last
last_stays (Some w) past new nanos is last = ap (λ (r : RoundState). r.last) is ∙ last

pub kept_fits : (w : Wake) (links : List (Option LinkEntry)) (round : RoundState) (lines : LinesState) → LinkWakeFits links w → WakeFits links round lines w
kept_fits (wake.Opened k) links round lines fits = fits
kept_fits (wake.Readable k) links round lines fits = fits
kept_fits (wake.Writable k) links round lines fits = fits
kept_fits wake.Idle links round lines fits = fits
kept_fits (wake.Ticked d n) links round lines fits = absurd fits
kept_fits (wake.Line d change) links round lines fits = absurd fits
kept_fits wake.Stop links round lines fits = fits
