-- A wait loses no frame of a device: what is due is given, or stays due.
use Rattle.std.proofs.Common.{◌≡◌, ◌⊎◌, ⊎_elim, ℕ, ◌+◌, ◌-◌, ◌*◌, ◌/◌, ◌<◌, ◌≤◌, min, List, ap, arith, Option, Some, None, Bool, if◌then◌else◌}
use Rattle.std.proofs.lemmas.Grind.{common_steps}
use Rattle.std.proofs.lemmas.Bool.{cases_lt, cases_eq, eq-eqb}
use Rattle.std.proofs.Math.Nat.{le_refl}
use Rattle.af_limits.specs.Limits.{longest_tick}
use Rattle.af_world.specs.declared.happening.Wake.{Wake}
use Rattle.af_world.specs.declared.happening.Wake.TheVariants as wake
use Rattle.af_clock.specs.Pacing.{PaceState, due_at, after_due}
use Rattle.af_backend.specs.declared.source.Source.{Source}
use Rattle.af_backend.specs.declared.source.Source.TheVariants as source
use Rattle.af_backend.specs.Rounds.{RoundState, source_at, source_in, due_of, some_source_after, SourcesRead, RoundTicks, next_round}
use Rattle.af_backend.specs.Backends.{BackendState}
use Rattle.af_live.specs.declared.link_table.LinkEntry.{LinkEntry}
use Rattle.af_live.specs.Readings.{ClockState}
use Rattle.af_live.specs.RealWorld.{GivesKept, PassesAll, LeadsRound, LosesNoFrame, frames_ticked_by}

-- what a pace gives at one reading, and what stays due at another
given_or_due : (rate most answered first nanos t : ℕ) →
    min ((t - first) * rate / 1000000000 - answered) most
    ≤ min ((nanos - first) * rate / 1000000000 - answered) most + min ((t - first) * rate / 1000000000 - (answered + min ((nanos - first) * rate / 1000000000 - answered) most)) most
given_or_due rate most answered first nanos t = omega arith

-- before its first reading nothing is due
unread : (rate most answered t : ℕ) → min ((t - t) * rate / 1000000000 - answered) most ≡ 0
unread rate most answered t = grind (arith, common_steps)

pace_keeps : (rate most : ℕ) (first : Option ℕ) (answered nanos t : ℕ) → let p : PaceState = record { rate = rate; most = most; first = first; answered = answered } in due_at p t ≤ due_at p nanos + due_at (after_due p nanos) t
pace_keeps rate most None answered nanos t = omega (arith, unread rate most answered t)
pace_keeps rate most (Some first) answered nanos t = given_or_due rate most answered first nanos t

device_keeps : (o : Option Source) (nanos t : ℕ) → due_of t o ≤ due_of nanos o + due_of t (some_source_after nanos o)
device_keeps None nanos t = le_refl 0
device_keeps (Some (source.Clock p)) nanos t = pace_keeps p.rate p.most p.first p.answered nanos t
device_keeps (Some source.Program) nanos t = le_refl 0

-- devices that were asked lose only the frames that were due at the reading
asked_keeps : (nanos from to : ℕ) (old new : List (Option Source)) → SourcesRead nanos from to old new → (d t : ℕ) → due_of t (source_in old d) ≤ due_of nanos (source_in old d) + due_of t (source_in new d)
asked_keeps nanos from to old new asked d t =
    let stays : source_in new d ≡ source_in old d → due_of t (source_in old d) ≤ due_of nanos (source_in old d) + due_of t (source_in new d)
    = λ same. omega (arith, ap (due_of t) same) in
    ⊎_elim (λ below. stays (asked.below d below))
    (λ on. ⊎_elim
    (λ within. omega (arith, ap (due_of t) (asked.inside d within on), device_keeps (source_in old d) nanos t))
    (λ above. stays (asked.above d above))
    (cases_lt d to))
    (cases_lt d from)

-- nor does a device with nothing due lose any
quiet_keeps : (nanos from to : ℕ) (old new : List (Option Source)) → SourcesRead nanos from to old new → (d t : ℕ) → (d < to → from ≤ d → due_of nanos (source_in old d) ≡ 0) → due_of t (source_in old d) ≤ due_of t (source_in new d)
quiet_keeps nanos from to old new asked d t none =
    let stays : source_in new d ≡ source_in old d → due_of t (source_in old d) ≤ due_of t (source_in new d)
    = λ same. omega (arith, ap (due_of t) same) in
    ⊎_elim (λ below. stays (asked.below d below))
    (λ on. ⊎_elim
    (λ within. omega (arith, none within on, asked_keeps nanos from to old new asked d t))
    (λ above. stays (asked.above d above))
    (cases_lt d to))
    (cases_lt d from)

passes_keeps : (clock clock' : ClockState) (old past : RoundState) (backends backends' : List (Option BackendState)) → PassesAll clock old backends clock' past backends' →
    (d t : ℕ) → due_of t (source_at old d) ≤ due_of t (source_at past d)
passes_keeps clock clock' old past backends backends' h d t =
    quiet_keeps h.0 old.next past.next old.sources past.sources h.2.0.read d t (h.2.0.none d)

frames_of : (d n e : ℕ) → e ≡ d → frames_ticked_by (Some (wake.Ticked d n)) e ≡ n
frames_of d n e same = ap (λ (b : Bool). if b then n else 0) (eq-eqb e d same)

tick_keeps : (nanos d n : ℕ) (old new : RoundState) → RoundTicks nanos d n old new → (e t : ℕ) →
    due_of t (source_at old e) ≤ frames_ticked_by (Some (wake.Ticked d n)) e + due_of t (source_at new e)
tick_keeps nanos d n old new r e t =
    ⊎_elim
    (λ same. omega (arith, asked_keeps nanos old.next (d + 1) old.sources new.sources r.read e t, frames_of d n e same, r.all, ap (λ k. due_of nanos (source_at old k)) same))
    (λ other. omega (arith, quiet_keeps nanos old.next (d + 1) old.sources new.sources r.read e t (λ within on. r.none e (omega arith) on)))
    (cases_eq e d)

-- a wait that does not tick loses no frame
begins_keeps : (w : Wake) (links links' : List (Option LinkEntry)) (clock clock' : ClockState) (old new : RoundState) (backends backends' : List (Option BackendState)) →
    (GivesKept (Some w) links old links' new × (backends' ≡ backends) × (clock' ≡ clock)) ⊎ ((past : RoundState) × PassesAll clock old backends clock' past backends' × (new ≡ next_round past)) →
    (d t : ℕ) → due_of t (source_at old d) ≤ due_of t (source_at new d)
begins_keeps w links links' clock clock' old new backends backends' h d t =
    ⊎_elim (λ still. omega (arith, ap (λ (r : RoundState). due_of t (source_at r d)) still.0.1))
    (λ on. omega (arith, passes_keeps clock clock' old on.0 backends backends' on.1 d t, ap (λ (r : RoundState). due_of t (source_at r d)) on.2))
    h

pub waits_lose_none : (w : Option Wake) (links links' : List (Option LinkEntry)) (clock clock' : ClockState) (old new : RoundState) (backends backends' : List (Option BackendState)) →
    LeadsRound w links clock old backends links' clock' new backends' → LosesNoFrame w old new
waits_lose_none None links links' clock clock' old new backends backends' h = λ d t.
    ⊎_elim (λ still. omega (arith, ap (λ (r : RoundState). due_of t (source_at r d)) still.0)) (λ passed. omega (arith, passes_keeps clock clock' old new backends backends' passed d t)) h
waits_lose_none (Some (wake.Ticked d n)) links links' clock clock' old new backends backends' h = λ e t. tick_keeps h.0 d n old new h.2 e t
waits_lose_none (Some (wake.Line d change)) links links' clock clock' old new backends backends' h = λ e t. omega (arith, passes_keeps clock clock' old new backends backends' h e t)
waits_lose_none (Some w) links links' clock clock' old new backends backends' h = λ d t. omega (arith, begins_keeps w links links' clock clock' old new backends backends' h d t)
