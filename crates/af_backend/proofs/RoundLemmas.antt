-- What goes by as a round comes to one device after another.
use Rattle.std.proofs.Common.{◌≡◌, ◌≢◌, ◌⊎◌, ⊎_elim, inl, inr, ℕ, ◌+◌, ◌-◌, min, ◌<◌, ◌≤◌, max, Bool, true, false, List, length, slice_index_or, slice_set, option_map, refl, sym, ap, subst, ◌∙◌, arith, Option, Some, None, IfSome}
use Rattle.std.proofs.lemmas.Bool.{cases_lt, cases_eq, false≢true}
use Rattle.std.proofs.lemmas.List.{get_or-set_same, get_or-set_other, get_or_default}
use Rattle.af_limits.specs.Limits.{most_devices, longest_tick}
use Rattle.af_clock.specs.Pacing.{PaceState, first_reading, frames_gone_by, due_at, after_due}
use Rattle.af_backend.specs.declared.source.Source.{Source}
use Rattle.af_backend.specs.declared.source.Source.TheVariants as source
use Rattle.af_backend.specs.Rounds.{source_in, goes_by_program, due_of, some_source_after, IsDue, FindsDue, SourcesRead, NoneDue, NoneFrom, NoneByProgram, IsSettled}
use Rattle.af_backend.specs.Backends.{BackendState, backend_at}
use Rattle.af_backend.specs.Asked.{IsAsked, IsAskedWhere, DevicesAsked, DeviceTicks}

-- Clocks

pub none_read : (nanos from : ℕ) (sources : List (Option Source)) → SourcesRead nanos from from sources sources
none_read nanos from sources = record {
  inside = λ d below on. absurd (omega arith);
  below = λ d _. refl;
  above = λ d _. refl;
}

pub one_more_read : (nanos from d : ℕ) (old now : List (Option Source)) (s : Option Source) → from ≤ d → d < length now →
    SourcesRead nanos from d old now → s ≡ some_source_after nanos (source_in now d) → SourcesRead nanos from (d + 1) old (slice_set now d s)
one_more_read nanos from d old now s on fits read is =
    let here : source_in (slice_set now d s) d ≡ some_source_after nanos (source_in old d)
    = get_or-set_same now d s None fits ∙ is ∙ ap (some_source_after nanos) (read.above d (omega arith)) in
    let there : (e : ℕ) → e ≢ d → source_in (slice_set now d s) e ≡ source_in now e
    = λ e other. get_or-set_other now d e s None other in
    record {
      inside = λ e below at.
          ⊎_elim (λ same. subst (λ k. source_in (slice_set now d s) k ≡ some_source_after nanos (source_in old k)) (sym same) here)
          (λ other. there e other ∙ read.inside e (omega arith) at)
          (cases_eq e d);
      below = λ e before. there e (λ same. omega arith) ∙ read.below e before;
      above = λ e beyond. there e (λ same. omega arith) ∙ read.above e (omega arith);
    }

pub one_more_is_not_due : (nanos from d : ℕ) (old now : List (Option Source)) → NoneDue nanos from d old → SourcesRead nanos from d old now →
    due_of nanos (source_in now d) ≡ 0 → NoneDue nanos from (d + 1) old
one_more_is_not_due nanos from d old now none read is = λ e below at.
    ⊎_elim (λ same. ap (λ k. due_of nanos (source_in old k)) same ∙ ap (due_of nanos) (sym (read.above d (omega arith))) ∙ is)
    (λ other. none e (omega arith) at)
    (cases_eq e d)

-- no device is attached beyond the end, so there is no clock to be read
pub read_to_the_last : (nanos from end : ℕ) (old new : List (Option Source)) → end ≤ most_devices → NoneFrom end old → SourcesRead nanos from (max from end) old new →
    SourcesRead nanos from (max from most_devices) old new
read_to_the_last nanos from end old new few none read = record {
  inside = λ d below on.
      ⊎_elim (λ inside. read.inside d inside on)
      (λ beyond. read.above d beyond ∙ none d (omega arith) ∙ sym (ap (some_source_after nanos) (none d (omega arith))))
      (cases_lt d (max from end));
  below = read.below;
  above = λ d beyond. read.above d (omega arith);
}

pub none_due_to_the_last : (nanos from end : ℕ) (old : List (Option Source)) → NoneFrom end old → NoneDue nanos from (max from end) old →
    NoneDue nanos from (max from most_devices) old
none_due_to_the_last nanos from end old none quiet = λ d below on.
    ⊎_elim (λ inside. quiet d inside on) (λ beyond. ap (due_of nanos) (none d (omega arith))) (cases_lt d (max from end))

-- Devices

pub none_asked : (nanos from : ℕ) (sources : List (Option Source)) (backends : List (Option BackendState)) → DevicesAsked nanos from from sources backends backends
none_asked nanos from sources backends = record {
  inside = λ d below on. absurd (omega arith);
  below = λ d _. refl;
  above = λ d _. refl;
}

pub one_more_asked : (nanos from d : ℕ) (sources : List (Option Source)) (old now : List (Option BackendState)) (b : Option BackendState) → from ≤ d → d < length now →
    DevicesAsked nanos from d sources old now → IsAsked nanos 0 (source_in sources d) (backend_at now d) b → DevicesAsked nanos from (d + 1) sources old (slice_set now d b)
one_more_asked nanos from d sources old now b on fits asked is =
    let here : IsAsked nanos 0 (source_in sources d) (backend_at old d) (backend_at (slice_set now d b) d)
    = subst (λ x. IsAsked nanos 0 (source_in sources d) (backend_at old d) x) (sym (get_or-set_same now d b None fits))
    (subst (λ x. IsAsked nanos 0 (source_in sources d) x b) (asked.above d (omega arith)) is) in
    let there : (e : ℕ) → e ≢ d → backend_at (slice_set now d b) e ≡ backend_at now e
    = λ e other. get_or-set_other now d e b None other in
    record {
      inside = λ e below at.
          ⊎_elim (λ same. subst (λ k. IsAsked nanos 0 (source_in sources k) (backend_at old k) (backend_at (slice_set now d b) k)) (sym same) here)
          (λ other. subst (λ x. IsAsked nanos 0 (source_in sources e) (backend_at old e) x) (sym (there e other)) (asked.inside e (omega arith) at))
          (cases_eq e d);
      below = λ e before. there e (λ same. omega arith) ∙ asked.below e before;
      above = λ e beyond. there e (λ same. omega arith) ∙ asked.above e (omega arith);
    }

pub this_one_ticks : (nanos from d n : ℕ) (sources : List (Option Source)) (old now : List (Option BackendState)) (b : Option BackendState) → from ≤ d → d < length now →
    DevicesAsked nanos from d sources old now → IsAsked nanos n (source_in sources d) (backend_at now d) b → DeviceTicks nanos from d n sources old (slice_set now d b)
this_one_ticks nanos from d n sources old now b on fits asked is =
    let there : (e : ℕ) → e ≢ d → backend_at (slice_set now d b) e ≡ backend_at now e
    = λ e other. get_or-set_other now d e b None other in
    record {
      passed = λ e below at. subst (λ x. IsAsked nanos 0 (source_in sources e) (backend_at old e) x) (sym (there e (λ same. omega arith))) (asked.inside e below at);
      ticks = subst (λ x. IsAsked nanos n (source_in sources d) (backend_at old d) x) (sym (get_or-set_same now d b None fits))
          (subst (λ x. IsAsked nanos n (source_in sources d) x b) (asked.above d (omega arith)) is);
      below = λ e before. there e (λ same. omega arith) ∙ asked.below e before;
      above = λ e beyond. there e (λ same. omega arith) ∙ asked.above e (omega arith);
    }

-- a device that does not go by its program is not asked
unasked : (nanos : ℕ) (s : Option Source) (b b' : Option BackendState) → goes_by_program s ≡ false → b' ≡ b → IsAsked nanos 0 s b b'
unasked nanos s b b' by same = subst (λ goes. IsAskedWhere goes nanos 0 b b') (sym by) same

pub asked_to_the_last : (nanos from end : ℕ) (sources : List (Option Source)) (old new : List (Option BackendState)) → end ≤ most_devices → NoneFrom end sources →
    DevicesAsked nanos from (max from end) sources old new → DevicesAsked nanos from (max from most_devices) sources old new
asked_to_the_last nanos from end sources old new few none asked = record {
  inside = λ d below on.
      ⊎_elim (λ inside. asked.inside d inside on)
      (λ beyond. unasked nanos (source_in sources d) (backend_at old d) (backend_at new d) (ap goes_by_program (none d (omega arith))) (asked.above d beyond))
      (cases_lt d (max from end));
  below = asked.below;
  above = λ d beyond. asked.above d (omega arith);
}

-- A reading that is settled

pub settled_read : (nanos from to : ℕ) (sources : List (Option Source)) → IsSettled nanos sources → SourcesRead nanos from to sources sources
settled_read nanos from to sources settled = record {
  inside = λ d _ _. sym ((settled d).1);
  below = λ d _. refl;
  above = λ d _. refl;
}

pub settled_asked : (nanos from to : ℕ) (sources : List (Option Source)) (backends : List (Option BackendState)) → IsSettled nanos sources →
    DevicesAsked nanos from to sources backends backends
settled_asked nanos from to sources backends settled = record {
  inside = λ d _ _. unasked nanos (source_in sources d) (backend_at backends d) (backend_at backends d) ((settled d).2) refl;
  below = λ d _. refl;
  above = λ d _. refl;
}

-- What stays

read_by_program : (nanos : ℕ) (s : Option Source) → goes_by_program (some_source_after nanos s) ≡ goes_by_program s
read_by_program nanos None = refl
read_by_program nanos (Some (source.Clock pace)) = refl
read_by_program nanos (Some source.Program) = refl

pub at_each : (nanos from to : ℕ) (old new : List (Option Source)) → SourcesRead nanos from to old new → (d : ℕ) →
    (source_in new d ≡ source_in old d) ⊎ (source_in new d ≡ some_source_after nanos (source_in old d))
at_each nanos from to old new read d =
    ⊎_elim (λ before. inl (read.below d before))
    (λ on. ⊎_elim (λ inside. inr (read.inside d inside on)) (λ beyond. inl (read.above d beyond)) (cases_lt d to))
    (cases_lt d from)

pub none_by_program : (nanos from to : ℕ) (old new : List (Option Source)) → SourcesRead nanos from to old new → NoneByProgram old → NoneByProgram new
none_by_program nanos from to old new read none = λ d.
    ⊎_elim (λ same. ap goes_by_program same ∙ none d)
    (λ later. ap goes_by_program later ∙ read_by_program nanos (source_in old d) ∙ none d)
    (at_each nanos from to old new read d)

pub none_beyond : (nanos from to end : ℕ) (old new : List (Option Source)) → SourcesRead nanos from to old new → NoneFrom end old → NoneFrom end new
none_beyond nanos from to end old new read none = λ d beyond.
    ⊎_elim (λ same. same ∙ none d beyond) (λ later. later ∙ ap (some_source_after nanos) (none d beyond)) (at_each nanos from to old new read d)

-- If no device had a frame due at a reading, none has one due at it again.

nothing_more : (gone answered most : ℕ) → min (gone - answered) most ≡ 0 →
    min (gone - (answered + min (gone - answered) most)) most ≡ 0
nothing_more gone answered most none = omega (arith, none)

settled_pace : (p : PaceState) (nanos : ℕ) → due_at p nanos ≡ 0 →
    (due_at (after_due p nanos) nanos ≡ 0) × (after_due (after_due p nanos) nanos ≡ after_due p nanos)
settled_pace p nanos none =
    let again : due_at (after_due p nanos) nanos ≡ 0 = nothing_more (frames_gone_by p nanos) p.answered p.most none in
    (again, ap (λ (n : ℕ). record { rate = p.rate; most = p.most; first = Some (first_reading p nanos); answered = n }) (omega (arith, again)))

settled_source : (s : Option Source) (nanos : ℕ) → due_of nanos s ≡ 0 → goes_by_program s ≡ false →
    (due_of nanos (some_source_after nanos s) ≡ 0) × (some_source_after nanos (some_source_after nanos s) ≡ some_source_after nanos s) × (goes_by_program (some_source_after nanos s) ≡ false)
settled_source None nanos none by = (refl, refl, refl)
settled_source (Some (source.Clock p)) nanos none by =
    let p' = settled_pace p nanos none in (p'.0, ap (λ (q : PaceState). Some (source.Clock q)) p'.1, refl)
settled_source (Some source.Program) nanos none by = absurd (false≢true (sym by))

pub settles : (nanos end : ℕ) (old new : List (Option Source)) → NoneFrom end old → NoneByProgram old →
    NoneDue nanos 0 (max 0 end) old → SourcesRead nanos 0 (max 0 end) old new → IsSettled nanos new
settles nanos end old new none by quiet read = λ d.
    ⊎_elim
    (λ inside. subst (λ s. (due_of nanos s ≡ 0) × (some_source_after nanos s ≡ s) × (goes_by_program s ≡ false)) (sym (read.inside d inside (omega arith)))
    (settled_source (source_in old d) nanos (quiet d inside (omega arith)) (by d)))
    (λ beyond. subst (λ s. (due_of nanos s ≡ 0) × (some_source_after nanos s ≡ s) × (goes_by_program s ≡ false)) (sym (read.above d beyond ∙ none d (omega arith)))
    (refl, refl, refl))
    (cases_lt d (max 0 end))

-- A round has come to a device: after those that it passes over, and at most to the last. The clock of the device was read, and
-- it was asked.
pub record Came (nanos from d n : ℕ) (sources now : List (Option Source)) (old backends : List (Option BackendState)) (s : Option Source) (b : Option BackendState) : Type 0 where
  pub on : from ≤ d
  pub source_fits : d < length now
  pub device_fits : d < length backends
  pub none : NoneDue nanos from d sources
  pub read : SourcesRead nanos from d sources now
  pub asked : DevicesAsked nanos from d sources old backends
  pub due : IsDue nanos (source_in now d) n
  pub all : due_of nanos (source_in now d) ≤ n
  pub later : s ≡ some_source_after nanos (source_in now d)
  pub asks : IsAsked nanos n (source_in now d) (backend_at backends d) b

-- the same, if what is read of a list is so at any default
pub came : (nanos from d n : ℕ) (sources now : List (Option Source)) (old backends : List (Option BackendState)) (s x : Option Source) (b y : Option BackendState) →
    from ≤ d → d < length now → d < length backends → NoneDue nanos from d sources → SourcesRead nanos from d sources now → DevicesAsked nanos from d sources old backends →
    IsDue nanos (slice_index_or now d x) n → due_of nanos (slice_index_or now d x) ≤ n → s ≡ some_source_after nanos (slice_index_or now d x) →
    IsAsked nanos n (slice_index_or now d x) (slice_index_or backends d y) b → Came nanos from d n sources now old backends s b
came nanos from d n sources now old backends s x b y on sfits dfits none read asked due all later asks =
    let xs : slice_index_or now d x ≡ source_in now d = get_or_default now d x None sfits in
    let ys : slice_index_or backends d y ≡ backend_at backends d = get_or_default backends d y None dfits in
    record {
      on = on;
      source_fits = sfits;
      device_fits = dfits;
      none = none;
      read = read;
      asked = asked;
      due = subst (λ o. IsDue nanos o n) xs due;
      all = subst (λ o. due_of nanos o ≤ n) xs all;
      later = later ∙ ap (some_source_after nanos) xs;
      asks = subst (λ o. IsAsked nanos n (source_in now d) o b) ys (subst (λ o. IsAsked nanos n o (slice_index_or backends d y) b) xs asks);
    }

-- the clock as it was at first is the one that is read
still : (nanos from d n : ℕ) (sources now : List (Option Source)) (old backends : List (Option BackendState)) (s : Option Source) (b : Option BackendState) →
    Came nanos from d n sources now old backends s b → source_in now d ≡ source_in sources d
still nanos from d n sources now old backends s b c = c.read.above d (omega arith)

-- It has frames due, and ticks.
pub finds_it : (nanos from to d n : ℕ) (sources now : List (Option Source)) (old backends : List (Option BackendState)) (s : Option Source) (b : Option BackendState) →
    Came nanos from d n sources now old backends s b → d < to → 1 ≤ n → n ≤ longest_tick → FindsDue nanos from to sources (Some (d, n)) (slice_set now d s)
finds_it nanos from to d n sources now old backends s b c within some most =
    let is = still nanos from d n sources now old backends s b c in (
      c.on,
      within,
      c.none,
      subst (λ o. IsDue nanos o n) is c.due,
      subst (λ o. due_of nanos o ≤ n) is c.all,
      some,
      most,
      one_more_read nanos from d sources now s c.on c.source_fits c.read c.later,
    )

pub asks_it : (nanos from d n : ℕ) (sources now : List (Option Source)) (old backends : List (Option BackendState)) (s : Option Source) (b : Option BackendState) →
    Came nanos from d n sources now old backends s b → DeviceTicks nanos from d n sources old (slice_set backends d b)
asks_it nanos from d n sources now old backends s b c =
    this_one_ticks nanos from d n sources old backends b c.on c.device_fits c.asked
    (subst (λ o. IsAsked nanos n o (backend_at backends d) b) (still nanos from d n sources now old backends s b c) c.asks)

-- It has none due, and the round goes on.
pub passes_it : (nanos from d : ℕ) (sources now : List (Option Source)) (old backends : List (Option BackendState)) (s : Option Source) (b : Option BackendState) →
    Came nanos from d 0 sources now old backends s b →
    NoneDue nanos from (d + 1) sources × SourcesRead nanos from (d + 1) sources (slice_set now d s) × DevicesAsked nanos from (d + 1) sources old (slice_set backends d b)
passes_it nanos from d sources now old backends s b c = (
  one_more_is_not_due nanos from d sources now c.none c.read (omega (arith, c.all)),
  one_more_read nanos from d sources now s c.on c.source_fits c.read c.later,
  one_more_asked nanos from d sources old backends b c.on c.device_fits c.asked
      (subst (λ o. IsAsked nanos 0 o (backend_at backends d) b) (still nanos from d 0 sources now old backends s b c) c.asks),
)

-- what is settled after a round that came to all devices
pub settles_where : (o : Option ℕ) (nanos from end : ℕ) (has_programs : Bool) (old new : List (Option Source)) →
    IfSome o (λ settled. (settled ≡ nanos) × (from ≡ 0) × (has_programs ≡ false)) → NoneFrom end old → (has_programs ≡ false → NoneByProgram old) →
    NoneDue nanos from (max from end) old → SourcesRead nanos from (max from end) old new → IfSome o (λ settled. IsSettled settled new)
settles_where None nanos from end has_programs old new is none by quiet read = tt
settles_where (Some settled) nanos from end has_programs old new is none by quiet read =
    subst (λ n. IsSettled n new) (sym is.0)
    (settles nanos end old new none (by is.2)
    (subst (λ k. NoneDue nanos k (max k end) old) is.1 quiet)
    (subst (λ k. SourcesRead nanos k (max k end) old new) is.1 read))
