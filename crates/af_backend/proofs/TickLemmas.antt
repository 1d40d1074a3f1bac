-- How many frames a device ticks by at most.
use Rattle.std.proofs.Common.{⊎_elim, ℕ, ◌≤◌, ◌<◌, min, List, length, arith, sym, subst, Option, Some, None}
use Rattle.std.proofs.lemmas.List.{get_or-set_same}
use Rattle.af_limits.specs.Limits.{longest_tick}
use Rattle.af_world.specs.declared.live.Kind.TheVariants.{Loop}
use Rattle.af_loop.specs.DelayLine.{delay_frames}
use Rattle.af_backend.specs.declared.source.Source.{Source}
use Rattle.af_backend.specs.declared.source.Source.TheVariants as source
use Rattle.af_backend.specs.Rounds.{RoundState, round_with, source_at, source_in, some_source_after, IsDue, SourcesRead, GoesOn, TicksWithin}
use Rattle.af_backend.specs.Backends.{source_of}
use Rattle.af_backend.proofs.RoundLemmas.{at_each}

least : (a b : ℕ) → min a b ≤ a
least a b = omega arith

pub loop_within : (round : RoundState) (d rate : ℕ) → d < length round.sources → TicksWithin (delay_frames rate) (source_at (round_with round d (source_of Loop rate)) d)
loop_within round d rate fits =
    subst (TicksWithin (delay_frames rate)) (sym (get_or-set_same round.sources d (Some (source_of Loop rate)) None fits)) (least (delay_frames rate) longest_tick)

-- a reading leaves the bound as it is
read_within : (nanos most : ℕ) (s : Option Source) → TicksWithin most s → TicksWithin most (some_source_after nanos s)
read_within nanos most None h = tt
read_within nanos most (Some (source.Clock pace)) h = h
read_within nanos most (Some source.Program) h = h

reads_within : (nanos most from to d : ℕ) (old new : List (Option Source)) → SourcesRead nanos from to old new → TicksWithin most (source_in old d) → TicksWithin most (source_in new d)
reads_within nanos most from to d old new read h =
    ⊎_elim (λ same. subst (TicksWithin most) (sym same) h)
    (λ later. subst (TicksWithin most) (sym later) (read_within nanos most (source_in old d) h))
    (at_each nanos from to old new read d)

pub goes_on_within : (nanos most d : ℕ) (old new : RoundState) (found : Option (ℕ × ℕ)) → GoesOn nanos old found new → TicksWithin most (source_at old d) → TicksWithin most (source_at new d)
goes_on_within nanos most d old new None on h = reads_within nanos most _ _ d old.sources new.sources on.0.read h
goes_on_within nanos most d old new (Some (e, n)) on h = reads_within nanos most _ _ d old.sources new.sources on.read h

few_due : (s : Option Source) (nanos n most : ℕ) → IsDue nanos s n → n ≤ longest_tick → TicksWithin most s → n ≤ most
few_due None nanos n most is short h = omega (arith, is)
few_due (Some (source.Clock pace)) nanos n most is short h = omega (arith, is, h)
few_due (Some source.Program) nanos n most is short h = omega (arith, short, h)

pub ticks_within : (nanos most d n : ℕ) (old new : RoundState) → GoesOn nanos old (Some (d, n)) new → TicksWithin most (source_at old d) → n ≤ most
ticks_within nanos most d n old new on h = few_due (source_at old d) nanos n most on.frames on.most h
