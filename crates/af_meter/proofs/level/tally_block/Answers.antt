use Rattle.std.proofs.Common.{rules, arith, ◌≡◌, ◌≤◌, ◌<◌, ◌+◌, ◌*◌, ◌/◌, ◌^◌, ◌++◌, ◌∷◌, [], ℕ, ℤ, List, FitsSigned, length, map, max, unsigned_abs, to_z, of_z, w16, subst, sym, ap, ◌∙◌, append-nil, append_assoc}
use Rattle.std.specs.List.{range_with_len}
use Rattle.std.proofs.lemmas.Int.{to_z-of_z}
use Rattle.std.proofs.Math.Nat.{div-le_self}
use Rattle.std.proofs.lemmas.List.FromFn.{map-range_with_len_more}
use Rattle.af_sample.specs.declared.sample_type.SampleType.TheVariants.{Lin16}
use Rattle.af_sample.specs.Samples.{decoded, piece}
use Rattle.af_meter.specs.Levels.{channel_samples}
use Rattle.af_meter.specs.Tallies.{IsTally}
use Rattle.af_meter.proofs.LevelLemmas.{place_within, tally_with}
use Rattle.af_meter.proofs.level.tally_block.Goals as goal

pub loop-i-init : goal.loop-i-init
loop-i-init c = record {
  few = omega arith;
  tally = λ samples is. subst (λ (xs : List ℤ). IsTally c.args.before xs) (sym (append-nil samples)) is;
}

pub loop-i-preserved : goal.loop-i-preserved
loop-i-preserved c =
    let f : ℕ → ℤ = λ k. decoded Lin16 (piece Lin16 c.args.block.now (c.args.channels * k + c.args.channel)) in
    let i : ℕ = c.loop-i.i in
    let more = map-range_with_len_more f 0 i i (omega arith) in
    let fits : FitsSigned w16 c.sample_at-sample.result = search rules in
    let sample : to_z w16 (of_z w16 c.sample_at-sample.result) ≡ f i = to_z-of_z w16 c.sample_at-sample.result fits ∙ c.sample_at-sample.ensures in
    let tally = c.with-tally.ensures in
    record {
      few = omega (arith, c.with-tally.ensures.few, c.loop-i.invariant.few);
      tally = λ samples is.
          subst (λ (xs : List ℤ). IsTally c.with-tally.result xs) (append_assoc samples (map f (range_with_len 0 i)) (f i ∷ []) ∙ ap (λ (xs : List ℤ). samples ++ xs) (sym more))
          (tally_with (f i) (c.loop-i.invariant.tally samples is) (tally.peak ∙ ap (λ (x : ℤ). max c.loop-i.tally.peak (unsigned_abs x)) sample)
          (tally.squares ∙ ap (λ (x : ℤ). c.loop-i.tally.squares + unsigned_abs x * unsigned_abs x) sample) tally.few);
    }

pub returns : goal.returns
unfolding channel_samples
returns c =
    let f : ℕ → ℤ = λ k. decoded Lin16 (piece Lin16 c.args.block.now (c.args.channels * k + c.args.channel)) in
    let end : c.loop-i.i ≡ length c.args.block.now / (2 * c.args.channels) = omega arith in
    λ samples is. subst (λ (n : ℕ). IsTally c.loop-i.tally (samples ++ map f (range_with_len 0 n))) end (c.loop-i.invariant.tally samples is)

pub sample_at-sample-requires : goal.sample_at-sample-requires
sample_at-sample-requires c = place_within c.args.channels c.args.channel c.loop-i.i (length c.args.block.now) c.requires.channel (omega arith)

pub with-tally-requires : goal.with-tally-requires
with-tally-requires c =
    let few = div-le_self (length c.args.block.now) (2 * c.args.channels) in
    omega (arith, few, c.loop-i.invariant.few, c.requires.block, c.requires.room)
