use Rattle.std.proofs.Common.{rules, ◌≡◌, ◌++◌, ℕ, ℤ, List, refl, subst}
use Rattle.af_sample.proofs.FrameLemmas.{some_channel}
use Rattle.af_meter.specs.Levels.{channel_samples}
use Rattle.af_meter.specs.Tallies.{IsTally}
use Rattle.af_meter.proofs.IntervalLemmas.{tallied_both, tallied_one}
use Rattle.af_meter.proofs.interval.Tallies.with.Goals as goal

pub returns-then-channels-eq2 : goal.returns-then-channels-eq2
returns-then-channels-eq2 c = λ blocks count n whole is.
    let same : c.from.result ≡ c.args.channels = search rules in
    let same2 : c.from-then-channels-eq2.result ≡ c.args.channels = search rules in
    let first = subst (λ (k : ℕ). (samples : List ℤ) → IsTally c.args.self.first samples → IsTally c.tally_block-first.result (samples ++ channel_samples k 0 c.args.block.now)) same c.tally_block-first.ensures in
    let second = subst (λ (k : ℕ). (samples : List ℤ) → IsTally c.args.self.second samples → IsTally c.tally_block-second.result (samples ++ channel_samples k 1 c.args.block.now)) same2 c.tally_block-second.ensures in
    tallied_both n _ c.args.block.now (some_channel c.args.channels c.requires.channels) whole is first c.if-channels-eq2.true second

pub returns-else-channels-eq2 : goal.returns-else-channels-eq2
returns-else-channels-eq2 c = λ blocks count n whole is.
    let same : c.from.result ≡ c.args.channels = search rules in
    let first = subst (λ (k : ℕ). (samples : List ℤ) → IsTally c.args.self.first samples → IsTally c.tally_block-first.result (samples ++ channel_samples k 0 c.args.block.now)) same c.tally_block-first.ensures in
    tallied_one n _ c.args.block.now (some_channel c.args.channels c.requires.channels) whole is first c.if-channels-eq2.false refl
