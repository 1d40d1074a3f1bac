use Rattle.std.proofs.Common.{rules, ◌≡◌, ◌/◌, ◌∙◌, ℕ, sym, ap}
use Rattle.af_meter.specs.Levels.{root_of}
use Rattle.af_meter.proofs.LevelLemmas.{root_is}
use Rattle.af_meter.proofs.level.Tally.level.Goals as goal

pub returns-clause-mean : goal.returns-clause-mean
returns-clause-mean c =
    let root = c.isqrt-mean.ensures in
    let same : c.from.result ≡ c.args.count = search rules in
    sym (root_is c.isqrt-mean.result (c.args.self.squares / c.from.result) root.square_le root.next_square_gt) ∙ ap (λ (n : ℕ). root_of (c.args.self.squares / n)) same
