use Rattle.std.proofs.Common.{rules, arith, ◌≡◌, ◌+◌, ◌*◌, ◌∙◌, ℕ, FitsSigned, max, unsigned_abs, ap, to_z, of_z}
use Rattle.std.specs.Int.{w16}
use Rattle.std.proofs.lemmas.Int.{to_z-of_z}
use Rattle.af_meter.proofs.level.Tally.with.Goals as goal

pub returns-clause-peak : goal.returns-clause-peak
returns-clause-peak c =
    let fits : FitsSigned w16 c.args.sample = search rules in
    let loud : c.from-size.result ≡ unsigned_abs c.args.sample = c.from-size.ensures ∙ c.unsigned_abs.ensures.value ∙ ap unsigned_abs (to_z-of_z w16 c.args.sample fits) in
    let more : c.max.result ≡ max c.args.self.peak c.from-size.result = search rules in
    more ∙ ap (λ (n : ℕ). max c.args.self.peak n) loud

pub returns-clause-squares : goal.returns-clause-squares
returns-clause-squares c =
    let fits : FitsSigned w16 c.args.sample = search rules in
    let loud : c.from-size.result ≡ unsigned_abs c.args.sample = c.from-size.ensures ∙ c.unsigned_abs.ensures.value ∙ ap unsigned_abs (to_z-of_z w16 c.args.sample fits) in
    ap (λ (n : ℕ). c.args.self.squares + n * n) loud
