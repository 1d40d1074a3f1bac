use Rattle.std.proofs.Common.{rules, ◌≡◌, ◌*◌, ◌∙◌, ap, sym, arith, get_or, length, replicate, pos, ℕ, ℤ, [], ◌∷◌}
use Rattle.af_sample.specs.Samples.{bytes_of, encoded}
use Rattle.af_sample.proofs.ConstantRunLemmas.{encoded_constant, single}
use Rattle.af_sample.proofs.coding.encode_law.Goals as goal

pub returns-then-is_one_sample : goal.returns-then-is_one_sample
returns-then-is_one_sample c =
    let n : ℕ = length c.args.samples.now in
    let x : ℤ = get_or c.args.samples.now 0 (pos 0) in
    let byte : ℕ = get_or c.encode.new.out 0 0 in
    let alike : c.args.samples.now ≡ replicate n x = c.is_one_sample.ensures c.if-is_one_sample.true in
    let filled : c.fill.new.self ≡ replicate (length c.args.out.now) byte = search rules in
    let once : n * 1 ≡ n = omega arith in
    let count : length c.args.out.now ≡ n = c.requires.count ∙ ap (λ w. n * w) c.requires.width ∙ once in
    let code : c.encode.new.out ≡ encoded c.args.ty x = search rules in
    let here : encoded c.args.ty x ≡ byte ∷ [] = sym code ∙ single c.encode.new.out (search rules) in
    filled ∙ ap (λ m. replicate m byte) count ∙ encoded_constant c.args.ty x byte n here ∙ ap (bytes_of c.args.ty) (sym alike)
