use Rattle.std.proofs.Common.{rules, ◌≡◌, ◌*◌, ◌<◌, ◌∙◌, ap, sym, arith, get_or, length, replicate, ℕ, [], ◌∷◌}
use Rattle.af_sample.specs.Samples.{decoded}
use Rattle.af_sample.proofs.ConstantRunLemmas.{decoded_constant, first_of}
use Rattle.af_sample.proofs.coding.decode_law.Goals as goal

pub returns-then-is_one_byte : goal.returns-then-is_one_byte
returns-then-is_one_byte c =
    let n : ℕ = length c.args.bytes.now in
    let byte : ℕ = get_or c.args.bytes.now 0 0 in
    let alike : c.args.bytes.now ≡ replicate n byte = c.is_one_byte.ensures c.if-is_one_byte.true in
    let some : 0 < n = search rules in
    let filled : c.fill.new.self ≡ replicate (length c.args.out.now) c.decode.result = search rules in
    let once : length c.args.out.now * 1 ≡ length c.args.out.now = omega arith in
    let count : n ≡ length c.args.out.now = c.requires.count ∙ ap (λ w. length c.args.out.now * w) c.requires.width ∙ once in
    let sample : c.decode.result ≡ decoded c.args.ty (byte ∷ []) = c.decode.ensures ∙ ap (decoded c.args.ty) (first_of c.args.bytes.now byte n some alike) in
    filled ∙ ap (λ m. replicate m c.decode.result) (sym count) ∙ ap (replicate n) sample
    ∙ decoded_constant c.args.ty c.args.bytes.now byte n c.requires.width alike
