use Rattle.std.proofs.Common.{◌≡◌, ◌+◌, ◌++◌, suc, ap, ◌∙◌, length, length-append, arith}
use Rattle.af_random.specs.Exercise.{copies_of}
use Rattle.af_random.proofs.GeneratedScriptLemmas.{repeated_more}
use Rattle.af_random.proofs.generate.repeated.Goals as goal

pub loop-round-preserved : goal.loop-round-preserved
loop-round-preserved c =
    let n = c.loop-round.round in
    let one : suc n ≡ n + 1 = omega arith in
    let pattern = c.args.pattern in
    let grown : c.extend_from_slice.new.self.items ≡ c.loop-round.bytes.items ++ pattern = c.in_ok-extend_from_slice.ensures.items in
    let size = ap length grown ∙ length-append c.loop-round.bytes.items pattern in
    record {
      same = grown ∙ ap (λ xs. xs ++ pattern) c.loop-round.invariant.same ∙ repeated_more n pattern ∙ ap (λ k. copies_of k pattern) one;
      size = omega (arith, size);
    }
