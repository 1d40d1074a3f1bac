use Rattle.std.proofs.Common.{◌≡◌, ℕ, ◌++◌, take, length, ap, rules, arith, refl, length-append, length-take, length-take-le}
use Rattle.af_io.proofs.ConsumedLemmas.{consumed_none, consumed_on, consumed_in_all}
use Rattle.af_io.proofs.text.read_text.Goals as goal

pub loop-n-init : goal.loop-n-init
loop-n-init g c = record { consumed = rw c.new-text.ensures.items (consumed_none _); within = rw c.new-text.ensures.items (omega arith); count = omega arith; room = refl }

pub loop-n-preserved : goal.loop-n-preserved
loop-n-preserved g c =
    let items : c.extend_from_slice.new.self.items ≡ c.loop-n.text.items ++ take c.in-Bytes.n c.read.new.into = search rules in
    let more = ap length items in
    record { consumed = consumed_in_all _ _ _ _ _ _ c.loop-n.invariant.consumed c.in-Bytes.ensures.consumed items; within = omega (arith, more, length-append {A = ℕ}, length-take {A = ℕ}); count = omega arith; room = omega arith }

pub returns-then-n-most-clause-long : goal.returns-then-n-most-clause-long
returns-then-n-most-clause-long g c = λ e.
    let items = c.loop-n.text.items in
    let n = c.in-Bytes.n in
    let given : length (take n c.read.new.into) ≡ n = length-take-le n c.read.new.into c.in-Bytes.ensures.bound.1 in
    let size : c.len.result ≡ length items = search rules in
    record {
      text = items ++ take n c.read.new.into;
      consumed = consumed_on _ _ _ _ _ c.loop-n.invariant.consumed c.in-Bytes.ensures.consumed;
      beyond = omega (arith, given, size, length-append items (take n c.read.new.into));
    }

pub returns-then-is_err-clause-within : goal.returns-then-is_err-clause-within
returns-then-is_err-clause-within g c = λ e.
    let all = c.loop-n.text.items ++ take c.in-Bytes.n c.read.new.into in
    record { text = all; consumed = consumed_on _ _ _ _ _ c.loop-n.invariant.consumed c.in-Bytes.ensures.consumed; within = omega (arith, length-append {A = ℕ}, length-take {A = ℕ}) }
