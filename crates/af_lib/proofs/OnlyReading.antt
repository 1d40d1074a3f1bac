-- Links that are only read.
use Rattle.std.proofs.Common.{◌∙◌, ◌≤◌, ℕ, List, arith, Option}
use Rattle.af_io.specs.Observed.{FaultCounted}
use Rattle.af_lib.specs.Observed.{OnlyRead}

rose_on : (a b c : ℕ) → a ≤ b → FaultCounted b c → FaultCounted a c
rose_on a b c below rose = omega arith

module _ {L : Type 0} {left sent : L → Option (List ℕ)} {faults : L → ℕ} where
  -- one read after others
  pub read_on : {P Q : Type 0} {a b c : L} → OnlyRead left sent faults P a b → OnlyRead left sent faults Q b c → OnlyRead left sent faults Q a c
  read_on {P} {Q} {a} {b} {c} first then = record {
    sends = then.sends ∙ first.sends;
    tells = λ told. then.tells (first.tells told);
    counts = (let below = first.counts.0 in let more = then.counts.0 in omega arith, λ failed. rose_on (faults a) (faults b) (faults c) first.counts.0 (then.counts.1 failed));
  }

  -- the same if something else failed
  pub read_where : {P Q : Type 0} {a b : L} → (Q → P) → OnlyRead left sent faults P a b → OnlyRead left sent faults Q a b
  read_where {P} {Q} {a} {b} why read = record { sends = read.sends; tells = read.tells; counts = (read.counts.0, λ failed. read.counts.1 (why failed)) }
