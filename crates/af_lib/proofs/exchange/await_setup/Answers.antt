use Rattle.std.proofs.Common.{rules, subst, take, List, ℕ}
use Rattle.af_io.specs.Observed.{Appended}
use Rattle.af_lib.specs.Ring.{nothing_more}
use Rattle.af_lib.proofs.ExchangeLemmas.{seen_fault, seen_fresh, sends_all}
use Rattle.af_lib.proofs.exchange.await_setup.Goals as goal

pub returns-in-Done-clause-exchanged : goal.returns-in-Done-clause-exchanged
returns-in-Done-clause-exchanged g c =
    let a = c.await_answer.ensures in
    let view = λ (n : ℕ). take n c.await_answer.new.input in
    let written = subst (λ (bytes : List ℕ). Appended (g.L.Link.sent c.args.link.now) bytes (g.L.Link.sent c.write.new.self)) c.setup.ensures c.in-Done.ensures.written in
    record {
      sends = sends_all written a.reads.sends;
      answers = search rules;
      gained = search rules;
      fresh = seen_fresh view c.await_answer.result a.fresh;
      tells = search rules;
      failed = λ f. search (rules, a.reads.counts.1 (seen_fault view c.await_answer.result _ f));
      count = search rules;
    }

pub returns-in-Failed-clause-exchanged : goal.returns-in-Failed-clause-exchanged
returns-in-Failed-clause-exchanged g c =
    record { sends = search rules; answers = search rules; gained = nothing_more; fresh = search rules; tells = search rules; failed = search rules; count = search rules }
