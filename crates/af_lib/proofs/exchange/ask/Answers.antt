use Rattle.std.proofs.Common.{rules, ◌≡◌, ◌++◌, drop, length, take, ℕ}
use Rattle.std.proofs.lemmas.List.{take_at}
use Rattle.af_lib.specs.Ring.{nothing_more}
use Rattle.af_lib.proofs.ExchangeLemmas.{seen_fault, seen_fresh, sends_all}
use Rattle.af_lib.proofs.exchange.ask.Goals as goal

pub returns-in-Done-clause-exchanged : goal.returns-in-Done-clause-exchanged
returns-in-Done-clause-exchanged g c =
    let sent = c.in-Done.ensures in
    let a = c.await_answer.ensures in
    let view = λ (n : ℕ). take n c.await_answer.new.input in
    let same : take c.args.exchange.now.input.len (c.await_answer.new.input ++ drop (length c.await_answer.new.input) c.args.exchange.now.input.items) ≡ c.await_answer.new.input =
    take_at c.await_answer.new.input _ c.args.exchange.now.input.len (search rules) in
    rw same (record {
      sends = sends_all sent.written a.reads.sends;
      answers = rw (sent.gives, c.opcode_of.ensures) at a.finds;
      gained = a.gained;
      fresh = seen_fresh view c.await_answer.result a.fresh;
      tells = λ told. a.reads.tells (sent.tells told);
      failed = λ f. search (rules, a.reads.counts.1 (seen_fault view c.await_answer.result _ f));
      count = search rules;
    })

pub returns-in-Failed-clause-exchanged : goal.returns-in-Failed-clause-exchanged
returns-in-Failed-clause-exchanged g c =
    record { sends = search rules; answers = search rules; gained = nothing_more; fresh = search rules; tells = search rules; failed = search rules; count = search rules }
