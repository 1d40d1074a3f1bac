use Rattle.std.proofs.Common.{rules, length, subst}
use Rattle.af_request.specs.Asked.{record_run}
use Rattle.af_request.specs.Requests.{request_bytes}
use Rattle.af_request.specs.Opcodes as opcodes
use Rattle.af_lib.specs.Calls.{answer_of, as_recorded, next_sequence, recorded_in, ConnState, Exchanged}
use Rattle.af_lib.proofs.conn.Conn.record_run.Goals as goal

pub returns-clause-called : goal.returns-clause-called
returns-clause-called g c =
    let e = c.ask_recorded-answer.ensures in
    let result = recorded_in c.ask_recorded-answer.result c.ask_recorded-answer.new.into in
    let room = length c.args.into.now in
    let exchange = c.ask_recorded-answer.new.exchange in
    let asked = record_run c.args.blocking c.args.ac c.args.time.0 room in
    record {
      spent = search rules;
      untouched = search rules;
      exchanged = λ _.
          subst (λ (s : ConnState _). Exchanged g.L.Link.left g.L.Link.sent g.L.Link.faults s.order (request_bytes s.order asked) (answer_of s.order (as_recorded c.args.blocking room) opcodes.record (next_sequence s.sequence)) result s.link exchange.link s.ring exchange.ring)
          c.self.view_is e.exchanged;
      keeps = search rules;
    }
