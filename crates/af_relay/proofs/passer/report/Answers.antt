use Rattle.std.proofs.Common.{List, ℕ, subst}
use Rattle.af_toolkit.specs.Trace.{done, ends, writes_first}
use Rattle.af_toolkit.specs.Ends.{ObservedTrace}
use Rattle.af_relay.proofs.passer.report.Goals as goal

pub returns-clause-followed : goal.returns-clause-followed
returns-clause-followed g c sent =
    subst (λ (l : List ℕ). ObservedTrace (writes_first l (ends done)) c.write_text.result sent sent (g.K.Sink.held c.args.sink.now) (g.K.Sink.held c.write_text.new.sink)) c.write_line-length.ensures.bytes (c.write_text.ensures.followed sent)
