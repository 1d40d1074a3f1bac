use Rattle.std.proofs.Common.{◌≡◌, ◌∷◌, [], false, true, refl, ap, sym, ◌∙◌, subst, inl, inr}
use Rattle.af_toolkit.specs.declared.end.ToolEnd.TheVariants as end
use Rattle.af_toolkit.specs.Trace.{ClientState, fault_end}
use Rattle.af_toolkit.specs.Ends.{client_of}
use Rattle.af_relay.specs.RelayParts.{RelayDid, SendsBoth}
use Rattle.af_relay.specs.Pair.{is_of_pass}
use Rattle.af_relay.specs.Pass.{apass_trace, both, relay_of}
use Rattle.af_tools.specs.Run.{no_client, relays_to}
use Rattle.af_toolkit.proofs.ToolPartLemmas.{client_begun}
use Rattle.af_tools.proofs.DialLemmas.{over_answered, over_none, over_refused, setup_memory}
use Rattle.af_tools.proofs.relay.pass_over.Goals as goal

pub returns-in-Ok-clause-followed : goal.returns-in-Ok-clause-followed
returns-in-Ok-clause-followed g c v link told_from told_to =
    let e = c.in-Ok.ensures in
    let to = c.in-Ok.to in
    let job = c.args.job.now in
    let conn = c.args.conn.now in
    let same : c.into_link.result ≡ c.apass-end.new.to.link = c.into_link.ensures in
    rw same (over_answered c.args.order job conn.devices (client_of conn v) g.M.Link.left g.M.Link.sent g.M.Link.faults link c.args.far to.link to.ring to.devices _ _ _ e.3 told_to
    (λ memory. let bad : false ≡ true = ap is_of_pass (sym memory) ∙ c.apass-end.ensures.end in cc)
    (λ a t. subst (λ (w : ClientState). RelayDid (apass_trace job conn.devices to.devices (client_of conn v) w) c.apass-end.result (g.K.Sink.held c.args.sink.now) (g.K.Sink.held c.apass-end.new.sink) (λ did. SendsBoth did (both (g.L.Link.sent conn.link) (g.M.Link.sent to.link)) (both (g.L.Link.sent c.apass-end.new.from.link) (g.M.Link.sent c.apass-end.new.to.link)))) (client_begun c.args.order to a e.0 e.1)
    (c.apass-end.ensures.ran v a told_from t).followed))

pub returns-in-Err-clause-followed : goal.returns-in-Err-clause-followed
returns-in-Err-clause-followed g c v link told_from told_to =
    let conn = c.args.conn.now in
    elim (c.in-Err.ensures) [
      | inl none ↦
          let way : c.from.result ≡ end.OutOfMemory = c.from.ensures ∙ ap fault_end none.0 in
          rw (way, none.1) (over_none (relay_of (relays_to c.args.order c.args.job.now (link ∷ []) conn.devices (both (client_of conn v) (no_client c.args.order)))) end.OutOfMemory (both (g.L.Link.sent conn.link) (g.M.Link.sent c.args.far)) _ refl)
      | inr setup ↦
          let way : c.from.result ≡ fault_end c.in-Err.fault = c.from.ensures in
          rw way (over_refused c.args.order c.args.job.now conn.devices (client_of conn v) g.M.Link.left g.M.Link.sent g.M.Link.faults link c.args.far c.in-Err.far setup.0 c.in-Err.fault _ setup.1 told_to (setup_memory c.in-Err.fault setup.1.fresh))
    ]
