use Rattle.std.proofs.Common.{◌≡◌, List, ℕ, [], ◌∷◌, inl, inr, refl, sym, ap, ◌∙◌, subst, Option}
use Rattle.clap.specs.Words.{Text}
use Rattle.af_io.specs.Observed.{Appended}
use Rattle.af_io.specs.Dial.{AppendedBack, IsFirstOf, ToldLink}
use Rattle.af_toolkit.specs.declared.end.ToolEnd.TheVariants as end
use Rattle.af_toolkit.specs.Ends.{has_done_all}
use Rattle.af_toolkit.specs.Trace.{ClientState, fault_end}
use Rattle.af_relay.specs.Pass.{both, doing, relay_of}
use Rattle.af_relay.specs.RelayParts.{RelayDid}
use Rattle.af_tools.specs.Run.{no_client, relays_to, ReturnsBoth}
use Rattle.af_cli.specs.Words.{relay}
use Rattle.af_io.proofs.AppendedLemmas.{appended_on}
use Rattle.af_toolkit.proofs.ToolEndLemmas.{fault_short}
use Rattle.af_toolkit.proofs.ToolPartLemmas.{client_begun}
use Rattle.af_tools.proofs.DialLemmas.{ran_none, ran_over_both, ran_refused, ran_unset}
use Rattle.af_tools.proofs.relay.run_relay.Goals as goal

pub returns-in-Ok-clause-ran : goal.returns-in-Ok-clause-ran
returns-in-Ok-clause-ran g c links bytes told =
    let e = c.in-Far.ensures in
    let s = c.in-Ok.ensures in
    let conn = c.in-Ok.conn in
    let gives = subst (λ (l : Option (List ToldLink)). IsFirstOf g.D.Far.Link.left g.D.Far.Link.sent c.in-Far.far l (g.D.Dial.links c.dial.new.self)) told e.gives in
    let call = c.args.call.now in
    ran_over_both call.order call.from.now call.to.now call.job bytes g.D.Far.Link.left g.D.Far.Link.sent g.D.Far.Link.faults c.in-Far.far conn.link conn.ring conn.devices links gives s.3 e.back
    (λ rest a l t. subst (λ (v : ClientState). RelayDid (relay_of (relays_to call.order call.job rest conn.devices (both v (no_client call.order)))) c.run_to.result (g.K.Sink.held c.args.sink.now) (g.K.Sink.held c.run_to.new.sink) (λ did. ReturnsBoth (g.D.Far.Link.sent conn.link) rest (g.D.Dial.links c.run_to.new.dial) did (g.D.Dial.back c.dial.new.self) (g.D.Dial.back c.run_to.new.dial) × (c.run_to.result ≡ end.OutOfMemory → did ≡ doing.nothing))) (client_begun call.order conn a s.0 s.1)
    (c.run_to.ensures.ran a rest t l))

pub returns-in-Ok-clause-asked : goal.returns-in-Ok-clause-asked
returns-in-Ok-clause-asked g c =
    let from : List Text = c.args.call.now.from.now ∷ [] in
    let to : List Text = c.args.call.now.to.now ∷ [] in
    record { named = c.args.call.now.from.now ∷ c.args.call.now.to.now ∷ []; others = []; whole = refl; appended = appended_on _ _ _ from to c.in-Far.ensures.asked c.run_to.ensures.asked; none = λ e. cc; all = λ e. refl }

pub returns-in-Err-clause-ran : goal.returns-in-Err-clause-ran
returns-in-Err-clause-ran g c links bytes told =
    let e = c.in-Far.ensures in
    let gives = subst (λ (l : Option (List ToldLink)). IsFirstOf g.D.Far.Link.left g.D.Far.Link.sent c.in-Far.far l (g.D.Dial.links c.dial.new.self)) told e.gives in
    let call = c.args.call.now in
    elim (c.in-Err.ensures) [
      | inl none ↦
          let way : c.from.result ≡ end.OutOfMemory = c.from.ensures ∙ ap fault_end none.0 in
          let entry = subst (λ (x : Option (List ℕ)). AppendedBack (g.D.Dial.back c.dial.new.self) x (g.D.Dial.back c.hang_up.new.self)) (ap g.D.Far.Link.sent none.1) c.hang_up.ensures.back in
          rw way (ran_unset call.order call.from.now call.to.now call.job bytes g.D.Far.Link.left g.D.Far.Link.sent c.in-Far.far links gives e.back entry c.hang_up.ensures.gives)
      | inr setup ↦
          let way : c.from.result ≡ fault_end c.in-Err.fault = c.from.ensures in
          rw way (ran_refused call.order call.from.now call.to.now call.job bytes g.D.Far.Link.left g.D.Far.Link.sent g.D.Far.Link.faults c.in-Far.far c.in-Err.far setup.0 c.in-Err.fault links gives setup.1 e.back c.hang_up.ensures.back c.hang_up.ensures.gives)
    ]

pub returns-in-Err-clause-asked : goal.returns-in-Err-clause-asked
returns-in-Err-clause-asked g c =
    let way : c.from.result ≡ fault_end c.in-Err.fault = c.from.ensures in
    record {
      named = c.args.call.now.from.now ∷ [];
      others = c.args.call.now.to.now ∷ [];
      whole = refl;
      appended = subst (λ (x : Option (List Text)). Appended (g.D.Dial.asked c.args.dial.now) (c.args.call.now.from.now ∷ []) x) (sym c.hang_up.ensures.asked) c.in-Far.ensures.asked;
      none = λ e. cc;
      all = λ done. absurd (fault_short c.in-Err.fault (ap has_done_all (sym way) ∙ done));
    }

pub returns-in-Failed-clause-ran : goal.returns-in-Failed-clause-ran
returns-in-Failed-clause-ran g c links bytes told = ran_none (relay c.args.call.now.from.now c.args.call.now.to.now c.args.call.now.order c.args.call.now.job) bytes end.DialFault links _ _ _ _ refl (c.in-Failed.ensures.gives ∙ told) c.in-Failed.ensures.back

pub returns-in-Failed-clause-asked : goal.returns-in-Failed-clause-asked
returns-in-Failed-clause-asked g c = record { named = c.args.call.now.from.now ∷ []; others = c.args.call.now.to.now ∷ []; whole = refl; appended = c.in-Failed.ensures.asked; none = λ e. cc; all = λ e. cc }

pub returns-in-OutOfMemory-clause-ran : goal.returns-in-OutOfMemory-clause-ran
returns-in-OutOfMemory-clause-ran g c links bytes told = ran_none (relay c.args.call.now.from.now c.args.call.now.to.now c.args.call.now.order c.args.call.now.job) bytes end.OutOfMemory links _ _ _ _ refl (c.in-OutOfMemory.ensures.gives ∙ told) c.in-OutOfMemory.ensures.back

pub returns-in-OutOfMemory-clause-asked : goal.returns-in-OutOfMemory-clause-asked
returns-in-OutOfMemory-clause-asked g c = record { named = c.args.call.now.from.now ∷ []; others = c.args.call.now.to.now ∷ []; whole = refl; appended = c.in-OutOfMemory.ensures.asked; none = λ e. cc; all = λ e. cc }
