use Rattle.std.proofs.Common.{◌≡◌, ap, ◌∙◌, refl, inl, inr}
use Rattle.af_toolkit.specs.declared.end.ToolEnd.TheVariants as end
use Rattle.af_wire.specs.Front.{setup_bytes}
use Rattle.af_toolkit.specs.Trace.{connects, fault_end}
use Rattle.af_tools.specs.Run.{task_trace}
use Rattle.af_toolkit.proofs.ToolPartLemmas.{client_begun, followed_early, setup_goes_on, setup_stops}
use Rattle.af_tools.proofs.RunStepLemmas.{setup_failed, setup_used, task_used, unsent_prefix}
use Rattle.af_tools.proofs.UnreadLemmas.{link_gives}
use Rattle.af_tools.proofs.run.perform_over.Goals as goal

pub returns-in-Ok-clause-followed : goal.returns-in-Ok-clause-followed
returns-in-Ok-clause-followed g c input bytes told tells =
    let e = c.in-Ok.ensures in
    let conn = c.in-Ok.conn in
    let same : c.into_link.result ≡ c.perform-end.new.conn.link = c.into_link.ensures in
    rw same (setup_goes_on c.args.order _ e.3 told (λ i t.
    rw (client_begun c.args.order conn i e.0 e.1) at (c.perform-end.ensures.followed i bytes t tells)))

pub returns-in-Err-clause-followed : goal.returns-in-Err-clause-followed
returns-in-Err-clause-followed g c input bytes told tells =
    elim (c.in-Err.ensures) [
      | inl none ↦
          let way : c.from.result ≡ end.OutOfMemory = c.from.ensures ∙ ap fault_end none.0 in
          rw (way, none.1) (followed_early (connects c.args.order input (λ devices w. task_trace c.args.task.now devices bytes w)) end.OutOfMemory refl)
      | inr setup ↦
          let way : c.from.result ≡ fault_end c.in-Err.fault = c.from.ensures in
          setup_stops c.args.order _ c.in-Err.fault way setup.1 told
    ]

pub returns-in-Ok-clause-unread : goal.returns-in-Ok-clause-unread
returns-in-Ok-clause-unread g c job is raw =
    let e = c.in-Ok.ensures in
    elim (c.perform-end.ensures.unread job is raw) [
      | inl same ↦ inl same
      | inr gives ↦ inr (λ link links told. link_gives c.args.order g.L.Link.left g.L.Link.sent g.L.Link.faults job c.args.far c.in-Ok.conn link links e.0 e.1 e.3 told gives)
    ]

pub returns-in-Ok-clause-step : goal.returns-in-Ok-clause-step
returns-in-Ok-clause-step g c input bytes told tells =
    let e = c.in-Ok.ensures in
    let conn = c.in-Ok.conn in
    let same : c.into_link.result ≡ c.perform-end.new.conn.link = c.into_link.ensures in
    rw same (setup_used c.args.order _ (task_used c.args.task.now bytes c.perform-end.result (g.S.Source.left c.perform-end.new.source) (g.K.Sink.held c.args.sink.now) (g.K.Sink.held c.perform-end.new.sink)) g.L.Link.left g.L.Link.sent g.L.Link.faults c.args.far conn.link conn.ring input conn.devices _ e.3 told (λ i t.
    rw (client_begun c.args.order conn i e.0 e.1) at (c.perform-end.ensures.step i bytes t tells)))

pub returns-in-Err-clause-step : goal.returns-in-Err-clause-step
returns-in-Err-clause-step g c input bytes told tells =
    elim (c.in-Err.ensures) [
      | inl none ↦ rw none.1 (inl ((refl, refl), unsent_prefix (g.L.Link.sent c.args.far) (setup_bytes c.args.order)))
      | inr setup ↦ setup_failed c.args.order _ (task_used c.args.task.now bytes c.from.result (g.S.Source.left c.args.source.now) (g.K.Sink.held c.args.sink.now) (g.K.Sink.held c.args.sink.now)) g.L.Link.left g.L.Link.sent g.L.Link.faults c.args.far c.in-Err.far setup.0 input c.in-Err.fault setup.1 told (refl, refl)
    ]
