use Rattle.std.proofs.Common.{◌∙◌, ap, sym, subst, rules}
use Rattle.af_buffers.specs.PlayBuffer.{PlayWindow, Hears}
use Rattle.af_state.specs.Kept.{KeptDevice}
use Rattle.af_core.specs.declared.server.Core.TheInside.{Inside}
use Rattle.af_core.specs.Stands.{Kept}
use Rattle.af_core.proofs.TurnLemmas.{device_shown}
use Rattle.af_state.proofs.DeviceLemmas.{device_at}
use Rattle.af_core.proofs.server.Core.play_buffer.Goals as goal

pub returns-clause-hears : goal.returns-clause-hears
returns-clause-hears c = λ s st.
    device_shown c.args.self.now c.self-inside.inside.0.0.devices.items s c.args.device _ (λ y. Hears c.next.result.now y.channels y.accepted y.now) (ap (λ (x : Inside). x.shared.devices) c.self-inside.view_is ∙ ap (λ (k : Kept). k.devices) c.self.view_is) (device_at _ _ _ c.index.result.now c.from.ensures (search rules)) st
    (λ y h. subst (λ (v : PlayWindow). Hears v y.channels y.accepted y.now) (sym (c.next.ensures ∙ ap (λ (d : KeptDevice). d.next) c.index.ensures)) h.hears)
