use Rattle.std.proofs.Common.{◌∙◌, ap, sym, subst, rules}
use Rattle.af_buffers.specs.RecordBuffer.{RecordWindow, Keeps}
use Rattle.af_state.specs.Kept.{KeptDevice}
use Rattle.af_core.specs.declared.server.Core.TheInside.{Inside}
use Rattle.af_core.specs.Stands.{Kept}
use Rattle.af_core.proofs.TurnLemmas.{device_shown}
use Rattle.af_state.proofs.DeviceLemmas.{device_at}
use Rattle.af_core.proofs.server.Core.record_buffer.Goals as goal

pub returns-clause-keeps : goal.returns-clause-keeps
returns-clause-keeps c = λ s st.
    device_shown c.args.self.now c.self-inside.inside.0.0.devices.items s c.args.device _ (λ y. Keeps c.last.result.now y.channels y.captured y.begin y.now) (ap (λ (x : Inside). x.shared.devices) c.self-inside.view_is ∙ ap (λ (k : Kept). k.devices) c.self.view_is) (device_at _ _ _ c.index.result.now c.from.ensures (search rules)) st
    (λ y h. subst (λ (v : RecordWindow). Keeps v y.channels y.captured y.begin y.now) (sym (c.last.ensures ∙ ap (λ (d : KeptDevice). d.last) c.index.ensures)) h.keeps)
