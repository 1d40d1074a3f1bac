use Rattle.std.proofs.Common.{◌≡◌, ◌∙◌, ap, subst, rules, MatchOption}
use Rattle.std.specs.declared.option.Option.{Option}
use Rattle.std.specs.declared.option.Option.TheVariants.{None, Some}
use Rattle.af_request.specs.declared.reply.Phone.{Phone}
use Rattle.af_state.specs.Kept.{KeptDevice}
use Rattle.af_core.specs.declared.server.Core.TheInside.{Inside}
use Rattle.af_core.specs.Stands.{Kept}
use Rattle.af_core.proofs.TurnLemmas.{device_shown}
use Rattle.af_state.proofs.DeviceLemmas.{device_at}
use Rattle.af_core.proofs.server.Core.line.Goals as goal

pub returns-clause-shows : goal.returns-clause-shows
returns-clause-shows c = λ s st.
    let shown : Option Phone → Type 0 = λ v. MatchOption c.kept_line.result (v ≡ None) (λ line. v ≡ Some line.now) in
    device_shown c.args.self.now c.self-inside.inside.0.0.devices.items s c.args.device _ (λ y. shown y.line) (ap (λ (x : Inside). x.shared.devices) c.self-inside.view_is ∙ ap (λ (k : Kept). k.devices) c.self.view_is) (device_at _ _ _ c.index.result.now c.from.ensures (search rules)) st
    (λ y h. subst shown (ap (λ (d : KeptDevice). d.line) c.index.ensures ∙ h.line) c.kept_line.ensures)
