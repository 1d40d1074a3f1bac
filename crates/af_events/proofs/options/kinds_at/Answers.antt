use Rattle.std.proofs.Common.{◌≡◌, ◌∙◌, List, ℕ, Some, ap, sym, rules, Bor}
use Rattle.std.specs.Prelude.{Option, option_and_then, option_map}
use Rattle.af_cli.specs.Events.{kinds_in}
use Rattle.af_events.proofs.options.kinds_at.Goals as goal

pub returns : goal.returns
returns c =
    let some : c.value_of.result ≡ Some c.in_ok-value_of.field-0 = search rules in
    c.kinds_in.ensures ∙ ap (λ (o : Option (List ℕ)). option_and_then kinds_in o) (ap (λ (o : Option (Bor (List ℕ))). option_map (λ (s : Bor (List ℕ)). s.now) o) (sym some) ∙ c.value_of.ensures)
