use Rattle.std.proofs.Common.{◌≡◌, ◌∙◌, ap, cond, rules, sym}
use Rattle.std.specs.declared.option.Option.TheVariants.{None, Some}
use Rattle.af_core.proofs.LinkPhaseLemmas.{door_shows}
use Rattle.af_core.proofs.slot.Slot.serve.Goals as goal

pub serve_link-is_closed-requires : goal.serve_link-is_closed-requires
serve_link-is_closed-requires g c =
    let is : c.args.self.now ≡ Some c.self.inside.link = sym c.self.view_is ∙ ap (λ b. cond b (Some c.self.inside.link) None) c.if-self.true in
    record { link = record { number = c.requires.number; settled = c.requires.settled c.self.inside.link is } }

pub returns-then-self-clause-simulates : goal.returns-then-self-clause-simulates
returns-then-self-clause-simulates g c = door_shows _ _ c.args.number c.args.shared.now _ c.args.self.now c.self.inside.link _ c.serve_link-is_closed.result (search rules) c.serve_link-is_closed.ensures.simulates
