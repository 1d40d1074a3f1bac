use Rattle.std.proofs.Common.{◌∙◌, ap, set, subst, sym, true, List, lit<}
use Rattle.af_wait.specs.declared.Wait.{Wait}
use Rattle.af_wait.specs.Waits.{is_waiting, AreFlags, AreWaits}
use Rattle.af_wait.proofs.FlagLemmas.{AreFlags-push}
use Rattle.af_wait.proofs.WaitLemmas.{room-AreWaits, AreWaits-push}
use Rattle.af_wait.proofs.list.Waiting.add.Goals as goal

pub push-requires : goal.push-requires
push-requires c =
    let w : Wait = record { link = c.args.link; device = c.args.device; left = c.args.left } in
    (lit< tt, room-AreWaits c.self.inside.waits.items w c.self.invariant.0 c.requires.link (ap (λ (ws : List Wait). is_waiting ws c.args.link) c.self.view_is ∙ c.requires.apart))

added : (c : goal.After-way_told-1) → AreWaits c.push.new.self.items
added c = subst AreWaits (sym c.push.ensures.items) (AreWaits-push c.self.inside.waits.items _ c.self.invariant.0 c.requires.link (ap (λ (ws : List Wait). is_waiting ws c.args.link) c.self.view_is ∙ c.requires.apart))

pub invariant_of-self : goal.invariant_of-self
invariant_of-self c =
    let w : Wait = record { link = c.args.link; device = c.args.device; left = c.args.left } in
    let flags = AreFlags-push c.self.inside.is_waiting c.self.inside.waits.items w c.self.invariant.1 c.requires.link in
    let kept = subst (AreFlags (set c.self.inside.is_waiting c.args.link true)) (sym c.push.ensures.items) flags in
    (added c, subst (λ k. AreFlags (set c.self.inside.is_waiting k true) c.push.new.self.items) (sym c.from.ensures) kept)

pub returns-clause-list : goal.returns-clause-list
returns-clause-list c = added c
