use Rattle.std.proofs.Common.{◌≡◌, ◌∙◌, ap, subst, sym, List, rules}
use Rattle.arrayvec.proofs.ArrayVecLemmas.{filter-from_retain}
use Rattle.af_wait.specs.declared.Wait.{Wait}
use Rattle.af_wait.specs.Waits.{without_link, AreFlags, AreWaits}
use Rattle.af_wait.proofs.FlagLemmas.{AreFlags-without_link}
use Rattle.af_wait.proofs.WaitLemmas.{AreWaits-without_link}
use Rattle.af_wait.proofs.list.Waiting.drop_link.Goals as goal

rest : (c : goal.After-clear_flag) → c.retain.new.self.items ≡ without_link c.self.inside.waits.items c.args.link
rest c = filter-from_retain _ _ _ (λ x b f' y called. search rules) _ _ c.retain.ensures.filtered

left : (c : goal.After-clear_flag) → AreWaits c.retain.new.self.items
left c = subst AreWaits (sym (rest c)) (AreWaits-without_link _ _ c.self.invariant.0)

flags : (c : goal.After-clear_flag) → AreFlags c.clear_flag.new.flags c.retain.new.self.items
flags c =
    let cleared = AreFlags-without_link _ _ c.args.link c.self.invariant.1 in
    subst (λ fs. AreFlags fs c.retain.new.self.items) (sym c.clear_flag.ensures) (subst (AreFlags _) (sym (rest c)) cleared)

pub invariant_of-self : goal.invariant_of-self
invariant_of-self c = (left c, flags c)

pub returns-clause-rest : goal.returns-clause-rest
returns-clause-rest c = rest c ∙ ap (λ (ws : List Wait). without_link ws c.args.link) c.self.view_is

pub returns-clause-list : goal.returns-clause-list
returns-clause-list c = left c
