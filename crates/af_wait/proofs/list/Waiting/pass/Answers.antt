use Rattle.std.proofs.Common.{◌≡◌, ◌∙◌, ap, subst, sym, length, map, List}
use Rattle.std.specs.List.{refill}
use Rattle.std.proofs.lemmas.List.{length-map}
use Rattle.arrayvec.proofs.ArrayVecLemmas.{items-with_items}
use Rattle.af_wait.specs.declared.Wait.{Wait}
use Rattle.af_wait.specs.Waits.{wait_after_frames, AreFlags, AreWaits}
use Rattle.af_wait.proofs.FlagLemmas.{AreFlags-wait_after_frames}
use Rattle.af_wait.proofs.WaitLemmas.{AreWaits-wait_after_frames}
use Rattle.af_wait.proofs.list.Waiting.pass.Goals as goal

passed_list : (c : goal.After-self-1) →
    refill (length c.self.inside.waits.items) c.self.inside.waits.items c.pass_all.new.waits
    ≡ map (wait_after_frames c.args.device c.args.n) c.self.inside.waits.items
passed_list c =
    let all = c.pass_all.ensures ∙ ap (map (wait_after_frames c.args.device c.args.n)) c.deref_mut.ensures.value in
    items-with_items c.self.inside.waits c.pass_all.new.waits
    (ap (λ (ws : List Wait). length ws) all ∙ length-map c.self.inside.waits.items (wait_after_frames c.args.device c.args.n))
    ∙ all

waits : (c : goal.After-self-1) → AreWaits (refill (length c.self.inside.waits.items) c.self.inside.waits.items c.pass_all.new.waits)
waits c = subst AreWaits (sym (passed_list c)) (AreWaits-wait_after_frames _ _ _ c.self.invariant.0)

pub invariant_of-self : goal.invariant_of-self
invariant_of-self c = (waits c, subst (AreFlags _) (sym (passed_list c)) (AreFlags-wait_after_frames _ _ _ _ c.self.invariant.1))

pub returns-clause-list : goal.returns-clause-list
returns-clause-list c = waits c
