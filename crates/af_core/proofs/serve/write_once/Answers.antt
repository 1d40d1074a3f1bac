use Rattle.std.proofs.Common.{◌≡◌, ◌<◌, ◌≤◌, ◌∙◌, ap, rules, arith, inl, inr, length, refl, subst, take, ⊎_elim}
use Rattle.std.specs.declared.option.Option.TheVariants.{None, Some}
use Rattle.af_world.specs.declared.happening.Why.TheVariants as why
use Rattle.af_model.specs.State.{LinkState, open_link}
use Rattle.af_model.specs.Advance.{advance}
use Rattle.af_model.specs.Events.{drop_link}
use Rattle.af_model.specs.Turn.{send_pending}
use Rattle.af_state.specs.SharedState.{StandsForLink, KeptSharedState, StepsLink}
use Rattle.af_state.proofs.DeferralLemmas.{leaves_others_dropped, leaves_others_grown}
use Rattle.af_core.proofs.LinkPhaseLemmas.{fewer_writes, first_taken, writes, writes_some}
use Rattle.af_core.proofs.serve.write_once.Goals as goal

pub returns-in-Took-clause-simulates : goal.returns-in-Took-clause-simulates
returns-in-Took-clause-simulates g c =
    let k = c.args.number in
    let l = c.args.link.now in
    let n = c.in-Took.n in
    let took : c.took.new.self ≡ send_pending n l = search rules in
    let bound : n ≤ length l.pending = c.in-Took.ensures.bound in
    let log = c.in-Took.ensures.log in
    writes _ _ k c.args.shared.now _ l _ (Some (take n l.pending)) (λ p. advance k (open_link p.environment (send_pending n p.link))) c.requires.wants (λ a. first_taken k n (open_link a l) bound) log
    (λ a h. subst (λ m. StandsForLink c.advance.new.shared c.advance.new.link (advance k (open_link a m))) took (c.advance.ensures.step a h))

pub returns-in-Failed-clause-simulates : goal.returns-in-Failed-clause-simulates
returns-in-Failed-clause-simulates g c =
    let k = c.args.number in
    let log = c.in-Failed.ensures.log in
    let step : StepsLink (drop_link k why.LinkFault) c.args.shared.now c.args.link.now c.drop_link.new.shared c.drop_link.new.link = search rules in
    writes _ _ k c.args.shared.now _ c.args.link.now _ None (drop_link k why.LinkFault) c.requires.wants (λ a. refl) log step

pub returns-in-Took-clause-link : goal.returns-in-Took-clause-link
returns-in-Took-clause-link g c = record { settled = c.advance.ensures.settled; leaves_others = leaves_others_grown _ _ _ c.advance.ensures.only_queues }

pub returns-in-Failed-clause-link : goal.returns-in-Failed-clause-link
returns-in-Failed-clause-link g c = record { settled = c.drop_link.ensures.settled; leaves_others = leaves_others_dropped _ _ _ (ap (λ (e : KeptSharedState). e.waits) c.drop_link.ensures.without) }

pub returns-in-Took-clause-fewer : goal.returns-in-Took-clause-fewer
returns-in-Took-clause-fewer g c =
    let took : c.took.new.self ≡ send_pending c.in-Took.n c.args.link.now = search rules in
    let bound = c.in-Took.ensures.bound in
    fewer_writes c.in-Took.n c.args.link.now _ bound c.requires.wants
    (⊎_elim (λ e. inl (e ∙ took)) (λ less. inr (subst (λ (m : LinkState). length c.advance.new.link.rest < length m.rest) took less)) c.advance.ensures.answered)

pub returns-in-Failed-clause-fewer : goal.returns-in-Failed-clause-fewer
returns-in-Failed-clause-fewer g c =
    let none = c.drop_link.ensures.silent in
    let some = writes_some c.args.link.now c.requires.wants in
    omega (arith, none, some)
