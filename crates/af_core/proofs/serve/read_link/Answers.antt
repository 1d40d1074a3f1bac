use Rattle.std.proofs.Common.{◌≡◌, ◌<◌, ◌≤◌, ◌∙◌, ap, ℕ, List, [], ◌∷◌, length, take, refl, sym, subst, arith, rules, true, false}
use Rattle.std.proofs.lemmas.List.{length-take, with_items_is}
use Rattle.af_io.specs.Observed.{Appended}
use Rattle.af_world.specs.declared.happening.Happening.TheVariants.{Read}
use Rattle.af_limits.specs.Limits.{longest_frame, longest_read}
use Rattle.af_world.specs.declared.happening.ReadGot.TheVariants.{Given, NotYet, Ended, Failed}
use Rattle.af_world.specs.declared.happening.Why.TheVariants as why
use Rattle.af_model.specs.State.{closing_link}
use Rattle.af_model.specs.Advance.{absorb, takes_more}
use Rattle.af_model.specs.Events.{drop_link}
use Rattle.af_model.specs.Turn.{wants_read}
use Rattle.af_model.proofs.BoolTestLemmas.{both-true}
use Rattle.af_state.specs.Deferrals.{has_waiting}
use Rattle.af_state.specs.SharedState.{KeptSharedState}
use Rattle.af_state.proofs.DeferralLemmas.{leaves_others_dropped, leaves_others_grown, leaves_others_nothing, only_queues_on}
use Rattle.af_core.proofs.LinkPhaseLemmas.{absorbed, reads, reads_nothing, at_open_link, at_update, given_fits}
use Rattle.af_core.proofs.serve.read_link.Goals as goal

pub receive-requires-clause-room : goal.receive-requires-clause-room
receive-requires-clause-room g c =
    let waits = has_waiting c.args.shared.now.waits c.args.number in
    let wants : wants_read waits c.args.link.now ≡ true = search rules in
    let short : length c.args.link.now.rest < longest_frame = c.requires.link.settled.short (both-true c.args.link.now.is_ready (takes_more waits c.args.link.now) wants).1 in
    let few : c.in-Bytes.n ≤ longest_read = c.in-Bytes.ensures.bound.1 in
    let taken = length-take c.in-Bytes.n c.deref.result.now in
    omega (arith, short, few, taken)

pub receive-requires-clause-takes : goal.receive-requires-clause-takes
receive-requires-clause-takes g c =
    let waits = has_waiting c.args.shared.now.waits c.args.number in
    let wants : wants_read waits c.args.link.now ≡ true = search rules in
    (both-true c.args.link.now.is_ready (takes_more waits c.args.link.now) wants).1

pub returns-then-not-wants_read-clause-simulates : goal.returns-then-not-wants_read-clause-simulates
returns-then-not-wants_read-clause-simulates g c = reads_nothing _ _ c.args.shared.now _ (search rules)

pub returns-in-Bytes-clause-simulates : goal.returns-in-Bytes-clause-simulates
returns-in-Bytes-clause-simulates g c =
    let got = take c.in-Bytes.n c.deref.result.now in
    let is : c.deref.result.now ≡ c.read_input.new.input = c.deref.ensures.value ∙ with_items_is c.scratch.inside.input c.read_input.new.input (search rules) in
    let log = subst (λ (xs : List ℕ). Appended (g.W.World.log c.args.world.now) (Read c.args.number (Given (take c.in-Bytes.n xs)) ∷ []) (g.W.World.log c.read_input.new.world)) (sym is) c.in-Bytes.ensures.log in
    reads _ _ c.args.number c.args.shared.now _ c.args.link.now _ (Given got) (search rules) (given_fits _ _ c.in-Bytes.ensures.bound.0 c.in-Bytes.ensures.bound.1 (search rules)) log
    (at_open_link _ _ _ _ (λ p. absorb c.args.number got p)
    (absorbed c.args.number c.args.shared.now _ _ c.args.link.now _ _ got (search rules) c.receive.ensures.on c.advance.ensures.step))

pub returns-in-NotYet-clause-simulates : goal.returns-in-NotYet-clause-simulates
returns-in-NotYet-clause-simulates g c =
    reads _ _ c.args.number c.args.shared.now _ c.args.link.now _ NotYet (search rules) refl c.in-NotYet.ensures.log (at_update _ _ _ (λ l. record l { is_ready = false }) c.wait_for_bytes.ensures)

pub returns-in-Ended-clause-simulates : goal.returns-in-Ended-clause-simulates
returns-in-Ended-clause-simulates g c =
    reads _ _ c.args.number c.args.shared.now _ c.args.link.now _ Ended (search rules) refl c.in-Ended.ensures.log
    (at_update _ _ _ (λ l. closing_link why.Ended (record l { is_ready = false })) (c.stop.ensures ∙ ap (closing_link why.Ended) c.wait_for_bytes-in-Ended.ensures))

pub returns-in-Failed-clause-simulates : goal.returns-in-Failed-clause-simulates
returns-in-Failed-clause-simulates g c =
    reads _ _ c.args.number c.args.shared.now _ c.args.link.now _ Failed (search rules) refl c.in-Failed.ensures.log
    (at_open_link _ _ _ _ (drop_link c.args.number why.LinkFault) c.drop_link.ensures.step)

pub returns-then-not-wants_read-clause-link : goal.returns-then-not-wants_read-clause-link
returns-then-not-wants_read-clause-link g c = record { settled = c.requires.link.settled; leaves_others = leaves_others_nothing c.args.number c.args.shared.now.waits }

pub returns-in-Bytes-clause-link : goal.returns-in-Bytes-clause-link
returns-in-Bytes-clause-link g c = record { settled = c.advance.ensures.settled; leaves_others = leaves_others_grown _ _ _ (only_queues_on _ _ _ _ c.receive.ensures.only_queues c.advance.ensures.only_queues) }

pub returns-in-NotYet-clause-link : goal.returns-in-NotYet-clause-link
returns-in-NotYet-clause-link g c = record { settled = search rules; leaves_others = leaves_others_nothing c.args.number c.args.shared.now.waits }

pub returns-in-Ended-clause-link : goal.returns-in-Ended-clause-link
returns-in-Ended-clause-link g c = record { settled = search rules; leaves_others = leaves_others_nothing c.args.number c.args.shared.now.waits }

pub returns-in-Failed-clause-link : goal.returns-in-Failed-clause-link
returns-in-Failed-clause-link g c = record { settled = c.drop_link.ensures.settled; leaves_others = leaves_others_dropped _ _ _ (ap (λ (e : KeptSharedState). e.waits) c.drop_link.ensures.without) }
