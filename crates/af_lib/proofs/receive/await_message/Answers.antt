use Rattle.std.proofs.Common.{rules, arith, ◌≡◌, ℕ, List, subst, sym, take, refl, ◌∙◌, Option, Result, Ok, Err}
use Rattle.af_limits.specs.Limits.{most_events}
use Rattle.af_lib.specs.declared.receive.Taken.{Taken}
use Rattle.af_lib.specs.declared.fault.ConnFault.{ConnFault}
use Rattle.af_lib.specs.declared.fault.ConnFault.TheVariants as fault
use Rattle.af_wire.specs.declared.order.Order.{Order}
use Rattle.af_lib.specs.Calls.{Answers, IsFresh, IsOfMessage, TakesFirst}
use Rattle.af_lib.specs.Incoming.{Incoming, after_message, event, incoming, other}
use Rattle.af_lib.specs.Observed.{BothTold}
use Rattle.af_lib.specs.Receive.{found_as, taken_as}
use Rattle.af_lib.specs.Ring.{nothing_more, one_more, Gained, RingState}
use Rattle.af_lib.proofs.OnlyReading.{read_on, read_where}
use Rattle.af_lib.proofs.AwaitedMessageLemmas.{await_end, await_flood, await_one}
use Rattle.af_lib.proofs.receive.await_message.Goals as goal

-- what was taken, which is no fault of the link
sound : (order : Order) (taken taken' : Taken) (into : List ℕ) (before after : Option (List ℕ)) → taken ≡ taken' → TakesFirst (taken_as (Ok taken) into) (incoming order) order before after →
    BothTold before after (λ b a. (taken_as (Ok taken') into ≡ incoming order b) × (a ≡ after_message order b))
sound order taken taken' into before after is f = subst (λ (t : Taken). BothTold before after (λ b a. (taken_as (Ok t) into ≡ incoming order b) × (a ≡ after_message order b))) is (f (λ e. cc))

-- the same fault of a call with another answer
retag : {f f' : ConnFault} → (let r : Result Incoming ConnFault = Err f in r ≡ Err f') → (let r : Result (List ℕ) ConnFault = Err f in r ≡ Err f')
retag e = cc

-- a fault of one message is one after which the connection can still be used
still_fresh : (f : ConnFault) → (let r : Result Taken ConnFault = Err f in IsOfMessage r) → (let r : Result ℕ ConnFault = Err f in IsFresh r)
still_fresh fault.OutOfMemory is = absurd is
still_fresh (fault.Spent first) is = absurd is
still_fresh f is = tt

pub returns-in_err-event-clause-fresh : goal.returns-in_err-event-clause-fresh
returns-in_err-event-clause-fresh g c =
    let same : c.from_residual.result ≡ Err c.in_err-event.field-0.0 = search rules in
    rw same (still_fresh c.in_err-event.field-0.0 c.in_err-event.ensures.message)

pub returns-in_err-event-clause-awaits : goal.returns-in_err-event-clause-awaits
returns-in_err-event-clause-awaits g c =
    let same : c.from_residual.result ≡ Err c.in_err-event.field-0.0 = search rules in
    let l0 = g.L.Link.left c.args.link.now in
    let l1 = g.L.Link.left c.loop-allowed.link in
    let l2 = g.L.Link.left c.take_message.new.link in
    let P : Result ℕ ConnFault → Type 0 = λ r. Answers c.args.order (λ found. found) (found_as r c.take_message.new.input) c.args.ring.now c.loop-allowed.ring l0 l2 in
    subst P (sym same) (λ unfailed.
    await_end c.args.order l0 l2 most_events c.args.ring.now c.loop-allowed.ring (Err c.in_err-event.field-0.0)
    (await_one c.args.order l0 l1 l2 most_events c.loop-allowed.allowed c.args.ring.now c.loop-allowed.ring c.loop-allowed.invariant.0 (Err c.in_err-event.field-0.0) (omega arith)
    (c.in_err-event.ensures.takes (λ e. unfailed (retag e)))))

pub returns-in-Other-clause-awaits : goal.returns-in-Other-clause-awaits
returns-in-Other-clause-awaits g c _ =
    let l0 = g.L.Link.left c.args.link.now in
    let l1 = g.L.Link.left c.loop-allowed.link in
    let l2 = g.L.Link.left c.take_message.new.link in
    await_end c.args.order l0 l2 most_events c.args.ring.now c.loop-allowed.ring (Ok (take c.in-Other.length c.take_message.new.input))
    (await_one c.args.order l0 l1 l2 most_events c.loop-allowed.allowed c.args.ring.now c.loop-allowed.ring c.loop-allowed.invariant.0 (Ok (other (take c.in-Other.length c.take_message.new.input))) (omega arith)
    (sound c.args.order c.in_ok-event.field-0 _ c.take_message.new.input l1 l2 c.in-Other.is c.in_ok-event.ensures.takes))

pub loop-allowed-init : goal.loop-allowed-init
loop-allowed-init g c = (search rules, record { sends = refl; tells = λ told. told; counts = (omega arith, λ never. absurd never) }, nothing_more)

pub loop-allowed-preserved : goal.loop-allowed-preserved
loop-allowed-preserved g c =
    let l0 = g.L.Link.left c.args.link.now in
    let l1 = g.L.Link.left c.loop-allowed.link in
    let l2 = g.L.Link.left c.take_message.new.link in
    let i = c.loop-allowed.invariant in
    let told = await_one c.args.order l0 l1 l2 most_events c.loop-allowed.allowed c.args.ring.now c.loop-allowed.ring i.0 (Ok (event c.in-Event.event)) (omega arith)
    (sound c.args.order c.in_ok-event.field-0 _ c.take_message.new.input l1 l2 c.in-Event.is c.in_ok-event.ensures.takes) in
    (rw c.note.ensures told, read_on i.1 (read_where (λ never. absurd never) c.in_ok-event.ensures.reads), subst (λ (r : RingState). Gained c.args.ring.now r) (sym c.note.ensures) (one_more _ _ i.2))

pub returns-clause-awaits : goal.returns-clause-awaits
returns-clause-awaits g c _ =
    let l0 = g.L.Link.left c.args.link.now in
    let l1 = g.L.Link.left c.loop-allowed.link in
    await_end c.args.order l0 l1 most_events c.args.ring.now c.loop-allowed.ring (Err fault.EventFlood)
    (await_flood c.args.order l0 l1 most_events c.loop-allowed.allowed c.args.ring.now c.loop-allowed.ring c.loop-allowed.invariant.0 (omega arith))

-- the same fault of a call with another answer, in reverse
untag : {f f' : ConnFault} → (let r : Result ℕ ConnFault = Err f in r ≡ Err f') → (let r : Result Taken ConnFault = Err f in r ≡ Err f')
untag e = cc

pub returns-in_err-event-clause-reads : goal.returns-in_err-event-clause-reads
returns-in_err-event-clause-reads g c =
    let same : c.from_residual.result ≡ Err c.in_err-event.field-0.0 = search rules in
    read_on c.loop-allowed.invariant.1 (read_where (λ e. untag (sym same ∙ e)) c.in_err-event.ensures.reads)

pub returns-in-Other-clause-reads : goal.returns-in-Other-clause-reads
returns-in-Other-clause-reads g c = read_on c.loop-allowed.invariant.1 (read_where (λ e. cc) c.in_ok-event.ensures.reads)

pub returns-clause-reads : goal.returns-clause-reads
returns-clause-reads g c = read_where (λ e. cc) c.loop-allowed.invariant.1
