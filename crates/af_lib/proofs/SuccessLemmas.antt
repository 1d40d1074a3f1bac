-- Calls that get their reply, and what each call leaves.
use Rattle.std.proofs.Common.{◌≡◌, ℕ, List, arith, refl, sym, subst, IsOk, IsSome, Option, None, Some, Result, Err}
use Rattle.af_io.specs.Observed.{CountsFault}
use Rattle.af_request.specs.Asked.{Asked}
use Rattle.af_request.specs.Answer.{Answer}
use Rattle.af_lib.specs.declared.fault.Cause.{Cause}
use Rattle.af_lib.specs.declared.fault.ConnFault.{ConnFault}
use Rattle.af_lib.specs.declared.fault.ConnFault.TheVariants as fault
use Rattle.af_lib.specs.Calls.{Called, ConnState, IsOkWhereAwaited}
use Rattle.af_lib.proofs.LinkByteLemmas.{BothTold-map}

-- if the count of faults did not rise, the link did not fail, and the answer is that of the messages
pub calls_succeed : {L X : Type 0} (left sent : L → Option (List ℕ)) (faults : L → ℕ) (value_of : Answer → Option X) → IsOkWhereAwaited left sent faults value_of
calls_succeed left sent faults value_of asked old new answer called usable still =
    let e = called.exchanged usable in
    BothTold-map (left old.link) (left new.link) _ _ (e.answers (λ f. still (e.failed f)))
    (λ b a t good. subst IsOk (sym t.0) good)

-- On every connection, also one that can no longer be used: bytes that are observable stay so, and a call that answers LinkFault
-- has met a fault of the link.
module _ {L X : Type 0} {left sent : L → Option (List ℕ)} {faults : L → ℕ} {asked : Asked} {value_of : Answer → Option X} {old new : ConnState L} {result : Result X ConnFault}
    (called : Called left sent faults asked value_of old new result) where
  leaves : (cause : Option Cause) → old.cause ≡ cause → (IsSome (left old.link) → IsSome (left new.link)) × CountsFault (result ≡ Err fault.LinkFault) (faults old.link) (faults new.link)
  leaves None usable = let e = called.exchanged usable in (e.tells, (e.count, e.failed))
  leaves (Some first) spent =
      let same = called.untouched (rw spent refl) in
      (λ told. rw same told, (rw same (omega arith), λ failed. cc (failed, (called.spent first).1 spent)))

  pub call_leaves : (IsSome (left old.link) → IsSome (left new.link)) × CountsFault (result ≡ Err fault.LinkFault) (faults old.link) (faults new.link)
  call_leaves = leaves old.cause refl
