use Rattle.std.proofs.Common.{arith}
use Rattle.std.proofs.lemmas.Bool.{false≢true}
use Rattle.af_backend.proofs.devices.Devices.attach.Goals.{then-place-ge8-via-then-place-ge8, then-place-ge8-via-else-place-ge8+then-is_attached}
use Rattle.af_backend.proofs.devices.Devices.attach.Goals as goal

pub returns-then-place-ge8-clause-done : goal.returns-then-place-ge8-clause-done
returns-then-place-ge8-clause-done g c = λ below paced allowed opens.
    let never : ⊥ = elim c.then-place-ge8.branch [
      | then-place-ge8-via-then-place-ge8 w ↦ omega arith
      | then-place-ge8-via-else-place-ge8+then-is_attached w ↦ cc
    ] in
    absurd never

pub returns-in-Err-clause-done : goal.returns-in-Err-clause-done
returns-in-Err-clause-done g c = λ below paced allowed opens. absurd (false≢true (c.in-Err.ensures.done opens))

pub returns-in-Err-2-clause-done : goal.returns-in-Err-2-clause-done
returns-in-Err-2-clause-done g c = λ below paced allowed opens. absurd (false≢true (c.in-Err-2.ensures.done opens))
