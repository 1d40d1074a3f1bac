use Rattle.std.proofs.Common.{◌≡◌, subst, arith}
use Rattle.af_buffers.specs.RecordBuffer.{RecordWindow, frames_before}
use Rattle.af_buffers.proofs.record.RecordBuffer.frames_before.Goals as goal

pub returns-in-Before : goal.returns-in-Before
returns-in-Before c =
    let late = c.in-Before.ensures.0 in
    subst (λ (v : RecordWindow). c.in-Before.frames ≡ frames_before v c.args.start.0) c.self.view_is (omega (arith, late))

pub returns-in-Ahead : goal.returns-in-Ahead
returns-in-Ahead c =
    let far = c.in-Ahead.ensures.0 in
    subst (λ (v : RecordWindow). 0 ≡ frames_before v c.args.start.0) c.self.view_is (omega (arith, far))
