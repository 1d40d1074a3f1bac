use Rattle.std.proofs.Common.{◌≡◌, ◌+◌, subst, arith}
use Rattle.af_buffers.specs.RecordBuffer.{RecordWindow, frames_until_past}
use Rattle.af_buffers.proofs.record.RecordBuffer.frames_beyond.Goals as goal

pub returns-in-Before : goal.returns-in-Before
returns-in-Before c =
    let late = c.in-Before.ensures.0 in
    let left = c.saturating_sub.ensures in
    subst (λ (v : RecordWindow). c.saturating_sub.result ≡ frames_until_past v c.args.start.0 c.args.frames) c.self.view_is (omega (arith, late))

pub returns-in-Ahead : goal.returns-in-Ahead
returns-in-Ahead c =
    let far = c.in-Ahead.ensures.0 in
    subst (λ (v : RecordWindow). c.in-Ahead.far + c.args.frames ≡ frames_until_past v c.args.start.0 c.args.frames) c.self.view_is (omega (arith, far))
