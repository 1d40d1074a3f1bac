use Rattle.std.proofs.Common.{◌≡◌, ◌+◌, subst, arith}
use Rattle.af_buffers.specs.PlayBuffer.{PlayWindow, frames_within}
use Rattle.af_buffers.proofs.play.PlayBuffer.frames_within.Goals as goal

pub returns-in-Before : goal.returns-in-Before
returns-in-Before c =
    let late = c.in-Before.ensures.0 in
    subst (λ (v : PlayWindow). c.self.inside.horizon + c.in-Before.late ≡ frames_within v c.args.start.0) c.self.view_is (omega (arith, late))

pub returns-in-Ahead : goal.returns-in-Ahead
returns-in-Ahead c =
    let far = c.in-Ahead.ensures.0 in
    let left = c.saturating_sub.ensures in
    subst (λ (v : PlayWindow). c.saturating_sub.result ≡ frames_within v c.args.start.0) c.self.view_is (omega (arith, far))
