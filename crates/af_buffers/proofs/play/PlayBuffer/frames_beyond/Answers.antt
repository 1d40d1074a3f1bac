use Rattle.std.proofs.Common.{◌≡◌, subst, arith}
use Rattle.af_buffers.specs.PlayBuffer.{PlayWindow, frames_beyond}
use Rattle.af_buffers.proofs.HorizonLemmas.{horizon_within}
use Rattle.af_buffers.proofs.play.PlayBuffer.frames_beyond.Goals as goal

pub returns-in-Before : goal.returns-in-Before
returns-in-Before c =
    let late = c.in-Before.ensures.0 in
    let listed = horizon_within c.self.inside.horizon c.self.invariant.horizon in
    let enough = listed.0 in
    let few = c.requires in
    subst (λ (v : PlayWindow). 0 ≡ frames_beyond v c.args.start.0 c.args.frames) c.self.view_is (omega (arith, late))

pub returns-in-Ahead : goal.returns-in-Ahead
returns-in-Ahead c =
    let far = c.in-Ahead.ensures.0 in
    let left = c.saturating_sub.ensures in
    subst (λ (v : PlayWindow). c.saturating_sub.result ≡ frames_beyond v c.args.start.0 c.args.frames) c.self.view_is (omega (arith, far))
