use Rattle.std.proofs.Common.{ap, sym, subst, true, ◌≡◌, ◌∙◌}
use Rattle.af_card.specs.Between.{BetweenState, hands_frames}
use Rattle.af_card.proofs.PassingLemmas.{frames-running, hands-frames, runs-still}
use Rattle.af_card.proofs.between.Between.emit.Goals as goal

pub returns-in-Some-2-clause-hands : goal.returns-in-Some-2-clause-hands
returns-in-Some-2-clause-hands g c =
    let is = ap (λ (b : BetweenState). b.running) (sym c.self.view_is) ∙ c.in-Some-2.is in
    let frames = subst (λ (b : BetweenState). hands_frames b.shape.kind ≡ true) c.self.view_is (sym c.hands_frames.ensures ∙ c.if-hands_frames.true) in
    frames-running c.args.self.now c.pass.new.self c.in-Some-2.field-0 c.args.at c.args.sound.now _ _ is frames
    (hands-frames c.args.self.now c.give_owed-in-Some-2.new.self c.pass.new.self c.args.at c.args.sound.now _ _ _ c.give_owed-in-Some-2.ensures.gives
    (c.pass.ensures.passes (runs-still c.args.self.now c.give_owed-in-Some-2.new.self c.in-Some-2.field-0 is c.give_owed-in-Some-2.ensures.keeps.runs)))
