use Rattle.std.proofs.Common.{ap, ◌∙◌}
use Rattle.af_codec.proofs.EmitLemmas.{Feeds-made, IsFed-on, IsFed-starts}
use Rattle.af_codec.proofs.RunLemmas.{IsFed-once}
use Rattle.af_codec.proofs.codec.Codec.emit.Goals as goal

pub start-requires-clause-left : goal.start-requires-clause-left
start-requires-clause-left g c = IsFed-starts _ _ _ _ c.self.invariant

pub invariant_of-self : goal.invariant_of-self
invariant_of-self g c =
    IsFed-on _ _ _ _ _ _ _ _ (ap (λ s. s.feeding.failed) c.self.view_is ∙ c.requires.live) c.self.invariant
    (Feeds-made _ _ _ _ _ _ _ _ _ _ c.note.ensures.acts c.start.ensures.starts c.give.ensures.gives c.answer.ensures.answer) c.give.ensures.runs

pub returns-clause-feeds : goal.returns-clause-feeds
returns-clause-feeds g c =
    rw (← c.self.view_is) (Feeds-made _ _ _ _ _ _ _ _ _ _ c.note.ensures.acts c.start.ensures.starts c.give.ensures.gives c.answer.ensures.answer)

pub returns-clause-all : goal.returns-clause-all
returns-clause-all g c = invariant_of-self g c

pub returns-clause-starts : goal.returns-clause-starts
returns-clause-starts g c = (IsFed-starts _ _ _ _ (invariant_of-self g c)).within

pub returns-clause-once : goal.returns-clause-once
returns-clause-once g c = IsFed-once _ _ _ _ (invariant_of-self g c)
