use Rattle.std.proofs.Common.{rules, ◌≡◌, ◌≤◌, ◌∙◌, ◌∷◌, Option, List, subst, arith}
use Rattle.af_io.specs.declared.dial.Dialed.{Dialed}
use Rattle.af_io.specs.declared.dial.Dialed.TheVariants as dialed
use Rattle.af_io.specs.Dial.{GivesNext, ToldLink}
use Rattle.af_io.specs.Observed.{FaultCounted}
use Rattle.af_patience.specs.Tried.{Tried}
use Rattle.af_patience.proofs.dial.PatientDialDial.dial.Goals as goal
use Rattle.af_patience.proofs.dial.PatientDialDial.dial.Goals.{in-Failed, in_default}

pub loop-preserved : goal.loop-preserved
loop-preserved g c =
    let failed : c.loop.answer ≡ dialed.Failed = elim c.match-matches.branch [ in-Failed w ↦ search rules | in_default w ↦ search rules ] in
    let now = c.dial-answer-in-loop.ensures in
    let so_far = c.loop.invariant in
    let same : g.D.Dial.links c.loop.self.dial ≡ g.D.Dial.links c.args.self.now.dial =
    subst (λ (a : Dialed _). GivesNext g.D.Far.Link.left g.D.Far.Link.sent a (g.D.Dial.links c.args.self.now.dial) (g.D.Dial.links c.loop.self.dial)) failed so_far.gives in
    let tried = subst (λ (a : Dialed _). Tried g.D.Dial.dials c.args.address.now a c.args.self.now.dial c.loop.self.dial) failed so_far.step in
    let counted = so_far.count in
    let more = now.count in
    let first : FaultCounted (g.D.Dial.faults c.args.self.now.dial) (g.D.Dial.faults c.loop.self.dial) = so_far.cause failed in
    record {
      count = omega arith;
      cause = λ _. omega arith;
      fresh = now.fresh;
      hurt = now.hurt ∙ so_far.hurt;
      back = now.back ∙ so_far.back;
      gives = subst (λ (links : Option (List ToldLink)). GivesNext g.D.Far.Link.left g.D.Far.Link.sent c.dial-answer-in-loop.result links (g.D.Dial.links c.dial-answer-in-loop.new.self)) same now.gives;
      step = record { earlier = tried.before ∷ tried.earlier; before = c.loop.self.dial; failed = (tried.answered, tried.failed); answered = now.step };
    }
