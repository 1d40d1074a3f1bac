use Rattle.std.proofs.Common.{refl, sym, ap, subst, ◌∙◌}
use Rattle.af_live.specs.declared.sockets.Sockets.{Sockets}
use Rattle.af_live.specs.Polls.{TakesAll, takes_none, takes_one}
use Rattle.af_live.proofs.sockets.Sockets.accept_all.Goals.{in-Ok, in-Err+in-Interrupted}
use Rattle.af_live.proofs.sockets.Sockets.accept_all.Goals as goal

pub loop-init : goal.loop-init
loop-init c = (takes_none, refl, refl)

pub loop-preserved : goal.loop-preserved
loop-preserved c = elim c.match-accept.branch [
  | in-Ok w ↦ (
    subst (λ (s : Sockets). TakesAll c.args.self.now.streams c.args.links.now s.streams c.match-accept.links) (sym w.self-is)
        (subst (λ ls. TakesAll c.args.self.now.streams c.args.links.now w.take_in.new.self.streams ls) (sym w.links-is)
        (takes_one c.loop.self.streams w.take_in.new.self.streams c.loop.links w.take_in.new.links c.loop.invariant.0 w.take_in.ensures.takes)),
    ap (λ (s : Sockets). s.pause) w.self-is ∙ w.take_in.ensures.pause ∙ c.loop.invariant.1,
    ap (λ (s : Sockets). s.events) w.self-is ∙ w.take_in.ensures.events ∙ c.loop.invariant.2,
  )
  | in-Err+in-Interrupted w ↦ (
    subst (λ (s : Sockets). TakesAll c.args.self.now.streams c.args.links.now s.streams c.match-accept.links) (sym w.self-is)
        (subst (λ ls. TakesAll c.args.self.now.streams c.args.links.now c.loop.self.streams ls) (sym w.links-is) c.loop.invariant.0),
    ap (λ (s : Sockets). s.pause) w.self-is ∙ c.loop.invariant.1,
    ap (λ (s : Sockets). s.events) w.self-is ∙ c.loop.invariant.2,
  )
]
