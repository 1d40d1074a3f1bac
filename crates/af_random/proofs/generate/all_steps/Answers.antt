use Rattle.std.proofs.Common.{◌≡◌, ◌+◌, ◌-◌, ◌%◌, ◌^◌, suc, sym, ap, ◌∙◌, arith}
use Rattle.af_random.specs.Exercise.{generator_after}
use Rattle.af_random.proofs.GeneratedScriptLemmas.{whole_start, start_fit, turn_less, words_drawn, fit_more, no_turn_left}
use Rattle.af_random.proofs.generate.all_steps.Goals as goal

pub loop-turn-init : goal.loop-turn-init
loop-turn-init c = record {
  same = whole_start _ _ (c.args.turns - 0) c.args.turns _ _ _ c.in_ok-steps.ensures (omega arith) c.seeded-generator.ensures;
  fit = start_fit _ c.in_ok-steps.ensures;
}

pub loop-turn-preserved : goal.loop-turn-preserved
loop-turn-preserved c =
    let turns : c.args.turns - c.loop-turn.turn ≡ suc (c.args.turns - (c.loop-turn.turn + 1)) = omega arith in
    record {
      same =
          turn_less c.loop-turn.steps.items c.push.new.self.items _ _ c.loop-turn.generator c.draw-y.new.generator c.loop-turn.time.0 c.after-time.result.0 c.in_ok-step.step
          c.in_ok-push.ensures.items turns
          (words_drawn c.in_ok-step.step c.draw-x.result c.draw-y.result c.loop-turn.generator c.draw-x.new.generator c.loop-turn.time.0 c.in_ok-step.ensures.value c.draw-x.ensures.value c.draw-y.ensures.value c.draw-x.ensures.after)
          (c.draw-y.ensures.after ∙ ap generator_after c.draw-x.ensures.after)
          (c.after-time.ensures ∙ ap (λ n. (c.loop-turn.time.0 + n) % 2 ^ 32) c.frames_ticked.ensures)
          ∙ c.loop-turn.invariant.same;
      fit = fit_more c.loop-turn.steps.items c.push.new.self.items c.in_ok-step.step c.in_ok-push.ensures.items c.loop-turn.invariant.fit c.in_ok-step.ensures.fits;
    }

pub returns-clause-value : goal.returns-clause-value
returns-clause-value c =
    sym (no_turn_left c.loop-turn.steps.items (c.args.turns - c.loop-turn.turn) c.loop-turn.generator c.loop-turn.time.0 (omega arith)) ∙ c.loop-turn.invariant.same
