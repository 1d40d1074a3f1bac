use Rattle.std.proofs.Common.{◌≡◌, ◌≤◌, ◌++◌, length, take, map}
use Rattle.af_limits.specs.Limits.{longest_frame}
use Rattle.af_world.specs.declared.script.Step.TheVariants as step
use Rattle.af_random.specs.Exercise.{links, greeting}
use Rattle.af_random.proofs.generate.greetings.Given as goal

abbrev pub invariant-loop-link : goal.invariant-loop-link
invariant-loop-link l = l.steps.items ≡ map step.Open (take l.link-index links)

abbrev pub invariant-loop-link-2 : goal.invariant-loop-link-2
invariant-loop-link-2 l = record {
  same : l.steps.items ≡ map step.Open links ++ map (λ k. step.Send k (greeting k)) (take l.link-index links);
  room : longest_frame ≤ length l.room;
}
