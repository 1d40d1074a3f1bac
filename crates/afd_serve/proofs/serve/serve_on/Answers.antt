use Rattle.std.proofs.Common.{rules, ◌≡◌, ◌+◌, arith}
use Rattle.std.specs.declared.option.Option.TheVariants.{None}
use Rattle.afd_serve.proofs.ServeRoundLemmas.{runs_start, runs_more, runs_ended}
use Rattle.afd_serve.proofs.serve.serve_on.Goals as goal

pub loop-init : goal.loop-init
loop-init g c = record {
  runs = λ config stands. (0, runs_start config _ _ _ stands);
  world = search rules;
}

pub returns-in-Some-clause-served : goal.returns-in-Some-clause-served
returns-in-Some-clause-served g c = λ config stands.
    let runs = c.loop.invariant.runs config stands in
    runs_ended config _ _ _ _ _ _ _ _ _ _ runs.1 tt c.in-Some.ensures.log c.in-Some.ensures.end

pub loop-preserved : goal.loop-preserved
loop-preserved g c =
    let none : c.serve_once.result ≡ None = search rules in
    let took = c.serve_once.ensures.turn none in
    record {
      runs = λ config stands.
          let runs = c.loop.invariant.runs config stands in
          (runs.0 + 1, runs_more config _ _ _ _ _ _ _ _ _ runs.1 took);
      world =
          let before = c.loop.invariant.world in
          let here = c.serve_once.ensures.world in
          record {
            links = omega (arith, before.links, here.links);
            devices = omega (arith, before.devices, here.devices);
            attach = λ d h. absurd h;
            listen = (omega (arith, before.listen.0, here.listen.0), λ h. absurd h);
            wait = (omega (arith, before.wait.0, here.wait.0), λ h. absurd h);
          };
    }
