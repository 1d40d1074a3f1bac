use Rattle.std.proofs.Common.{rules, ◌≡◌, arith}
use Rattle.std.specs.declared.option.Option.TheVariants.{None}
use Rattle.afd_serve.proofs.ServeRoundLemmas.{runs_start, runs_more, runs_ended, runs_spent}
use Rattle.afd_serve.proofs.serve.serve_times.Goals as goal

pub loop-number-init : goal.loop-number-init
loop-number-init g c = record {
  runs = λ config stands. runs_start config _ _ _ stands;
  world = search rules;
}

pub returns-in-Some-clause-served : goal.returns-in-Some-clause-served
returns-in-Some-clause-served g c = λ config stands.
    let runs = c.loop-number.invariant.runs config stands in
    runs_ended config _ _ _ _ _ _ _ _ _ _ runs c.loop-number-test.true c.in-Some.ensures.log c.in-Some.ensures.end

pub loop-number-preserved : goal.loop-number-preserved
loop-number-preserved g c =
    let none : c.serve_once.result ≡ None = search rules in
    let took = c.serve_once.ensures.turn none in
    record {
      runs = λ config stands. runs_more config _ _ _ _ _ _ _ _ _ (c.loop-number.invariant.runs config stands) took;
      world =
          let before = c.loop-number.invariant.world in
          let here = c.serve_once.ensures.world in
          record {
            links = omega (arith, before.links, here.links);
            devices = omega (arith, before.devices, here.devices);
            attach = λ d h. absurd h;
            listen = (omega (arith, before.listen.0, here.listen.0), λ h. absurd h);
            wait = (omega (arith, before.wait.0, here.wait.0), λ h. absurd h);
          };
    }

pub returns-clause-served : goal.returns-clause-served
returns-clause-served g c =
    let end = c.loop-number.auto._number-end in
    let none = c.loop-number-test.false in
    let all : c.loop-number._number ≡ c.args.waits = omega (arith, end, none) in
    λ config stands. runs_spent config _ _ _ _ _ _ _ (c.loop-number.invariant.runs config stands) all
