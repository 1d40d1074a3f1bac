use Rattle.std.proofs.Common.{rules, arith, ◌≡◌, refl, ◌∙◌}
use Rattle.af_toolkit.proofs.PartLemmas.{goes_stop, goes_value, reached_goes, reached_here, reached_on}
use Rattle.af_relay.proofs.RelayPartLemmas.{is_relay, passes_next}
use Rattle.af_relay.proofs.pass.pass_blocks.Goals as goal

pub loop-left-init : goal.loop-left-init
loop-left-init g c = record {
  usable_from = c.requires.usable.0;
  usable_to = c.requires.usable.1;
  tells_from = λ told. told;
  tells_to = λ told. told;
  count_from = omega arith;
  count_to = omega arith;
  size = refl;
  few = omega arith;
  passing = rw c.block_count-left.ensures (reached_here is_relay);
}

pub returns-in_err-passed-clause-goes : goal.returns-in_err-passed-clause-goes
returns-in_err-passed-clause-goes g c =
    reached_goes is_relay _ c.loop-left.invariant.passing
    (rw (passes_next c.loop-left.left c.args.plan.now.job c.args.plan.now.pace c.loop-left.passed (omega arith)) (goes_stop is_relay _ (search rules) c.in_err-passed.ensures.goes))

pub loop-left-preserved : goal.loop-left-preserved
loop-left-preserved g c =
    let i = c.loop-left.invariant in
    let few = i.few in
    let e = c.in_ok-passed.ensures in
    let more = e.few in
    record {
      usable_from = e.holds.usable_from refl;
      usable_to = e.holds.usable_to refl;
      tells_from = λ t. e.holds.tells_from (i.tells_from t);
      tells_to = λ t. e.holds.tells_to (i.tells_to t);
      count_from = omega (arith, e.holds.counts.0, i.count_from);
      count_to = omega (arith, e.holds.counts.1, i.count_to);
      size = e.size ∙ i.size;
      few = omega arith;
      passing = reached_on is_relay _ (rw (passes_next c.loop-left.left c.args.plan.now.job c.args.plan.now.pace c.loop-left.passed (omega arith)) at i.passing) e.goes;
    }

pub returns-clause-goes : goal.returns-clause-goes
returns-clause-goes g c =
    let none : c.loop-left.left ≡ 0 = omega arith in
    reached_goes is_relay _ c.loop-left.invariant.passing (rw none (goes_value is_relay _))
