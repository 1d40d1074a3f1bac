use Rattle.std.proofs.Common.{rules, length, ap, ◌∙◌, arith}
use Rattle.af_io.proofs.AppendedLemmas.{stays_stays, appended_by_none}
use Rattle.afd_serve.proofs.StartLemmas.{attached_more, attached_all, attached_in_part, stated_at}
use Rattle.afd_serve.proofs.start.attach_devices.Goals as goal

pub returns-in-OutOfMemory-clause-some : goal.returns-in-OutOfMemory-clause-some
returns-in-OutOfMemory-clause-some g c =
    attached_in_part c.args.setting.now _ _ c.loop-number.number (appended_by_none _ _ _ _ c.loop-number.invariant.below c.in-OutOfMemory.ensures.lifecycle)

pub loop-number-preserved : goal.loop-number-preserved
loop-number-preserved g c =
    let below = c.loop-number.invariant.below in
    let same = c.as_slice-config.ensures.value ∙ c.config.ensures.config in
    record {
      log = stays_stays _ _ _ c.loop-number.invariant.log c.attach.ensures.log;
      below = attached_more c.args.setting.now _ _ c.loop-number.number below _ _ _ (stated_at _ _ c.loop-number.number _ same c.loop-number-test.true) c.kind.ensures c.in-Done.ensures.lifecycle;
      world = search rules;
    }

pub returns-clause-all : goal.returns-clause-all
returns-clause-all g c =
    let all = ap length (c.as_slice-config.ensures.value ∙ c.config.ensures.config) in
    let end = c.loop-number-test.false in
    attached_all c.args.setting.now _ _ c.loop-number.number c.loop-number.invariant.below (omega (arith, all, end))
