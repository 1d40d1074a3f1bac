use Rattle.std.proofs.Common.{◌<◌, ◌∙◌, ap, length, set, arith}
use Rattle.std.proofs.lemmas.List.{get_or_default}
use Rattle.std.proofs.lemmas.List.Edits.{map_over_more}
use Rattle.af_wait.specs.declared.Wait.{Wait}
use Rattle.af_wait.specs.Waits.{wait_after_frames}
use Rattle.af_wait.proofs.list.pass_all.Goals as goal

pub loop-wait-preserved : goal.loop-wait-preserved
loop-wait-preserved c =
    let blank : Wait = record { link = 0; device = 0; left = 0 } in
    let i = c.loop-wait.wait-index in
    let within : i < length c.loop-wait.waits = omega arith in
    ap (set c.loop-wait.waits i) c.pass_one.ensures
    ∙ map_over_more (wait_after_frames c.args.device c.args.n) c.args.waits.now c.loop-wait.waits i _ (omega arith)
    c.loop-wait.invariant (get_or_default c.loop-wait.waits i blank _ within)
