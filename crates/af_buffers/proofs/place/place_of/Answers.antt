use Rattle.std.proofs.Common.{◌<◌, ◌^◌, refl, rules}
use Rattle.af_buffers.proofs.PlaceLemmas.{ahead_of_now, before_now, is_late, not_late}
use Rattle.af_buffers.proofs.place.place_of.Goals as goal

pub returns-then-is_before : goal.returns-then-is_before
returns-then-is_before c =
    let word : c.args.now.0 < 2 ^ 32 = search rules in
    let word' : c.args.start.0 < 2 ^ 32 = search rules in
    before_now c.args.now.0 c.args.start.0 _ word word' (is_late c.args.now.0 c.args.start.0 c.is_before.result word word' c.is_before.ensures.whole c.if-is_before.true) refl

pub returns-else-is_before : goal.returns-else-is_before
returns-else-is_before c =
    let word : c.args.now.0 < 2 ^ 32 = search rules in
    let word' : c.args.start.0 < 2 ^ 32 = search rules in
    ahead_of_now c.args.now.0 c.args.start.0 _ word word' (not_late c.args.now.0 c.args.start.0 c.is_before.result word word' c.is_before.ensures.whole c.if-is_before.false) refl
