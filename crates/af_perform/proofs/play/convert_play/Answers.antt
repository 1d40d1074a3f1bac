use Rattle.std.proofs.Common.{◌≡◌, ◌*◌, ◌/◌, ◌∙◌, length, refl, sym, subst, rules}
use Rattle.af_sample.specs.SampleTypes.{width_of}
use Rattle.af_perform.proofs.LinkRequestLemmas.{kept_there}
use Rattle.af_perform.proofs.play.convert_play.Goals as goal

pub read_sound-requires-clause-whole : goal.read_sound-requires-clause-whole
read_sound-requires-clause-whole c =
    let here = kept_there c.args.shared.now.devices c.args.asked.now.context.device c.requires.there in
    (c.requires.whole here.0 here.1).samples

pub accept_or_defer-requires-clause-whole : goal.accept_or_defer-requires-clause-whole
accept_or_defer-requires-clause-whole c = λ d here.
    let p = c.args.asked.now in
    let long : length _ ≡ length p.bytes.now / width_of p.context.ty = (let all : length _ ≡ length p.bytes.now / c.width.result = search rules in all) ∙ subst (λ w. length p.bytes.now / c.width.result ≡ length p.bytes.now / w) c.width.ensures refl in
    subst (λ n. n ≡ d.next.channels * (n / d.next.channels)) (sym long) (c.requires.whole d here).frames
