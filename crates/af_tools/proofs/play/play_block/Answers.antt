use Rattle.std.proofs.Common.{rules, arith, ◌≡◌, ◌≤◌, ◌∙◌, length, drop, ap, length-take-le, Option, Some}
use Rattle.std.proofs.lemmas.List.{take_at}
use Rattle.af_sound.specs.declared.head.Coding.{Coding}
use Rattle.af_tools.specs.Sounds.{as_served}
use Rattle.af_tools.proofs.play.play_block.Goals as goal

pub returns-in-Some-clause-goes : goal.returns-in-Some-clause-goes
returns-in-Some-clause-goes g c held =
    let size = c.served_size-size.result in
    let out = c.to_server.new.out in
    let fits : size ≤ length c.args.room.now = search rules in
    let long : length out ≡ size = omega (arith, length-take-le size c.args.room.now fits) in
    let is : Some c.in-Some.coding ≡ c.args.turn.coding = search rules in
    let same = take_at out (drop size c.args.room.now) size long ∙ c.to_server.ensures ∙ ap (λ (o : Option Coding). as_served o c.args.block.now) is in
    rw same at (c.play_samples-in-Some.ensures.goes held)
