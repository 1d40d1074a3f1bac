use Rattle.std.proofs.Common.{rules, ◌≡◌, false, is_some}
use Rattle.af_live.proofs.StreamsLemmas.{listened_own}
use Rattle.af_live.proofs.mio_world.begin_to_listen.Goals as goal

pub returns-in-Ok-clause-own : goal.returns-in-Ok-clause-own
returns-in-Ok-clause-own g c =
    let none : is_some c.args.sockets.now ≡ false = search rules in
    λ links own. listened_own c.args.sockets.now c.in-Ok.made links none own
