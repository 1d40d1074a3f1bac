use Rattle.std.proofs.Common.{◌≡◌, take, rules}
use Rattle.af_sound.specs.Written.{au_bytes}
use Rattle.af_sound.proofs.WrittenLemmas.{au_written}
use Rattle.af_sound.proofs.writer.write_au.Goals as goal

pub returns-clause-head : goal.returns-clause-head
unfolding au_bytes
returns-clause-head c =
    let bytes : take c.put_big.result c.put_big.new.out ≡ au_bytes c.args.head = search rules in
    au_written c.args.head _ bytes c.requires.writable c.put_big-at-4.ensures.low
