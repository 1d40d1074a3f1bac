use Rattle.std.proofs.Common.{◌≡◌, take, rules}
use Rattle.af_sound.specs.Written.{wave_bytes}
use Rattle.af_sound.proofs.WrittenLemmas.{wave_written}
use Rattle.af_sound.proofs.writer.write_wave.Goals as goal

pub returns-clause-head : goal.returns-clause-head
unfolding wave_bytes
returns-clause-head c =
    let bytes : take c.put_little.result c.put_little.new.out ≡ wave_bytes c.args.head = search rules in
    wave_written c.args.head _ bytes c.requires.writable c.put_format-at.ensures.low
