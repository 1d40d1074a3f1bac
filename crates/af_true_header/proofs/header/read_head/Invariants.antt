use Rattle.std.proofs.Common.{take}
use Rattle.af_sound.specs.Reading.{HasTaken, IsOpen}
use Rattle.af_true_header.proofs.header.read_head.Given as goal

abbrev pub invariant-loop-byte : goal.invariant-loop-byte
invariant-loop-byte l = record {
  opens : IsOpen l.reader;
  taken : HasTaken l.reader l.fn.form (take l.byte-index l.piece);
}
