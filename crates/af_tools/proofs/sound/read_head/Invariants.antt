use Rattle.std.proofs.Common.{◌≡◌, ◌≤◌, ◌+◌, ◌-◌, ◌^◌, length}
use Rattle.af_sound.specs.Reading.{IsOpen}
use Rattle.af_tools.proofs.HeadReadLemmas.{HasRead}
use Rattle.af_tools.proofs.sound.read_head.Given as goal

abbrev pub invariant-loop-size : goal.invariant-loop-size
invariant-loop-size g l = record {
  opens : IsOpen l.reader;
  one : length l.byte ≡ 1;
  permitted : l.size ≤ 2 ^ 40;
  count : g.S.Source.faults l.initial.source ≤ g.S.Source.faults l.source;
  read : HasRead l.fn.form l.reader l.size (g.S.Source.left l.initial.source) (g.S.Source.left l.source);
}

abbrev pub decreases-loop-size : goal.decreases-loop-size
decreases-loop-size g l = 2 ^ 40 + 1 - l.size
