use Rattle.af_sound.specs.Reading.{IsOpen}
use Rattle.af_unit_tests.proofs.tests.sound_files.read_head.Given as goal

abbrev pub invariant-loop-i : goal.invariant-loop-i
invariant-loop-i l = IsOpen l.reader
