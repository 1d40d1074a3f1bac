use Rattle.std.proofs.Common.{◌≡◌, ◌+◌, ◌≤◌, length}
use Rattle.af_text.specs.Lines.{lines}
use Rattle.af_text.specs.Reading.{read_on}
use Rattle.af_text.proofs.reading.read_lines.Given as goal

abbrev pub invariant-loop-rest : goal.invariant-loop-rest
invariant-loop-rest g l = record {
  same : read_on g.R.LineParser.with_line g.R.LineParser.wants l.read l.number (lines l.rest) ≡ read_on g.R.LineParser.with_line g.R.LineParser.wants l.initial.read 1 (lines l.text);
  count : l.number + length l.rest ≤ 1 + length l.text;
  kept : g.R.LineParser.keeps l.initial.read → g.R.LineParser.keeps l.read;
}

abbrev pub decreases-loop-rest : goal.decreases-loop-rest
decreases-loop-rest g l = length l.rest
