use Rattle.std.proofs.Common.{◌≡◌, ◌++◌, length, true}
use Rattle.std.specs.Str.{IsUtf8}
use Rattle.af_process.specs.Acts.{words_of}
use Rattle.af_text.specs.Lines.{words}
use Rattle.af_config.specs.Stating.{are_short}
use Rattle.af_config.proofs.command_line.command_line_stated.Given as goal

abbrev pub invariant-loop-word : goal.invariant-loop-word
invariant-loop-word l = record {
  text : IsUtf8 l.rest;
  whole : words l.line ≡ words_of l.command ++ words l.rest;
  short : are_short l.longest (words_of l.command) ≡ true;
}

abbrev pub decreases-loop-word : goal.decreases-loop-word
decreases-loop-word l = length (words l.rest)
