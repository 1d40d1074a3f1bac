use Rattle.std.proofs.Common.{rules, ◌++◌, sym, ap, ◌∙◌}
use Rattle.af_process.specs.Acts.{words_of}
use Rattle.af_config.proofs.CommandLineLemmas.{long_refused, many_refused, words_more, short_more, whole_more}
use Rattle.af_config.proofs.command_line.command_line_stated.Goals as goal
use Rattle.af_config.proofs.command_line.command_line_stated.Goals.{then-word-longest-via-then-word-longest, then-word-longest-via-else-word-longest+then-len-eq-MOST_WORDS}

pub returns-then-word-longest : goal.returns-then-word-longest
returns-then-word-longest c =
    let is = c.loop-word.invariant.whole ∙ ap (λ ws. words_of c.loop-word.command ++ ws) c.in-Some.ensures.split in
    elim c.then-word-longest.branch [
      | then-word-longest-via-then-word-longest w ↦ sym (long_refused c.args.longest _ _ _ _ is (search rules))
      | then-word-longest-via-else-word-longest+then-len-eq-MOST_WORDS w ↦ sym (many_refused c.args.longest _ c.loop-word.command _ _ is (search rules))
    ]

pub loop-word-preserved : goal.loop-word-preserved
loop-word-preserved c =
    let grown = words_more c.loop-word.command c.push.new.self c.copied.result c.in-Some.word.now c.push.ensures.items c.copied.ensures in
    let is = c.loop-word.invariant.whole ∙ ap (λ ws. words_of c.loop-word.command ++ ws) c.in-Some.ensures.split in
    record {
      text = (c.in-Some.ensures.text c.loop-word.invariant.text).1;
      whole = whole_more _ _ _ _ _ grown is;
      short = short_more c.args.longest _ _ _ grown c.loop-word.invariant.short (search rules);
    }
