use Rattle.af_text.proofs.lines.two_words.Goals as goal

pub returns-clause-text : goal.returns-clause-text
returns-clause-text c = λ u. let both = c.in_ok-first.ensures.text u in (both.0, c.in_ok-second.ensures.text both.1)
