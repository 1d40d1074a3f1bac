use Rattle.std.proofs.Common.{◌≡◌, ◌+◌, suc, ◌∷◌, take, drop, sym, ap, ◌∙◌, arith}
use Rattle.std.proofs.lemmas.List.{take_rest, take_all, drop_all}
use Rattle.af_text.specs.Lines.{lines}
use Rattle.af_text.proofs.LineSplitLemmas.{lines_first}
use Rattle.af_text.proofs.lines.next_line.Goals as goal

pub returns-then-end-text-clause-lines : goal.returns-then-end-text-clause-lines
returns-then-end-text-clause-lines c =
    let text = c.args.text.now in
    let end = c.count_before-end.result in
    let one : suc end ≡ end + 1 = omega arith in
    lines_first text c.requires
    ∙ ap (λ n. take n text ∷ lines (drop (suc n) text)) (sym c.count_before-end.ensures.value)
    ∙ ap (λ rest. take end text ∷ lines rest) (ap (λ n. drop n text) one ∙ sym (take_rest text (end + 1)))

pub returns-else-end-text-clause-lines : goal.returns-else-end-text-clause-lines
returns-else-end-text-clause-lines c =
    let text = c.args.text.now in
    let end = c.count_before-end.result in
    lines_first text c.requires
    ∙ ap (λ n. take n text ∷ lines (drop (suc n) text)) (sym c.count_before-end.ensures.value)
    ∙ ap (λ line. line ∷ lines (drop (suc end) text)) (take_all end text (omega (arith, c.if-end-text.false)))
    ∙ ap (λ rest. text ∷ lines rest) (drop_all (suc end) text (omega (arith, c.if-end-text.false)))
