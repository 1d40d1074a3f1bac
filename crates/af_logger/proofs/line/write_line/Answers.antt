use Rattle.std.proofs.Common.{rules, arith, ◌≡◌, ◌++◌, ◌∙◌, ◌-◌, List, ℕ, codes, decimal, ap}
use Rattle.af_logger.specs.Pieces.{line_text}
use Rattle.af_logger.proofs.line.write_line.Goals as goal

-- a text, and a number after it
number_after : {front before after : List ℕ} {n m : ℕ} → after ≡ before ++ decimal n → n ≡ m → before ≡ front → after ≡ front ++ decimal m
number_after {front} {before} {n = n} {m} is same first = is ∙ ap (λ (l : List ℕ). l ++ decimal n) first ∙ ap (λ (k : ℕ). front ++ decimal k) same

-- and another text
text_after : {front before after : List ℕ} (text : List ℕ) → after ≡ before ++ text → before ≡ front → after ≡ front ++ text
text_after text is first = is ∙ ap (λ (l : List ℕ). l ++ text) first

pub returns-clause-bytes : goal.returns-clause-bytes
unfolding line_text
returns-clause-bytes c =
    let piece = c.args.piece.now in
    let at : c.from.result ≡ piece.at.0 = search rules in
    let handed : c.from-2.result ≡ piece.handed = search rules in
    let lost : c.from-3.result ≡ piece.lost = search rules in
    let same : c.from-4.result ≡ c.dropped.result = search rules in
    let rest = c.dropped.ensures in
    let dropped : c.from-4.result ≡ piece.recorded - piece.handed = omega (arith, same, rest) in
    let status : c.from-5.result ≡ c.args.status = search rules in
    let number : piece.number ≡ piece.number = omega arith in
    text_after (codes "\n") c.put.ensures.bytes
    (number_after c.put_number-at-6.ensures.bytes status
    (text_after (codes " status ") c.put-at-6.ensures.bytes
    (number_after c.put_number-at-5.ensures.bytes dropped
    (text_after (codes " dropped ") c.put-at-5.ensures.bytes
    (number_after c.put_number-at-4.ensures.bytes lost
    (text_after (codes " lost ") c.put-at-4.ensures.bytes
    (number_after c.put_number-at-3.ensures.bytes handed
    (text_after (codes " frames ") c.put-at-3.ensures.bytes
    (number_after c.put_number-at-2.ensures.bytes at
    (text_after (codes " at ") c.put-at-2.ensures.bytes
    (number_after c.put_number-at.ensures.bytes number c.put-at.ensures.bytes)))))))))))
