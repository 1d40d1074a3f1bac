use Rattle.std.proofs.Common.{◌≡◌, ◌++◌, List, ℕ, codes, decimal, take, ap, ◌∙◌, rules}
use Rattle.af_standing.specs.List.{front_text, type_text}
use Rattle.af_standing.proofs.line.write_front.Goals as goal

pub returns-clause-bytes : goal.returns-clause-bytes
unfolding front_text
returns-clause-bytes c =
    let numbered : c.from.result ≡ c.args.number = search rules in
    let rated : c.from-2.result ≡ c.args.device.rate = search rules in
    let shaped : c.from-3.result ≡ c.args.device.channels = search rules in
    let timed : c.from-4.result ≡ c.args.now.0 = search rules in
    c.put_number.ensures.bytes ∙ ap (λ (n : ℕ). take c.put-at-4.result c.put-at-4.new.out ++ decimal n) timed
    ∙ ap (λ (l : List ℕ). l ++ decimal c.args.now.0) (c.put-at-4.ensures.bytes
    ∙ ap (λ (l : List ℕ). l ++ codes " ") (c.put_number-at-3.ensures.bytes ∙ ap (λ (n : ℕ). take c.put-at-3.result c.put-at-3.new.out ++ decimal n) shaped
    ∙ ap (λ (l : List ℕ). l ++ decimal c.args.device.channels) (c.put-at-3.ensures.bytes
    ∙ ap (λ (l : List ℕ). l ++ codes " ") (c.put_number-at-2.ensures.bytes ∙ ap (λ (n : ℕ). take c.put-at-2.result c.put-at-2.new.out ++ decimal n) rated
    ∙ ap (λ (l : List ℕ). l ++ decimal c.args.device.rate) (c.put-at-2.ensures.bytes
    ∙ ap (λ (l : List ℕ). l ++ codes " ") (c.put_type-at.ensures.bytes
    ∙ ap (λ (l : List ℕ). l ++ type_text c.args.device.ty) (c.put-at.ensures.bytes
    ∙ ap (λ (l : List ℕ). l ++ codes " ") (c.put_number-at.ensures.bytes ∙ ap (λ (n : ℕ). decimal n) numbered))))))))
