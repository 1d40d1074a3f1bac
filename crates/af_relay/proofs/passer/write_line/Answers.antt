use Rattle.std.proofs.Common.{◌≡◌, ◌++◌, List, ℕ, codes, decimal, take, ap, ◌∙◌}
use Rattle.af_relay.specs.Pass.{passed_text}
use Rattle.af_relay.proofs.passer.write_line.Goals as goal

pub returns-clause-bytes : goal.returns-clause-bytes
unfolding passed_text
returns-clause-bytes c =
    c.put.ensures.bytes
    ∙ ap (λ (l : List ℕ). l ++ codes "\n") (c.put_number-at-2.ensures.bytes
    ∙ ap (λ (l : List ℕ). l ++ decimal c.args.resynced) (c.put-at-2.ensures.bytes
    ∙ ap (λ (l : List ℕ). l ++ codes " resynced ") (c.put_number-at.ensures.bytes
    ∙ ap (λ (l : List ℕ). l ++ decimal c.args.blocks) c.put-at.ensures.bytes)))
