use Rattle.std.proofs.Common.{◌≡◌, ◌++◌, List, ℕ, codes, decimal, take, ap, ◌∙◌, rules}
use Rattle.af_cli.specs.Events.{kind_name}
use Rattle.af_events.specs.Lines.{event_line, value_text}
use Rattle.af_events.proofs.line.write_event_line.Goals as goal

pub returns-clause-bytes : goal.returns-clause-bytes
unfolding event_line
returns-clause-bytes c =
    let e = c.args.event in
    let timed : c.from.result ≡ c.args.event.time.0 = search rules in
    let numbered : c.from-2.result ≡ c.args.event.device = search rules in
    c.put.ensures.bytes
    ∙ ap (λ (l : List ℕ). l ++ codes "\n") (c.put_value-at.ensures.bytes
    ∙ ap (λ (l : List ℕ). l ++ value_text e.kind e.value) (c.put-at-3.ensures.bytes
    ∙ ap (λ (l : List ℕ). l ++ codes " ") (c.put_kind-at.ensures.bytes
    ∙ ap (λ (l : List ℕ). l ++ kind_name e.kind) (c.put-at-2.ensures.bytes
    ∙ ap (λ (l : List ℕ). l ++ codes " ") (c.put_number-at-2.ensures.bytes ∙ ap (λ (n : ℕ). take c.put-at.result c.put-at.new.out ++ decimal n) numbered
    ∙ ap (λ (l : List ℕ). l ++ decimal e.device) (c.put-at.ensures.bytes
    ∙ ap (λ (l : List ℕ). l ++ codes " ") (c.put_number-at.ensures.bytes ∙ ap (λ (n : ℕ). decimal n) timed)))))))
