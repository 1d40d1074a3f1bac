use Rattle.std.proofs.Common.{◌≡◌, ◌++◌, List, ℕ, codes, decimal, take, ap, ◌∙◌, rules}
use Rattle.af_attendant.specs.Ran.{call_line, or_dash, status_text}
use Rattle.af_attendant.proofs.report.write_call_line.Goals as goal

pub returns-clause-bytes : goal.returns-clause-bytes
unfolding call_line
returns-clause-bytes c =
    let call : c.from.result ≡ c.args.call = search rules in
    let time : c.from-2.result ≡ c.args.time.0 = search rules in
    c.put.ensures.bytes
    ∙ ap (λ (l : List ℕ). l ++ codes "\n") (c.put_status-at-2.ensures.bytes
    ∙ ap (λ (l : List ℕ). l ++ status_text c.args.runs.message.status) (c.put-at-5.ensures.bytes
    ∙ ap (λ (l : List ℕ). l ++ codes " message ") (c.put_status-at.ensures.bytes
    ∙ ap (λ (l : List ℕ). l ++ status_text c.args.runs.greeting.status) (c.put-at-4.ensures.bytes
    ∙ ap (λ (l : List ℕ). l ++ codes " greeting ") (c.put_or_dash-at.ensures.bytes
    ∙ ap (λ (l : List ℕ). l ++ or_dash c.args.digits.now) (c.put-at-3.ensures.bytes
    ∙ ap (λ (l : List ℕ). l ++ codes " digits ") (c.put_number-at-2.ensures.bytes ∙ ap (λ (n : ℕ). take c.put-at-2.result c.put-at-2.new.out ++ decimal n) time
    ∙ ap (λ (l : List ℕ). l ++ decimal c.args.time.0) (c.put-at-2.ensures.bytes
    ∙ ap (λ (l : List ℕ). l ++ codes " at ") (c.put_number-at.ensures.bytes ∙ ap (λ (n : ℕ). take c.put-at.result c.put-at.new.out ++ decimal n) call
    ∙ ap (λ (l : List ℕ). l ++ decimal c.args.call) c.put-at.ensures.bytes)))))))))
