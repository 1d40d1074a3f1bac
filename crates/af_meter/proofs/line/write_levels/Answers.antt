use Rattle.std.proofs.Common.{rules, ◌≡◌, ◌++◌, ◌∙◌, List, ℕ, codes, decimal, take, ap, sym, Some, None, append-nil, []}
use Rattle.std.specs.Prelude.{Option}
use Rattle.std.specs.Option.{option_map_or}
use Rattle.af_meter.specs.declared.level.Level.{Level}
use Rattle.af_meter.specs.Lines.{level_text, levels_line}
use Rattle.af_meter.proofs.line.write_levels.Goals as goal

-- what is written of a second channel
abbrev second_text : Option Level → List ℕ
second_text second = option_map_or level_text second []

pub returns-in-Some-clause-bytes : goal.returns-in-Some-clause-bytes
unfolding levels_line
returns-in-Some-clause-bytes c =
    let levels = c.args.levels.now in
    let timed : c.from.result ≡ c.args.time.0 = search rules in
    c.put.ensures.bytes
    ∙ ap (λ (l : List ℕ). l ++ codes "\n") (c.put_level-at-in-Some.ensures.bytes
    ∙ ap (λ (l : List ℕ). l ++ level_text c.in-Some.second) (c.put_level-at.ensures.bytes
    ∙ ap (λ (l : List ℕ). l ++ level_text levels.first) (c.put_number-at.ensures.bytes ∙ ap (λ (n : ℕ). decimal n) timed))
    ∙ ap (λ (o : Option Level). decimal c.args.time.0 ++ level_text levels.first ++ second_text o) (sym c.in-Some.is))

pub returns-in-None-clause-bytes : goal.returns-in-None-clause-bytes
unfolding levels_line
returns-in-None-clause-bytes c =
    let levels = c.args.levels.now in
    let timed : c.from.result ≡ c.args.time.0 = search rules in
    c.put-in-None.ensures.bytes
    ∙ ap (λ (l : List ℕ). l ++ codes "\n") (c.put_level-at.ensures.bytes
    ∙ ap (λ (l : List ℕ). l ++ level_text levels.first) (c.put_number-at.ensures.bytes ∙ ap (λ (n : ℕ). decimal n) timed)
    ∙ sym (append-nil _)
    ∙ ap (λ (o : Option Level). decimal c.args.time.0 ++ level_text levels.first ++ second_text o) (sym c.in-None.is))
