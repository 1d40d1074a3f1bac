use Rattle.std.proofs.Common.{rules, ◌≡◌, ◌∙◌, Bool, true, false, List, ap, if◌then◌else◌, is_some, sym, Option, None}
use Rattle.std.proofs.lemmas.Bool.{and_left, and_right}
use Rattle.clap.specs.Words.{Row, Text, kind_of, matches_of, takes}
use Rattle.clap.specs.declared.error.kind.ErrorKind.TheVariants as kinds
use Rattle.af_cli.proofs.ToolNameLemmas.{not_taken}
use Rattle.af_cli.specs.Words.{wait_at}
use Rattle.af_logger.specs.LogWords.{LogWords, log_app, log_wait, log_call, log_in, is_log_spelled, names_log}
use Rattle.af_logger.proofs.options.call_of.Goals as goal

-- what arguments ask that name the tool, by the rows of their matches
asked_words : (words : List Text) (rows : List Row) → names_log words ≡ true → rows ≡ matches_of log_app words → log_call words ≡ log_in rows
unfolding log_call
asked_words words rows named same = ap (λ (b : Bool). if b then log_in (matches_of log_app words) else None) named ∙ ap log_in (sym same)

-- how long they have the server waited for, by these rows
asked_wait : (words : List Text) (rows : List Row) → names_log words ≡ true → rows ≡ matches_of log_app words → log_wait words ≡ wait_at rows
unfolding log_wait
asked_wait words rows named same = ap (λ (b : Bool). if b then wait_at (matches_of log_app words) else None) named ∙ ap wait_at (sym same)

pub returns-in-Some-clause-wait : goal.returns-in-Some-clause-wait
returns-in-Some-clause-wait c =
    let named : names_log c.args.words.now ≡ true = search rules in
    asked_wait c.args.words.now _ named (c.in-Ok.ensures.ok ∙ ap (λ (w : List Text). matches_of log_app w) c.as_slice.ensures) ∙ c.in-Some.ensures.wait

pub returns-then-not-names_log-clause-usage : goal.returns-then-not-names_log-clause-usage
unfolding is_log_spelled
returns-then-not-names_log-clause-usage c e =
    let named : names_log c.args.words.now ≡ false = search rules in
    and_left _ _ (and_left _ _ named)

pub returns-in-Err-2-clause-usage : goal.returns-in-Err-2-clause-usage
unfolding is_log_spelled
returns-in-Err-2-clause-usage c e =
    let words = c.args.words.now in
    let other : kind_of c.in-Err.e ≡ kinds.OutOfMemory → ⊥ = search rules in
    let untaken = not_taken (takes log_app words) (kind_of c.in-Err.e) kinds.OutOfMemory (λ t. c.in-Err.ensures.err (ap (λ (w : List Text). takes log_app w) c.as_slice.ensures ∙ t)) other in
    and_left _ _ (and_right (names_log words) _ untaken)

pub returns-in-Some-clause-ok : goal.returns-in-Some-clause-ok
returns-in-Some-clause-ok c =
    let named : names_log c.args.words.now ≡ true = search rules in
    asked_words c.args.words.now _ named (c.in-Ok.ensures.ok ∙ ap (λ (w : List Text). matches_of log_app w) c.as_slice.ensures) ∙ sym c.in-Some.ensures.value

pub returns-clause-usage : goal.returns-clause-usage
unfolding is_log_spelled
returns-clause-usage c e =
    let named : names_log c.args.words.now ≡ true = search rules in
    and_right _ _ (ap (λ (o : Option LogWords). is_some o) (asked_words c.args.words.now _ named (c.in-Ok.ensures.ok ∙ ap (λ (w : List Text). matches_of log_app w) c.as_slice.ensures) ∙ sym c.in-None.ensures.value))
