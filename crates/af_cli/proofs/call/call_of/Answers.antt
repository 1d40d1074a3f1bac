use Rattle.std.proofs.Common.{rules, ◌≡◌, ◌∙◌, false, List, ap, sym}
use Rattle.std.specs.Prelude.{Some, None}
use Rattle.clap.specs.Words.{Row, Text, kind_of, matches_of, takes}
use Rattle.clap.specs.declared.error.kind.ErrorKind.TheVariants as kinds
use Rattle.af_cli.specs.Words.{job_in, tool_app, wait_at}
use Rattle.af_cli.proofs.ToolNameLemmas.{is_named, job_named, no_job, none_taken, not_taken, taken_named, untaken, wait_named}
use Rattle.af_cli.proofs.call.call_of.Goals as goal

pub returns-in_default-clause-usage : goal.returns-in_default-clause-usage
returns-in_default-clause-usage c e = none_taken c.args.words.now c.in_default.ensures

pub returns-in_default-tool_named-clause-usage : goal.returns-in_default-tool_named-clause-usage
returns-in_default-tool_named-clause-usage c e =
    let words = c.args.words.now in
    let n = is_named words c.in-Some.name.now c.in-Some.ensures in
    untaken words (taken_named words c.in-Some.name.now None n c.in_default-tool_named.ensures)

pub returns-in-Err-2-clause-usage : goal.returns-in-Err-2-clause-usage
returns-in-Err-2-clause-usage c e =
    let words = c.args.words.now in
    let app = tool_app c.in-Some-tool_named.tool in
    let n = is_named words c.in-Some.name.now c.in-Some.ensures in
    let other : kind_of c.in-Err.e ≡ kinds.OutOfMemory → ⊥ = search rules in
    let none : takes app words ≡ false = not_taken (takes app words) (kind_of c.in-Err.e) kinds.OutOfMemory (λ t. c.in-Err.ensures.err (ap (λ (w : List Text). takes app w) c.as_slice.ensures ∙ t)) other in
    untaken words (taken_named words c.in-Some.name.now (Some c.in-Some-tool_named.tool) n c.in-Some-tool_named.ensures ∙ none)

pub returns-in-Some-call_in-clause-ok : goal.returns-in-Some-call_in-clause-ok
returns-in-Some-call_in-clause-ok c =
    let words = c.args.words.now in
    let tool = c.in-Some-tool_named.tool in
    let n = is_named words c.in-Some.name.now c.in-Some.ensures in
    job_named words c.in-Some.name.now (Some tool) n c.in-Some-tool_named.ensures
    ∙ ap (λ (w : List Text). job_in tool (matches_of (tool_app tool) w)) (sym c.as_slice.ensures)
    ∙ ap (λ (rows : List Row). job_in tool rows) (sym c.in-Ok.ensures.ok)
    ∙ sym c.in-Some-call_in.ensures.value

pub returns-in-Some-call_in-clause-wait : goal.returns-in-Some-call_in-clause-wait
returns-in-Some-call_in-clause-wait c =
    let words = c.args.words.now in
    let tool = c.in-Some-tool_named.tool in
    let n = is_named words c.in-Some.name.now c.in-Some.ensures in
    wait_named words c.in-Some.name.now (Some tool) n c.in-Some-tool_named.ensures
    ∙ ap (λ (w : List Text). wait_at (matches_of (tool_app tool) w)) (sym c.as_slice.ensures)
    ∙ ap (λ (rows : List Row). wait_at rows) (sym c.in-Ok.ensures.ok)
    ∙ c.in-Some-call_in.ensures.wait

pub returns-clause-usage : goal.returns-clause-usage
returns-clause-usage c e =
    let words = c.args.words.now in
    let tool = c.in-Some-tool_named.tool in
    let n = is_named words c.in-Some.name.now c.in-Some.ensures in
    no_job words (job_named words c.in-Some.name.now (Some tool) n c.in-Some-tool_named.ensures
    ∙ ap (λ (w : List Text). job_in tool (matches_of (tool_app tool) w)) (sym c.as_slice.ensures)
    ∙ ap (λ (rows : List Row). job_in tool rows) (sym c.in-Ok.ensures.ok)
    ∙ sym c.in-None.ensures.value)
