use Rattle.std.proofs.Common.{◌∙◌, ap, map, string_bytes}
use Rattle.std.proofs.lemmas.Result.{IfOk-weaker, IfErr-weaker}
use Rattle.clap.specs.Words.{App, takes, is_simple, matches_of}
use Rattle.af_cli.proofs.command.matches_for.Goals as goal

pub returns-clause-ok : goal.returns-clause-ok
returns-clause-ok c =
    let same = c.in_ok-command.ensures in
    IfOk-weaker c.try_get_matches_from.result _ _
    (λ m h simple. (h (ap is_simple same ∙ simple)).0 ∙ ap (λ (a : App). matches_of a (map string_bytes c.args.given.now)) same)
    c.try_get_matches_from.ensures.matches

pub returns-clause-err : goal.returns-clause-err
returns-clause-err c =
    IfErr-weaker c.try_get_matches_from.result _ _
    (λ e h t. h (ap (λ (a : App). takes a (map string_bytes c.args.given.now)) c.in_ok-command.ensures ∙ t))
    c.try_get_matches_from.ensures.passes
