use Rattle.std.proofs.Common.{◌∙◌, ◌≡◌, List, ap, codes, map, refl, string_bytes, true}
use Rattle.clap.specs.Words.{is_simple, found_of, rows_of, kind_of}
use Rattle.clap.specs.declared.error.kind.ErrorKind.TheVariants.{OutOfMemory}
use Rattle.clap.proofs.OnLiterals.{clap_on_literals}
use Rattle.af_cli.specs.Arguments.{Listed}
use Rattle.af_cli.specs.Words.{command_app}
use Rattle.af_cli.proofs.ParsedWordLemmas.{matches_along, passes_along}
use Rattle.af_logger.specs.LogArguments.{log_arguments}
use Rattle.af_logger.specs.LogWords.{log_app}
use Rattle.af_logger.proofs.options.log_matches.Goals as goal

simple : is_simple log_app ≡ true
unfolding clap_on_literals log_app log_arguments
simple = refl

same : (arguments : List Listed) → arguments ≡ log_arguments → command_app (codes "log") arguments ≡ log_app
unfolding log_app
same arguments e = ap (λ (listed : List Listed). command_app (codes "log") listed) e

pub returns-clause-ok : goal.returns-clause-ok
returns-clause-ok c =
    let e = same _ c.log_arguments.ensures in
    matches_along (λ m. rows_of (found_of m)) c.matches_for.result (map string_bytes c.args.given.now) _ log_app e (ap is_simple e ∙ simple) c.matches_for.ensures.ok

pub returns-clause-err : goal.returns-clause-err
returns-clause-err c =
    let e = same _ c.log_arguments.ensures in
    passes_along (λ e. kind_of e ≡ OutOfMemory) c.matches_for.result (map string_bytes c.args.given.now) _ log_app e c.matches_for.ensures.err
