use Rattle.std.proofs.Common.{◌∙◌, ◌≡◌, List, ap, codes, map, refl, string_bytes, true}
use Rattle.clap.specs.Words.{is_simple, found_of, rows_of, kind_of}
use Rattle.clap.specs.declared.error.kind.ErrorKind.TheVariants.{OutOfMemory}
use Rattle.clap.proofs.OnLiterals.{clap_on_literals}
use Rattle.af_cli.specs.Arguments.{Listed}
use Rattle.af_cli.specs.Words.{command_app}
use Rattle.af_cli.proofs.ParsedWordLemmas.{matches_along, passes_along}
use Rattle.af_attendant.specs.AttendantArguments.{attendant_arguments}
use Rattle.af_attendant.specs.AttendantWords.{attendant_app}
use Rattle.af_attendant.proofs.options.attendant_matches.Goals as goal

simple : is_simple attendant_app ≡ true
unfolding clap_on_literals attendant_app attendant_arguments
simple = refl

same : (arguments : List Listed) → arguments ≡ attendant_arguments → command_app (codes "answer") arguments ≡ attendant_app
unfolding attendant_app
same arguments e = ap (λ (listed : List Listed). command_app (codes "answer") listed) e

pub returns-clause-ok : goal.returns-clause-ok
returns-clause-ok c =
    let e = same _ c.attendant_arguments.ensures in
    matches_along (λ m. rows_of (found_of m)) c.matches_for.result (map string_bytes c.args.given.now) _ attendant_app e (ap is_simple e ∙ simple) c.matches_for.ensures.ok

pub returns-clause-err : goal.returns-clause-err
returns-clause-err c =
    let e = same _ c.attendant_arguments.ensures in
    passes_along (λ e. kind_of e ≡ OutOfMemory) c.matches_for.result (map string_bytes c.args.given.now) _ attendant_app e c.matches_for.ensures.err
