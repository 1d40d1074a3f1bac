use Rattle.std.proofs.Common.{◌∙◌, ◌≡◌, List, ap, ap₂, map, refl, string_bytes, true}
use Rattle.clap.specs.Words.{Text, is_simple, found_of, rows_of, kind_of}
use Rattle.clap.specs.declared.error.kind.ErrorKind.TheVariants.{OutOfMemory}
use Rattle.clap.proofs.OnLiterals.{clap_on_literals}
use Rattle.af_cli.specs.declared.tool.Tool.{Tool}
use Rattle.af_cli.specs.declared.tool.Tool.TheVariants as tool
use Rattle.af_cli.specs.Arguments.{Listed, tool_arguments, list_arguments, pass_arguments, play_arguments, record_arguments, set_arguments}
use Rattle.af_cli.specs.Words.{command_app, tool_app, tool_name}
use Rattle.af_cli.proofs.ParsedWordLemmas.{matches_along, passes_along}
use Rattle.af_cli.proofs.command.tool_matches.Goals as goal

simple : (t : Tool) → is_simple (tool_app t) ≡ true
unfolding clap_on_literals tool_app play_arguments record_arguments set_arguments pass_arguments list_arguments
simple tool.Play = refl
simple tool.Record = refl
simple tool.Set = refl
simple tool.Pass = refl
simple tool.List = refl

same : (t : Tool) (name : Text) (arguments : List Listed) → name ≡ tool_name t → arguments ≡ tool_arguments t → command_app name arguments ≡ tool_app t
unfolding tool_app
same t name arguments named listed = ap₂ command_app named listed

pub returns-clause-ok : goal.returns-clause-ok
returns-clause-ok c =
    let e = same c.args.tool _ _ c.name.ensures c.arguments.ensures in
    matches_along (λ m. rows_of (found_of m)) c.matches_for.result (map string_bytes c.args.given.now) _ (tool_app c.args.tool) e
    (ap is_simple e ∙ simple c.args.tool) c.matches_for.ensures.ok

pub returns-clause-err : goal.returns-clause-err
returns-clause-err c =
    let e = same c.args.tool _ _ c.name.ensures c.arguments.ensures in
    passes_along (λ e. kind_of e ≡ OutOfMemory) c.matches_for.result (map string_bytes c.args.given.now) _ (tool_app c.args.tool) e c.matches_for.ensures.err
