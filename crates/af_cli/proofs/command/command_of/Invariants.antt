use Rattle.std.proofs.Common.{◌≡◌, drop, map}
use Rattle.clap.specs.Words.{app_of, new_app}
use Rattle.af_cli.specs.Arguments.{as_listed, rule_for}
use Rattle.af_cli.specs.Words.{with_rules}
use Rattle.af_cli.proofs.command.command_of.Given as goal

abbrev pub invariant-loop-argument : goal.invariant-loop-argument
invariant-loop-argument l =
    with_rules (app_of l.command) (map rule_for (map as_listed (drop l.argument-index l.arguments)))
    ≡ with_rules (new_app l.name) (map rule_for (map as_listed l.arguments))
