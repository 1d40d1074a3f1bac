-- The words that ask for a page of help, or for the version.
use Rattle.std.specs.Prelude.{List, Option, Some, codes, bytes_eq, if◌then◌else◌, option_and_then, option_map, slice_get}
use Rattle.clap.specs.Words.{Text}
use Rattle.af_cli.specs.Words.{tool_named}
use Rattle.af_details.specs.declared.options.Command.{Command}
use Rattle.af_details.specs.declared.options.Command.TheVariants as command
use Rattle.af_details.specs.declared.page.Page.{Page}
use Rattle.af_details.specs.declared.page.Page.TheVariants as page
use Rattle.af_version.specs.declared.about.About.{About}
use Rattle.af_version.specs.declared.about.About.TheVariants as about
use Rattle.af_version.specs.About.{asked_about}

-- the tool of a name: the answering machine, the one that tells events, the meter, the logger, or one of the others
abbrev pub command_named : Text → Option Command
command_named name =
    if bytes_eq name (codes "answer") then Some command.Answer
    else if bytes_eq name (codes "events") then Some command.Events
    else if bytes_eq name (codes "meter") then Some command.Meter
    else if bytes_eq name (codes "log") then Some command.Log
    else option_map (λ tool. command.Tool tool) (tool_named name)

-- the page that is asked for; help on a name is that of the tool of this name
abbrev pub page_for : List Text → About → Option Page
page_for words about.Help = Some page.Tools
page_for words about.HelpOn = option_map (λ named. page.Tool named) (option_and_then command_named (slice_get words 1))
page_for words about.Version = Some page.Version

-- the page that the words ask for
abbrev pub page_asked : List Text → Option Page
page_asked words = option_and_then (page_for words) (asked_about words)
