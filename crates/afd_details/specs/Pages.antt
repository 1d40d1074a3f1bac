-- The words that ask for the page of help, or for the version.
use Rattle.std.specs.Prelude.{ℕ, List, Option, None, Some, option_and_then}
use Rattle.af_version.specs.declared.about.About.{About}
use Rattle.af_version.specs.declared.about.About.TheVariants as about
use Rattle.af_version.specs.About.{asked_about}
use Rattle.afd_details.specs.declared.page.Page.{Page}
use Rattle.afd_details.specs.declared.page.Page.TheVariants as page

-- the page that is asked for; no command has one of its own
abbrev pub page_for : About → Option Page
page_for about.Help = Some page.Commands
page_for about.HelpOn = None
page_for about.Version = Some page.Version

-- the page that the words ask for
abbrev pub page_asked : List (List ℕ) → Option Page
page_asked words = option_and_then page_for (asked_about words)
