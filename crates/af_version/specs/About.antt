-- The words that ask a program for help, or for its version.
use Rattle.std.specs.Prelude.{ℕ, ◌<◌, List, [], ◌∷◌, length, Option, None, Some, codes, bytes_eq, if◌then◌else◌}
use Rattle.af_io.specs.Observed.{Appended}
use Rattle.af_version.specs.declared.about.About.{About}
use Rattle.af_version.specs.declared.about.About.TheVariants as page

abbrev pub about_by_one : List ℕ → Option About
about_by_one word =
    if bytes_eq word (codes "help") then Some page.Help
    else if bytes_eq word (codes "version") then Some page.Version
    else None

abbrev pub about_by_two : List ℕ → Option About
about_by_two word = if bytes_eq word (codes "help") then Some page.HelpOn else None

-- what the words ask for: `help`, `help NAME` or `version`, and nothing after these
abbrev pub asked_about : List (List ℕ) → Option About
asked_about (word ∷ []) = about_by_one word
asked_about (word ∷ name ∷ []) = about_by_two word
asked_about _ = None

-- a sink gained a text that is not empty
pub record GainsPage (held held' : Option (List ℕ)) : Type 0 where
  pub text : List ℕ
  pub some : 0 < length text
  pub appended : Appended held text held'
