-- Which characters are shown as they are, by their general categories in UnicodeData.txt of Unicode 18.0.
use Rattle.std.specs.Prelude.{ℕ, Bool, true, false}
use Rattle.ucd_category.specs.GeneralCategory.{general_category}
use Rattle.ucd_category.specs.declared.GeneralCategory.{GeneralCategory}
use Rattle.ucd_category.specs.declared.GeneralCategory.TheVariants.{Control, Format, LineSeparator, ParagraphSeparator, Surrogate, Unassigned}

-- whether the characters of a category only take their place: Cc, Cf, Zl and Zp steer what shows them, Cs is no character, and
-- one of Cn may come to steer by a later version of Unicode
abbrev pub only_takes_its_place : GeneralCategory → Bool
only_takes_its_place Control = false
only_takes_its_place Format = false
only_takes_its_place LineSeparator = false
only_takes_its_place ParagraphSeparator = false
only_takes_its_place Surrogate = false
only_takes_its_place Unassigned = false
only_takes_its_place _ = true

-- whether a character is shown as it is
abbrev pub is_plain : ℕ → Bool
is_plain character = only_takes_its_place (general_category character)
