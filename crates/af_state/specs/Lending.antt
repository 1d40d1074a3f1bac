-- What is left of a link that lent its output.
use Rattle.std.specs.Prelude.{◌≡◌, ⊤}
use Rattle.std.specs.Borrow.{Fml, MutBor, follows_so}
use mathlib.Core.Option.{none}
use Rattle.af_model.specs.State.{LinkState}
use Rattle.af_state.specs.contracts.link.ServedLink.{the_row}

-- once the loan is over, the link is as it was before
abbrev pub unchanged_after_loan : MutBor LinkState → Fml
unchanged_after_loan link = follows_so the_row the_row link.ghost_name none (λ _ _. ⊤) (λ l. l ≡ link.now)
