-- What is left of a session that lent its output.
use Rattle.std.specs.Prelude.{◌≡◌, ⊤}
use Rattle.std.specs.Borrow.{Fml, MutBor, follows_so}
use mathlib.Core.Option.{none}
use Rattle.af_session.specs.Flows.{Flow}
use Rattle.af_session.specs.contracts.session.Session.{the_row}

-- once the loan is over, the session is as it was before
abbrev pub keeps : MutBor Flow → Fml
keeps session = follows_so the_row the_row session.ghost_name none (λ _ _. ⊤) (λ flow. flow ≡ session.now)
