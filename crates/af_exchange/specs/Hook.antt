-- What a hook call does, and what it answers.
use Rattle.std.specs.Prelude.{◌≡◌, ◌+◌, nat_lt, nat_le, ◌&&◌, ◌||◌, Bool, true, false, if◌then◌else◌, is_some, List, [], ◌∷◌, ◌++◌, length, option_map}
use Rattle.std.specs.declared.option.Option.{Option}
use Rattle.std.specs.declared.option.Option.TheVariants.{None, Some}
use Rattle.af_io.specs.declared.flow.Put.{Put}
use Rattle.af_io.specs.declared.flow.Put.TheVariants as put
use Rattle.af_io.specs.Observed.{Appended, Unchanged}
use Rattle.af_program.specs.declared.program.Took.{Took}
use Rattle.af_program.specs.declared.program.Took.TheVariants as takes
use Rattle.af_program.specs.Acts.{ToldAct, emitted}
use Rattle.af_program.specs.Handing.{GivesFrom}
use Rattle.af_program.specs.Waits.{is_left}
use Rattle.af_exchange.specs.declared.running.Running.{Running}
use Rattle.af_exchange.specs.Lines.{hook_text}
use Rattle.af_exchange.specs.Dialogue.{DialogueState, most_bytes, after_give, is_open}

-- whether a program runs that takes lines, and has room for the line of a hook call
abbrev pub takes_call : Bool → DialogueState → Bool
takes_call off d = is_open d.running && nat_le (length d.owed + length (hook_text off)) most_bytes

-- it takes nothing any more
abbrev pub closed : Running → Running
closed running = record running { is_closed = true }

-- The hook was moved. A program that takes the call is owed its line. One without room for it is handed nothing any more.
abbrev pub after_call : Bool → DialogueState → DialogueState
after_call off d =
    if takes_call off d
    then record d { owed = d.owed ++ hook_text off; off = off }
    else record d { running = option_map closed d.running; off = off }

-- whether something is owed to a program that takes lines
abbrev pub is_owed : DialogueState → Bool
is_owed d = is_open d.running && nat_lt 0 (length d.owed)

-- All that is owed was offered to the program in one give, which had this answer, or no give was made. It goes on taking lines,
-- unless it answered that it takes none any more.
abbrev pub Offers : Option Took → DialogueState → DialogueState → Option (List ToldAct) → Option (List ToldAct) → Type 0
Offers None before after acts acts' = (after ≡ before) × Unchanged acts acts'
Offers (Some took) before after acts acts' = GivesFrom took before.owed after.owed acts acts'
    × (after ≡ record before { running = option_map (after_give took) before.running; owed = after.owed })

-- what is owed is offered, if something is
pub record OffersOwed (before after : DialogueState) (acts acts' : Option (List ToldAct)) : Type 0 where
  pub answer : Option Took
  pub offered : is_some answer ≡ is_owed before
  pub gives : Offers answer before after acts acts'

-- whether the program that was offered lines goes on taking them
abbrev pub takes_on : Option Took → Bool
takes_on None = false
takes_on (Some (takes.Bytes n)) = true
takes_on (Some takes.NoRoom) = true
takes_on (Some takes.Ended) = false

-- Failed if no program takes lines, and no start is left: by what was known before the call, and by the answer of the program
abbrev pub hook_answer : Option Took → DialogueState → Put
hook_answer answer d = if takes_on answer || is_left d.starts then put.Done else put.Failed

-- A hook call. A program that takes it is offered all that it is owed, and this line. No other is offered anything. So the call
-- leaves the program running, and it stays open if it took the call and did not answer that it takes nothing any more.
pub record CallsHook (off : Bool) (reply : Put) (before after : DialogueState) (acts acts' : Option (List ToldAct)) : Type 0 where
  pub answer : Option Took
  pub offered : is_some answer ≡ takes_call off before
  pub answers : reply ≡ hook_answer answer before
  pub noted : Option (List ToldAct)
  pub notes : Appended acts (emitted (hook_text off) ∷ []) noted
  pub gives : Offers answer (after_call off before) after noted acts'
