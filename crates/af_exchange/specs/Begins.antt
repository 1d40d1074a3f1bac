-- A start of the program: its act, what is known of the program then, and that it is told the hook at once.
use Rattle.std.specs.Prelude.{◌≡◌, ℕ, ◌&&◌, not, Bool, true, false, is_some, List, [], ◌∷◌}
use Rattle.std.specs.declared.option.Option.{Option}
use Rattle.std.specs.declared.option.Option.TheVariants.{None, Some}
use Rattle.af_io.specs.Observed.{Appended, Unchanged}
use Rattle.af_program.specs.declared.program.Launched.{Launched}
use Rattle.af_program.specs.declared.program.Launched.TheVariants as launch
use Rattle.af_program.specs.declared.program.Took.{Took}
use Rattle.af_program.specs.Acts.{ToldAct, launched}
use Rattle.af_program.specs.Waits.{may_come, begun_once_more, after_end}
use Rattle.af_exchange.specs.Lines.{hook_text}
use Rattle.af_exchange.specs.Dialogue.{DialogueState, running_since}
use Rattle.af_exchange.specs.Hook.{Offers}

-- A start was tried at this moment. A program that runs then is owed the line of the hook as it is. Nothing of what an earlier
-- program gave or was owed is left.
abbrev pub begun : Launched → ℕ → DialogueState → DialogueState
begun launch.Runs at d = record d {
  starts = begun_once_more d.starts;
  running = Some (running_since at);
  left = [];
  owed = hook_text d.off;
}
begun launch.Failed at d = record d { starts = after_end (begun_once_more d.starts) at at; left = []; owed = [] }
begun launch.OutOfMemory at d = record d { starts = after_end (begun_once_more d.starts) at at; left = []; owed = [] }

-- all that is owed is offered in one give to a program that was started; no other is offered anything
abbrev pub TellsHook : Launched → DialogueState → DialogueState → Option (List ToldAct) → Option (List ToldAct) → Type 0
TellsHook launch.Runs before after acts acts' = (answer : Took) × Offers (Some answer) before after acts acts'
TellsHook launch.Failed before after acts acts' = Offers None before after acts acts'
TellsHook launch.OutOfMemory before after acts acts' = Offers None before after acts acts'

-- A start was tried at this moment, by these words, and came to this. That is one act. If the program runs, it is offered the
-- line of the hook at once, in one give. No other act is added.
pub record Begins (at : ℕ) (words : List (List ℕ)) (came_to : Launched) (before after : DialogueState)
    (acts acts' : Option (List ToldAct)) : Type 0 where
  pub started : Option (List ToldAct)
  pub starts : Appended acts (launched at words came_to ∷ []) started
  pub tells : TellsHook came_to (begun came_to at before) after started acts'

-- a start is tried, or nothing happens
abbrev pub BeginsIf : Bool → ℕ → List (List ℕ) → DialogueState → DialogueState → Option (List ToldAct) → Option (List ToldAct) →
    Type 0
BeginsIf true at words before after acts acts' = (came_to : Launched) × Begins at words came_to before after acts acts'
BeginsIf false at words before after acts acts' = (after ≡ before) × Unchanged acts acts'

-- whether a start is due at a moment: no program runs, and one may come
abbrev pub is_due : DialogueState → ℕ → Bool
is_due d at = not (is_some d.running) && may_come d.starts at

-- a start is tried if it is due at this moment; else nothing happens
abbrev pub BeginsWhereDue : ℕ → List (List ℕ) → DialogueState → DialogueState → Option (List ToldAct) → Option (List ToldAct) →
    Type 0
BeginsWhereDue at words before after acts acts' = BeginsIf (is_due before at) at words before after acts acts'
