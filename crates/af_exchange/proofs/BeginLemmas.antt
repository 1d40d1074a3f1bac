-- A start of the program, and what is offered to it then.
use Rattle.std.proofs.Common.{◌≡◌, ◌≢◌, ℕ, ◌&&◌, not, nat_lt, Bool, true, false, is_some, List, [], ◌∷◌, length, refl, sym, ap, ◌∙◌, subst, arith}
use Rattle.std.specs.declared.option.Option.{Option}
use Rattle.std.specs.declared.option.Option.TheVariants.{None, Some}
use Rattle.af_io.specs.Observed.{Appended, Unchanged}
use Rattle.af_io.proofs.AppendedLemmas.{stays_appended, stays_same}
use Rattle.af_program.specs.declared.program.Launched.{Launched}
use Rattle.af_program.specs.declared.program.Launched.TheVariants as launch
use Rattle.af_program.specs.declared.program.Took.{Took}
use Rattle.af_program.specs.declared.starts.Starts.{Starts}
use Rattle.af_program.specs.Acts.{ToldAct, launched}
use Rattle.af_program.specs.Waits.{may_come, begun_once_more, after_end}
use Rattle.af_exchange.specs.Lines.{hook_text}
use Rattle.af_exchange.specs.Dialogue.{DialogueState, running_since}
use Rattle.af_exchange.specs.Hook.{Offers, OffersOwed, is_owed}
use Rattle.af_exchange.specs.Begins.{Begins, BeginsIf, BeginsWhereDue, begun, is_due}

-- What is known after a start

pub begun-runs : (d : DialogueState) (result : Launched) (at : ℕ) (starts : Starts) (left owed : List ℕ) → result ≡ launch.Runs → starts ≡ begun_once_more d.starts → left ≡ [] →
    owed ≡ hook_text d.off → record d { running = Some (running_since at); starts = starts; left = left; owed = owed } ≡ begun result at d
begun-runs d launch.Runs at starts left owed is begun no-left owes =
    ap (λ (s : Starts). record d { running = Some (running_since at); starts = s; left = left; owed = owed }) begun
    ∙ ap (λ (x : List ℕ). record d { running = Some (running_since at); starts = begun_once_more d.starts; left = x; owed = owed }) no-left
    ∙ ap (λ (x : List ℕ). record d { running = Some (running_since at); starts = begun_once_more d.starts; left = []; owed = x }) owes
begun-runs d launch.Failed at starts left owed is begun no-left owes = grind arith
begun-runs d launch.OutOfMemory at starts left owed is begun no-left owes = grind arith

begun-failed : (d : DialogueState) (at : ℕ) (starts : Starts) (left owed : List ℕ) → starts ≡ after_end (begun_once_more d.starts) at at → left ≡ [] → owed ≡ [] →
    record d { starts = starts; left = left; owed = owed } ≡ record d { starts = after_end (begun_once_more d.starts) at at; left = []; owed = [] }
begun-failed d at starts left owed failed no-left no-owed =
    ap (λ (s : Starts). record d { starts = s; left = left; owed = owed }) failed
    ∙ ap (λ (x : List ℕ). record d { starts = after_end (begun_once_more d.starts) at at; left = x; owed = owed }) no-left
    ∙ ap (λ (x : List ℕ). record d { starts = after_end (begun_once_more d.starts) at at; left = []; owed = x }) no-owed

-- A whole start

-- the line of the hook is owed
owes-hook : (at : ℕ) (d : DialogueState) → is_owed (begun launch.Runs at d) ≡ true
owes-hook at d = by_hook d.off where
  by_hook : (off : Bool) → nat_lt 0 (length (hook_text off)) ≡ true
  by_hook true = refl
  by_hook false = refl

offers-some : (answer : Option Took) (before after : DialogueState) (acts acts' : Option (List ToldAct)) → is_some answer ≡ true → Offers answer before after acts acts' →
    (took : Took) × Offers (Some took) before after acts acts'
offers-some None before after acts acts' some gives = grind arith
offers-some (Some took) before after acts acts' some gives = (took, gives)

-- the program runs, and is offered what it is owed
pub begins-running : (at : ℕ) (words : List (List ℕ)) (result : Launched) (d mid after : DialogueState) (acts started acts' : Option (List ToldAct)) → result ≡ launch.Runs →
    mid ≡ begun result at d → Appended acts (launched at words result ∷ []) started → OffersOwed mid after started acts' → Begins at words result d after acts acts'
begins-running at words launch.Runs d mid after acts started acts' is begun-is starts owed = record {
  started = started;
  starts = starts;
  tells = offers-some owed.answer (begun launch.Runs at d) after started acts' (owed.offered ∙ ap is_owed begun-is ∙ owes-hook at d)
      (subst (λ x. Offers owed.answer x after started acts') begun-is owed.gives);
}
begins-running at words launch.Failed d mid after acts started acts' is begun-is starts owed = grind arith
begins-running at words launch.OutOfMemory d mid after acts started acts' is begun-is starts owed = grind arith

-- the start failed
pub begins-not : (at : ℕ) (words : List (List ℕ)) (result : Launched) (d : DialogueState) (starts : Starts) (left owed : List ℕ) (acts acts' : Option (List ToldAct)) →
    result ≢ launch.Runs → starts ≡ after_end (begun_once_more d.starts) at at → left ≡ [] → owed ≡ [] → Appended acts (launched at words result ∷ []) acts' →
    Begins at words result d (record d { starts = starts; left = left; owed = owed }) acts acts'
begins-not at words launch.Runs d starts left owed acts acts' not failed no-left no-owed told = absurd (not refl)
begins-not at words launch.Failed d starts left owed acts acts' not failed no-left no-owed told =
    record { started = acts'; starts = told; tells = (begun-failed d at starts left owed failed no-left no-owed, stays_same acts') }
begins-not at words launch.OutOfMemory d starts left owed acts acts' not failed no-left no-owed told =
    record { started = acts'; starts = told; tells = (begun-failed d at starts left owed failed no-left no-owed, stays_same acts') }

-- no act came before
begins-after : (at : ℕ) (words : List (List ℕ)) (came_to : Launched) (before after : DialogueState) (acts told acts' : Option (List ToldAct)) → Unchanged acts told →
    Begins at words came_to before after told acts' → Begins at words came_to before after acts acts'
begins-after at words came_to before after acts told acts' same begins = record {
  started = begins.started;
  starts = stays_appended acts told begins.started (launched at words came_to ∷ []) same begins.starts;
  tells = begins.tells;
}

-- whether a start is due, where no program runs
due-by : (d : DialogueState) (at : ℕ) (may : Bool) → is_some d.running ≡ false → may_come d.starts at ≡ may → is_due d at ≡ may
due-by d at may none comes = ap (λ x. not x && may_come d.starts at) none ∙ comes

-- a start that is due
pub begins-due : (at : ℕ) (words : List (List ℕ)) (came_to : Launched) (before after : DialogueState) (acts told acts' : Option (List ToldAct)) → is_some before.running ≡ false →
    may_come before.starts at ≡ true → Unchanged acts told → Begins at words came_to before after told acts' → BeginsWhereDue at words before after acts acts'
begins-due at words came_to before after acts told acts' none comes same begins =
    subst (λ x. BeginsIf x at words before after acts acts') (sym (due-by before at true none comes))
    (came_to, begins-after at words came_to before after acts told acts' same begins)

-- no start is due
pub begins-none : (at : ℕ) (words : List (List ℕ)) (d : DialogueState) (acts acts' : Option (List ToldAct)) → is_some d.running ≡ false → may_come d.starts at ≡ false →
    Unchanged acts acts' → BeginsWhereDue at words d d acts acts'
begins-none at words d acts acts' none comes same =
    subst (λ x. BeginsIf x at words d d acts acts') (sym (due-by d at false none comes)) (refl, same)
