-- What each call on what stands between a line and its program keeps of the acts.
use Rattle.std.proofs.Common.{◌≡◌, ◌≢◌, ℕ, ◌-◌, nat_lt, Bool, true, false, not, List, [], ◌∷◌, ◌++◌, length, drop, refl, sym, ap, ◌∙◌, subst, arith, is_some}
use Rattle.std.specs.List.{fold}
use Rattle.std.specs.declared.option.Option.{Option}
use Rattle.std.specs.declared.option.Option.TheVariants.{None, Some}
use Rattle.af_io.specs.Observed.{Appended}
use Rattle.af_io.proofs.AppendedLemmas.{appended_none}
use Rattle.af_phone.specs.declared.line.LineChange.{LineChange}
use Rattle.af_program.specs.declared.program.Gave.{Gave}
use Rattle.af_program.specs.declared.program.Gave.TheVariants as gives
use Rattle.af_program.specs.declared.program.Took.{Took}
use Rattle.af_program.specs.declared.program.Took.TheVariants as takes
use Rattle.af_program.specs.declared.program.Launched.{Launched}
use Rattle.af_program.specs.declared.program.Launched.TheVariants as launch
use Rattle.af_program.specs.declared.starts.Starts.{Starts}
use Rattle.af_program.specs.Acts.{ToldAct, launched, ended, captured, emitted, runs_after, took_acts}
use Rattle.af_program.specs.Handing.{TakesInto, GivesFrom, acts_if, given_acts, left_with}
use Rattle.af_program.specs.Ledger.{Ledger, ledger_after}
use Rattle.af_program.specs.Waits.{may_come, begun_once_more, after_end}
use Rattle.af_exchange.specs.declared.running.Running.{Running}
use Rattle.af_exchange.specs.Lines.{text_of, hook_text}
use Rattle.af_exchange.specs.Fronts.{SaysMore}
use Rattle.af_exchange.specs.Ledger.{Run, Notes, exchange_book}
use Rattle.af_exchange.specs.Told.{RunTold}
use Rattle.af_exchange.specs.Dialogue.{DialogueState, Account, Accounts, running_since, after_take, after_give, PassesOver, CanEnd}
use Rattle.af_exchange.proofs.NoteLemmas.{notes}
use Rattle.af_exchange.proofs.RunLemmas.{told-closed, told-owed, told-missed}
use Rattle.af_exchange.proofs.AccountLemmas.{Accounts-on, Account-gave, Account-took, Account-knows, Account-passed, Account-changed, Account-called, Account-begun, Account-failed, Account-ended}

-- no byte goes, though more of the run may be known
Accounts-known : (d : DialogueState) (r r' : Running) (acts acts' : Option (List ToldAct)) (more : List ToldAct) → d.running ≡ Some r → r'.began ≡ r.began →
    ((run : Run) → RunTold run d.left d.owed (not r.is_closed) → RunTold run d.left d.owed (not r'.is_closed)) →
    ((ledger : Ledger Run) → fold (ledger_after exchange_book) ledger more ≡ ledger) → fold runs_after true more ≡ true → Appended acts more acts' → Accounts d acts →
    Accounts (record d { running = Some r' }) acts'
Accounts-known d r r' acts acts' more is began on stays runs told fits =
    Accounts-on d (record d { running = Some r' }) acts acts' more fits told
    (λ ledger account. subst (Account (record d { running = Some r' })) (sym (stays ledger)) (Account-knows d r r' is began on ledger account))
    (ap (λ now. fold runs_after (is_some now) more) is ∙ runs)

-- the program was asked, or not
asked-on : (d : DialogueState) (r : Running) (is_made : Bool) (room : ℕ) (result : Gave) (bytes left : List ℕ) (acts acts' : Option (List ToldAct)) → d.running ≡ Some r →
    (is_made ≡ false → result ≡ gives.NotYet) → left ≡ left_with result d.left bytes → Appended acts (acts_if is_made (given_acts room result bytes)) acts' → Accounts d acts →
    Accounts (record d { running = Some (after_take result r); left = left }) acts'
asked-on d r true room (gives.Bytes n) bytes left acts acts' is none goes told fits =
    subst (λ x. Accounts (record d { running = Some r; left = x }) acts') (sym goes)
    (Accounts-on d (record d { running = Some r; left = d.left ++ bytes }) acts acts' (given_acts room (gives.Bytes n) bytes) fits told
    (Account-gave d r r bytes is refl refl) (ap is_some is))
asked-on d r true room gives.NotYet bytes left acts acts' is none goes told fits =
    subst (λ x. Accounts (record d { running = Some r; left = x }) acts') (sym goes)
    (Accounts-known d r r acts acts' (given_acts room gives.NotYet bytes) is refl (λ run t. t) (λ ledger. refl) refl told fits)
asked-on d r true room gives.Ended bytes left acts acts' is none goes told fits =
    subst (λ x. Accounts (record d { running = Some (record r { is_ended = true }); left = x }) acts') (sym goes)
    (Accounts-known d r (record r { is_ended = true }) acts acts' (given_acts room gives.Ended bytes) is refl (λ run t. t) (λ ledger. refl) refl told fits)
asked-on d r false room (gives.Bytes n) bytes left acts acts' is none goes told fits = let no = none refl in grind arith
asked-on d r false room gives.NotYet bytes left acts acts' is none goes told fits =
    subst (λ x. Accounts (record d { running = Some r; left = x }) acts') (sym goes)
    (Accounts-known d r r acts acts' [] is refl (λ run t. t) (λ ledger. refl) refl told fits)
asked-on d r false room gives.Ended bytes left acts acts' is none goes told fits = let no = none refl in grind arith

pub Accounts-taken : (d : DialogueState) (r : Running) (most : ℕ) (result : Gave) (left : List ℕ) (acts acts' : Option (List ToldAct)) → d.running ≡ Some r →
    TakesInto most result d.left left acts acts' → Accounts d acts → Accounts (record d { running = Some (after_take result r); left = left }) acts'
Accounts-taken d r most result left acts acts' is into fits =
    asked-on d r (nat_lt (length d.left) most) (most - length d.left) result into.bytes left acts acts' is into.full into.goes into.told fits

notes-asked : (is_made : Bool) (room : ℕ) (result : Gave) (bytes : List ℕ) (acts acts' : Option (List ToldAct)) → Appended acts (acts_if is_made (given_acts room result bytes)) acts' →
    Notes [] [] [] acts acts'
notes-asked true room (gives.Bytes n) bytes acts acts' told = notes acts acts' (given_acts room (gives.Bytes n) bytes) told
notes-asked true room gives.NotYet bytes acts acts' told = notes acts acts' (given_acts room gives.NotYet bytes) told
notes-asked true room gives.Ended bytes acts acts' told = notes acts acts' (given_acts room gives.Ended bytes) told
notes-asked false room result bytes acts acts' told = notes acts acts' [] told

pub notes-taken : (most : ℕ) (result : Gave) (before after : List ℕ) (acts acts' : Option (List ToldAct)) → TakesInto most result before after acts acts' → Notes [] [] [] acts acts'
notes-taken most result before after acts acts' into = notes-asked (nat_lt (length before) most) (most - length before) result into.bytes acts acts' into.told

pub Accounts-given : (d : DialogueState) (r : Running) (result : Took) (owed : List ℕ) (acts acts' : Option (List ToldAct)) → d.running ≡ Some r →
    GivesFrom result d.owed owed acts acts' → Accounts d acts → Accounts (record d { running = Some (after_give result r); owed = owed }) acts'
Accounts-given d r (takes.Bytes n) owed acts acts' is given fits =
    subst (λ x. Accounts (record d { running = Some r; owed = x }) acts') (sym given.2)
    (Accounts-on d (record d { running = Some r; owed = drop n d.owed }) acts acts' (took_acts (takes.Bytes n) d.owed) fits given.3
    (Account-took d r r n is refl refl) (ap is_some is))
Accounts-given d r takes.NoRoom owed acts acts' is given fits =
    subst (λ x. Accounts (record d { running = Some r; owed = x }) acts') (sym given.0)
    (Accounts-known d r r acts acts' (took_acts takes.NoRoom d.owed) is refl (λ run told. told) (λ ledger. refl) refl given.1 fits)
Accounts-given d r takes.Ended owed acts acts' is given fits =
    subst (λ x. Accounts (record d { running = Some (record r { is_closed = true }); owed = x }) acts') (sym given.0)
    (Accounts-known d r (record r { is_closed = true }) acts acts' (took_acts takes.Ended d.owed) is refl (λ run told. told-closed run d.left d.owed (not r.is_closed) told)
    (λ ledger. refl) refl given.1 fits)

pub notes-given : (result : Took) (before after : List ℕ) (acts acts' : Option (List ToldAct)) → GivesFrom result before after acts acts' → Notes [] [] [] acts acts'
notes-given (takes.Bytes n) before after acts acts' given = notes acts acts' (took_acts (takes.Bytes n) before) given.3
notes-given takes.NoRoom before after acts acts' given = notes acts acts' (took_acts takes.NoRoom before) given.1
notes-given takes.Ended before after acts acts' given = notes acts acts' (took_acts takes.Ended before) given.1

pub Accounts-passed : (d : DialogueState) (left : List ℕ) (acts : Option (List ToldAct)) → PassesOver d.left left → Accounts d acts → Accounts (record d { left = left }) acts
Accounts-passed d left acts over fits =
    Accounts-on d (record d { left = left }) acts acts [] fits (appended_none acts) (Account-passed d left over) refl

pub Accounts-changed : (d : DialogueState) (now : Option Running) (change : LineChange) (count : ℕ) (left : List ℕ) (acts acts' : Option (List ToldAct)) → d.running ≡ now → is_some now ≡ true →
    SaysMore (change ∷ []) count d.left → left ≡ drop count d.left → Appended acts (captured (text_of change) ∷ []) acts' → Accounts d acts → Accounts (record d { left = left }) acts'
Accounts-changed d None change count left acts acts' is runs says rest told fits = grind arith
Accounts-changed d (Some r) change count left acts acts' is runs says rest told fits =
    subst (λ x. Accounts (record d { left = x }) acts') (sym rest)
    (subst (λ x. Accounts (record d { running = x; left = drop count d.left }) acts') (sym is)
    (Accounts-on d (record d { running = Some r; left = drop count d.left }) acts acts' (captured (text_of change) ∷ []) fits told
    (Account-changed d r change count is says) (ap is_some is)))

-- Hook calls

pub notes-called : (off : Bool) (text : List ℕ) (acts acts' : Option (List ToldAct)) → text ≡ hook_text off → Appended acts (emitted text ∷ []) acts' → Notes [] (hook_text off ∷ []) [] acts acts'
notes-called off text acts acts' is told = notes acts acts' (emitted (hook_text off) ∷ []) (subst (λ x. Appended acts (emitted x ∷ []) acts') is told)

pub Accounts-missed : (d : DialogueState) (r r' : Running) (off : Bool) (text : List ℕ) (acts acts' : Option (List ToldAct)) → d.running ≡ Some r → r'.began ≡ r.began →
    r'.is_closed ≡ true → text ≡ hook_text off → Appended acts (emitted text ∷ []) acts' → Accounts d acts → Accounts (record d { running = Some r'; off = off }) acts'
Accounts-missed d r r' off text acts acts' runs began closed is told fits =
    Accounts-on d (record d { running = Some r'; off = off }) acts acts' (emitted (hook_text off) ∷ []) fits (subst (λ x. Appended acts (emitted x ∷ []) acts') is told)
    (Account-called d r r' d.owed off runs began (λ run t.
    subst (λ x. RunTold (record run { told = run.told ++ hook_text off }) d.left d.owed (not x)) (sym closed)
    (told-missed run d.left d.owed (hook_text off) (not r.is_closed) t))) (ap is_some runs)

pub Accounts-owed : (d : DialogueState) (r : Running) (off : Bool) (text owed : List ℕ) (acts acts' : Option (List ToldAct)) → d.running ≡ Some r → r.is_closed ≡ false →
    text ≡ hook_text off → owed ≡ d.owed ++ text → Appended acts (emitted text ∷ []) acts' → Accounts d acts → Accounts (record d { owed = owed; off = off }) acts'
Accounts-owed d r off text owed acts acts' runs unclosed is more told fits =
    subst (λ x. Accounts (record d { owed = x; off = off }) acts') (sym (more ∙ ap (λ x. d.owed ++ x) is))
    (subst (λ x. Accounts (record d { running = x; owed = d.owed ++ hook_text off; off = off }) acts') (sym runs)
    (Accounts-on d (record d { running = Some r; owed = d.owed ++ hook_text off; off = off }) acts acts' (emitted (hook_text off) ∷ []) fits
    (subst (λ x. Appended acts (emitted x ∷ []) acts') is told)
    (Account-called d r r (d.owed ++ hook_text off) off runs refl (λ run t.
    subst (λ x. RunTold (record run { told = run.told ++ hook_text off }) d.left (d.owed ++ hook_text off) (not x)) (sym unclosed)
    (told-owed run d.left d.owed (hook_text off) (subst (λ x. RunTold run d.left d.owed (not x)) unclosed t)))) (ap is_some runs)))

-- Starts

pub Accounts-begun : (d : DialogueState) (at : ℕ) (words : List (List ℕ)) (result : Launched) (starts : Starts) (left owed : List ℕ) (acts acts' : Option (List ToldAct)) →
    result ≡ launch.Runs → d.running ≡ None → may_come d.starts at ≡ true → starts ≡ begun_once_more d.starts → left ≡ [] → owed ≡ hook_text d.off →
    Appended acts (launched at words result ∷ []) acts' → Accounts d acts → Accounts (record d { running = Some (running_since at); starts = starts; left = left; owed = owed }) acts'
Accounts-begun d at words launch.Runs starts left owed acts acts' is none may begun no-left owes told fits =
    subst (λ x. Accounts (record d { running = Some (running_since at); starts = starts; left = x; owed = owed }) acts') (sym no-left)
    (subst (λ x. Accounts (record d { running = Some (running_since at); starts = starts; left = []; owed = x }) acts') (sym owes)
    (Accounts-on d (record d { running = Some (running_since at); starts = starts; left = []; owed = hook_text d.off }) acts acts' (launched at words launch.Runs ∷ []) fits told
    (Account-begun d at starts none may begun) refl))
Accounts-begun d at words launch.Failed starts left owed acts acts' is none may begun no-left owes told fits = grind arith
Accounts-begun d at words launch.OutOfMemory starts left owed acts acts' is none may begun no-left owes told fits = grind arith

not-begun : (d : DialogueState) (at : ℕ) (words : List (List ℕ)) (result : Launched) (starts : Starts) (acts acts' : Option (List ToldAct)) → result ≢ launch.Runs →
    d.running ≡ None → may_come d.starts at ≡ true → starts ≡ after_end (begun_once_more d.starts) at at → Appended acts (launched at words result ∷ []) acts' →
    Accounts d acts → Accounts (record d { starts = starts; left = []; owed = [] }) acts'
not-begun d at words launch.Runs starts acts acts' not none may failed told fits = absurd (not refl)
not-begun d at words launch.Failed starts acts acts' not none may failed told fits =
    Accounts-on d (record d { starts = starts; left = []; owed = [] }) acts acts' (launched at words launch.Failed ∷ []) fits told (Account-failed d at starts none may failed) refl
not-begun d at words launch.OutOfMemory starts acts acts' not none may failed told fits =
    Accounts-on d (record d { starts = starts; left = []; owed = [] }) acts acts' (launched at words launch.OutOfMemory ∷ []) fits told (Account-failed d at starts none may failed) refl

pub Accounts-not-begun : (d : DialogueState) (at : ℕ) (words : List (List ℕ)) (result : Launched) (starts : Starts) (left owed : List ℕ) (acts acts' : Option (List ToldAct)) →
    result ≢ launch.Runs → d.running ≡ None → may_come d.starts at ≡ true → starts ≡ after_end (begun_once_more d.starts) at at → left ≡ [] → owed ≡ [] →
    Appended acts (launched at words result ∷ []) acts' → Accounts d acts → Accounts (record d { starts = starts; left = left; owed = owed }) acts'
Accounts-not-begun d at words result starts left owed acts acts' not none may failed no-left no-owed told fits =
    subst (λ x. Accounts (record d { starts = starts; left = x; owed = owed }) acts') (sym no-left)
    (subst (λ x. Accounts (record d { starts = starts; left = []; owed = x }) acts') (sym no-owed)
    (not-begun d at words result starts acts acts' not none may failed told fits))

pub Accounts-ended : (d : DialogueState) (r : Running) (at : ℕ) (starts : Starts) (acts acts' : Option (List ToldAct)) → d.running ≡ Some r → CanEnd d →
    starts ≡ after_end d.starts r.began at → Appended acts (ended at ∷ []) acts' → Accounts d acts → Accounts (record d { running = None; starts = starts }) acts'
Accounts-ended d r at starts acts acts' is can after told fits =
    Accounts-on d (record d { running = None; starts = starts }) acts acts' (ended at ∷ []) fits told (Account-ended d r at starts is can after) refl
