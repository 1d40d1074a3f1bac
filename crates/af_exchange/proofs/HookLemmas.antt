-- What a hook call leads to, case by case.
use Rattle.std.proofs.Common.{◌≡◌, ◌≢◌, ℕ, ◌+◌, ◌<◌, ◌≤◌, nat_lt, nat_le, ◌&&◌, ◌||◌, Bool, true, false, not, if◌then◌else◌, is_some, List, [], ◌∷◌, ◌++◌, length, length-append, option_map, refl, sym, ap, ◌∙◌, subst, arith}
use Rattle.std.proofs.lemmas.Bool.Decides.{nat_tests}
use Rattle.std.specs.declared.option.Option.{Option}
use Rattle.std.specs.declared.option.Option.TheVariants.{None, Some}
use Rattle.af_io.specs.declared.flow.Put.{Put}
use Rattle.af_io.specs.declared.flow.Put.TheVariants as put
use Rattle.af_io.specs.Observed.{Appended, Unchanged}
use Rattle.af_io.proofs.AppendedLemmas.{stays_appended, stays_same}
use Rattle.af_program.specs.declared.program.Took.{Took}
use Rattle.af_program.specs.declared.program.Took.TheVariants as takes
use Rattle.af_program.specs.Acts.{ToldAct, emitted}
use Rattle.af_program.specs.Handing.{GivesFrom}
use Rattle.af_program.specs.Waits.{is_left}
use Rattle.af_exchange.specs.declared.running.Running.{Running}
use Rattle.af_exchange.specs.Lines.{hook_text}
use Rattle.af_exchange.specs.Dialogue.{DialogueState, most_bytes, after_give, is_open}
use Rattle.af_exchange.specs.Hook.{takes_call, closed, after_call, is_owed, Offers, OffersOwed, takes_on, CallsHook}

-- Whether a program takes the call

no-program : (off : Bool) (d : DialogueState) → d.running ≡ None → takes_call off d ≡ false
no-program off d is = ap (λ (r : Option Running). is_open r && nat_le (length d.owed + length (hook_text off)) most_bytes) is

takes-by : (off : Bool) (d : DialogueState) (r : Running) (shut room : Bool) → d.running ≡ Some r → r.is_closed ≡ shut →
    nat_le (length d.owed + length (hook_text off)) most_bytes ≡ room → takes_call off d ≡ (not shut && room)
takes-by off d r shut room is closes fits =
    ap (λ (x : Option Running). is_open x && nat_le (length d.owed + length (hook_text off)) most_bytes) is
    ∙ ap (λ b. not b && nat_le (length d.owed + length (hook_text off)) most_bytes) closes ∙ ap (λ b. not shut && b) fits

-- What it leads to

pub after-taken : (off : Bool) (d : DialogueState) → takes_call off d ≡ true → after_call off d ≡ record d { owed = d.owed ++ hook_text off; off = off }
after-taken off d is = ap (λ b. if b then record d { owed = d.owed ++ hook_text off; off = off } else record d { running = option_map closed d.running; off = off }) is

pub after-not-taken : (off : Bool) (d : DialogueState) → takes_call off d ≡ false → after_call off d ≡ record d { running = option_map closed d.running; off = off }
after-not-taken off d is = ap (λ b. if b then record d { owed = d.owed ++ hook_text off; off = off } else record d { running = option_map closed d.running; off = off }) is

pub call-none : (off : Bool) (d : DialogueState) → d.running ≡ None → record d { off = off } ≡ after_call off d
call-none off d is =
    ap (λ (r : Option Running). record d { running = r; off = off }) (is ∙ sym (ap (option_map closed) is)) ∙ sym (after-not-taken off d (no-program off d is))

pub call-closed : (off : Bool) (d : DialogueState) (r : Running) → d.running ≡ Some r → r.is_closed ≡ true → record d { off = off } ≡ after_call off d
call-closed off d r is shut =
    let same : Some r ≡ Some (closed r) = ap (λ b. Some (record r { is_closed = b })) shut in
    ap (λ (x : Option Running). record d { running = x; off = off }) (is ∙ same ∙ sym (ap (option_map closed) is))
    ∙ sym (after-not-taken off d (takes-by off d r true _ is shut refl))

pub call-full : (off : Bool) (d : DialogueState) (r : Running) (text : List ℕ) → d.running ≡ Some r → r.is_closed ≡ false → text ≡ hook_text off →
    most_bytes < length d.owed + length text → record d { running = Some (record r { is_closed = true }); off = off } ≡ after_call off d
call-full off d r text is unclosed says full =
    let more : most_bytes < length d.owed + length (hook_text off) = subst (λ t. most_bytes < length d.owed + length t) says full in
    let none : nat_le (length d.owed + length (hook_text off)) most_bytes ≡ false = grind (arith, nat_tests) in
    ap (λ (x : Option Running). record d { running = x; off = off }) (sym (ap (option_map closed) is)) ∙ sym (after-not-taken off d (takes-by off d r false false is unclosed none))

pub call-owed : (off : Bool) (d : DialogueState) (r : Running) (text owed : List ℕ) → d.running ≡ Some r → r.is_closed ≡ false → text ≡ hook_text off → owed ≡ d.owed ++ text →
    length d.owed + length text ≤ most_bytes → record d { owed = owed; off = off } ≡ after_call off d
call-owed off d r text owed is unclosed says all fits =
    let less : length d.owed + length (hook_text off) ≤ most_bytes = subst (λ t. length d.owed + length t ≤ most_bytes) says fits in
    let room : nat_le (length d.owed + length (hook_text off)) most_bytes ≡ true = grind (arith, nat_tests) in
    ap (λ x. record d { owed = x; off = off }) (all ∙ ap (λ t. d.owed ++ t) says) ∙ sym (after-taken off d (takes-by off d r false true is unclosed room))

-- What is offered

some-text : (off : Bool) (owed : List ℕ) → nat_lt 0 (length (owed ++ hook_text off)) ≡ true
some-text true owed = let long = length-append owed (hook_text true) in grind (arith, nat_tests)
some-text false owed = let long = length-append owed (hook_text false) in grind (arith, nat_tests)

both-first : (a b : Bool) → (a && b) ≡ true → a ≡ true
both-first true b is = refl
both-first false b is = is

never-open : (r : Option Running) → is_open (option_map closed r) ≡ false
never-open None = refl
never-open (Some r) = refl

-- a program that takes the call is owed its line, and no other is owed anything
pub owed-after-call : (off : Bool) (d : DialogueState) → is_owed (after_call off d) ≡ takes_call off d
owed-after-call off d = by_case (takes_call off d) refl where
  by_case : (takes : Bool) → takes_call off d ≡ takes → is_owed (after_call off d) ≡ takes_call off d
  by_case true is =
      ap is_owed (after-taken off d is) ∙ ap (λ b. b && nat_lt 0 (length (d.owed ++ hook_text off))) (both-first (is_open d.running) _ is) ∙ some-text off d.owed ∙ sym is
  by_case false is =
      ap is_owed (after-not-taken off d is) ∙ ap (λ b. b && nat_lt 0 (length d.owed)) (never-open d.running) ∙ sym is

pub offers-nothing : (d : DialogueState) (acts : Option (List ToldAct)) → is_owed d ≡ false → OffersOwed d d acts acts
offers-nothing d acts none = record { answer = None; offered = sym none; gives = (refl, stays_same acts) }

pub owes-none : (d : DialogueState) → d.running ≡ None → is_owed d ≡ false
owes-none d is = ap (λ (x : Option Running). is_open x && nat_lt 0 (length d.owed)) is

owes-by : (d : DialogueState) (r : Running) (shut some : Bool) → d.running ≡ Some r → r.is_closed ≡ shut → nat_lt 0 (length d.owed) ≡ some → is_owed d ≡ (not shut && some)
owes-by d r shut some is closes owes =
    ap (λ (x : Option Running). is_open x && nat_lt 0 (length d.owed)) is ∙ ap (λ b. not b && nat_lt 0 (length d.owed)) closes ∙ ap (λ b. not shut && b) owes

pub owes-closed : (d : DialogueState) (r : Running) → d.running ≡ Some r → r.is_closed ≡ true → is_owed d ≡ false
owes-closed d r is shut = owes-by d r true _ is shut refl

pub owes-empty : (d : DialogueState) (r : Running) → d.running ≡ Some r → r.is_closed ≡ false → length d.owed ≡ 0 → is_owed d ≡ false
owes-empty d r is unclosed empty =
    let test : nat_lt 0 (length d.owed) ≡ false = ap (λ n. nat_lt 0 n) empty in owes-by d r false false is unclosed test

pub offers-given : (d : DialogueState) (r : Running) (answer : Took) (owed : List ℕ) (acts acts' : Option (List ToldAct)) → d.running ≡ Some r → r.is_closed ≡ false → 0 < length d.owed →
    GivesFrom answer d.owed owed acts acts' → OffersOwed d (record d { running = Some (after_give answer r); owed = owed }) acts acts'
offers-given d r answer owed acts acts' is unclosed some given =
    let test : nat_lt 0 (length d.owed) ≡ true = grind (arith, nat_tests) in
    record {
      answer = Some answer;
      offered = sym (owes-by d r false true is unclosed test);
      gives = (given, ap (λ (x : Option Running). record d { running = x; owed = owed }) (sym (ap (option_map (after_give answer)) is)));
    }

-- Whether the program goes on taking lines

open-by : (answer : Took) (r : Option Running) → is_open r ≡ true → is_open (option_map (after_give answer) r) ≡ takes_on (Some answer)
open-by (takes.Bytes n) None is = is
open-by takes.NoRoom None is = is
open-by takes.Ended None is = refl
open-by (takes.Bytes n) (Some r) is = is
open-by takes.NoRoom (Some r) is = is
open-by takes.Ended (Some r) is = refl

pub open-after : (off : Bool) (answer : Option Took) (d after : DialogueState) (acts acts' : Option (List ToldAct)) → is_some answer ≡ takes_call off d →
    Offers answer (after_call off d) after acts acts' → is_open after.running ≡ takes_on answer
open-after off None d after acts acts' none gives =
    ap (λ (x : DialogueState). is_open x.running) (gives.0 ∙ after-not-taken off d (sym none)) ∙ never-open d.running
open-after off (Some answer) d after acts acts' some gives =
    ap (λ (x : DialogueState). is_open x.running) gives.1
    ∙ ap (λ (x : DialogueState). is_open (option_map (after_give answer) x.running)) (after-taken off d (sym some))
    ∙ open-by answer d.running (both-first (is_open d.running) _ (sym some))

still-some : (f : Running → Running) (r : Option Running) → is_some (option_map f r) ≡ is_some r
still-some f None = refl
still-some f (Some r) = refl

runs-called : (off : Bool) (d : DialogueState) → is_some (after_call off d).running ≡ is_some d.running
runs-called off d = by_case (takes_call off d) refl where
  by_case : (takes : Bool) → takes_call off d ≡ takes → is_some (after_call off d).running ≡ is_some d.running
  by_case true is = ap (λ (x : DialogueState). is_some x.running) (after-taken off d is)
  by_case false is = ap (λ (x : DialogueState). is_some x.running) (after-not-taken off d is) ∙ still-some closed d.running

-- a hook call ends no program
pub runs-after : (off : Bool) (answer : Option Took) (d after : DialogueState) (acts acts' : Option (List ToldAct)) → Offers answer (after_call off d) after acts acts' →
    is_some after.running ≡ is_some d.running
runs-after off None d after acts acts' gives = ap (λ (x : DialogueState). is_some x.running) gives.0 ∙ runs-called off d
runs-after off (Some answer) d after acts acts' gives =
    ap (λ (x : DialogueState). is_some x.running) gives.1 ∙ still-some (after_give answer) (after_call off d).running ∙ runs-called off d

goes-on : (answer : Option Took) → is_some answer ≡ true → answer ≢ Some takes.Ended → takes_on answer ≡ true
goes-on None some other = some
goes-on (Some (takes.Bytes n)) some other = refl
goes-on (Some takes.NoRoom) some other = refl
goes-on (Some takes.Ended) some other = absurd (other refl)

pub stays-open : (off : Bool) (answer : Option Took) (d after : DialogueState) (acts acts' : Option (List ToldAct)) → is_some answer ≡ takes_call off d →
    Offers answer (after_call off d) after acts acts' → takes_call off d ≡ true → answer ≢ Some takes.Ended → is_open after.running ≡ true
stays-open off answer d after acts acts' offered gives takes other =
    open-after off answer d after acts acts' offered gives ∙ goes-on answer (offered ∙ takes) other

-- a whole hook call
pub calls-hook : (off : Bool) (result : Put) (before mid after : DialogueState) (acts told noted acts' : Option (List ToldAct)) → mid ≡ after_call off before → Unchanged acts told →
    Appended told (emitted (hook_text off) ∷ []) noted → OffersOwed mid after noted acts' → after.starts ≡ before.starts →
    result ≡ (if is_open after.running || is_left after.starts then put.Done else put.Failed) → CallsHook off result before after acts acts'
calls-hook off result before mid after acts told noted acts' called same appended owed starts is =
    let offered : is_some owed.answer ≡ takes_call off before = owed.offered ∙ ap is_owed called ∙ owed-after-call off before in
    let gives : Offers owed.answer (after_call off before) after noted acts' = subst (λ d. Offers owed.answer d after noted acts') called owed.gives in
    record {
      answer = owed.answer;
      offered = offered;
      answers = is ∙ ap (λ b. if b || is_left after.starts then put.Done else put.Failed) (open-after off owed.answer before after noted acts' offered gives)
          ∙ ap (λ s. if takes_on owed.answer || is_left s then put.Done else put.Failed) starts;
      noted = noted;
      notes = stays_appended acts told noted (emitted (hook_text off) ∷ []) same appended;
      gives = gives;
    }
