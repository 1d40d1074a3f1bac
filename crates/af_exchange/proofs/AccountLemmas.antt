-- What stands between a line and its program keeps to the acts, act by act.
use Rattle.std.proofs.Common.{◌≡◌, ℕ, Bool, true, not, List, [], ◌∷◌, ◌++◌, take, drop, refl, sym, ap, ◌∙◌, subst, is_some}
use Rattle.std.specs.List.{fold}
use Rattle.std.specs.declared.option.Option.{Option}
use Rattle.std.specs.declared.option.Option.TheVariants.{None, Some}
use Rattle.af_io.specs.Observed.{Appended}
use Rattle.af_program.specs.declared.starts.Starts.{Starts}
use Rattle.af_program.specs.Acts.{ToldAct, gave, took, ended, captured, emitted, runs_after}
use Rattle.af_program.specs.Waits.{may_come, begun_once_more, after_end}
use Rattle.af_program.specs.Ledger.{Ledger, idle_after, ledger_after, ledger_begun, ledger_ended, ledger_failed, on_run}
use Rattle.af_program.proofs.LedgerLemmas.{fits-begun, fits-ended, fits-failed, fits-known, fits-on, holds-on, run-of}
use Rattle.af_phone.specs.declared.line.LineChange.{LineChange}
use Rattle.af_exchange.specs.declared.running.Running.{Running}
use Rattle.af_exchange.specs.Lines.{text_of, hook_text}
use Rattle.af_exchange.specs.Fronts.{SaysMore}
use Rattle.af_exchange.specs.Ledger.{Run, exchange_book, first_hook, new_run}
use Rattle.af_exchange.specs.Told.{RunTold, PastRunTold}
use Rattle.af_exchange.specs.Dialogue.{DialogueState, Account, Accounts, ToldNow, began_of, running_since, PassesOver, CanEnd, is_open}
use Rattle.af_exchange.proofs.RunLemmas.{told-gave, told-took, told-passed, told-changed, told-begun, told-ended}

-- some more acts
pub Accounts-on : (d d' : DialogueState) (before after : Option (List ToldAct)) (acts : List ToldAct) → Accounts d before → Appended before acts after →
    ((ledger : Ledger Run) → Account d ledger → Account d' (fold (ledger_after exchange_book) ledger acts)) →
    fold runs_after (is_some d.running) acts ≡ is_some d'.running → Accounts d' after
Accounts-on d d' before after acts = holds-on exchange_book first_hook (Account d) (Account d') (is_some d.running) (is_some d'.running) before after acts

-- Runs

-- the moment at which the program that runs was started stays
same-began : (d : DialogueState) (r r' : Running) → d.running ≡ Some r → r'.began ≡ r.began → began_of d.running ≡ Some r'.began
same-began d r r' is began = ap began_of is ∙ ap (λ n. Some n) (sym began)

-- what the run keeps to, if it is known which program runs
told-of : (d : DialogueState) (r : Running) (run : Run) → d.running ≡ Some r → ToldNow d run → RunTold run d.left d.owed (not r.is_closed)
told-of d r run is told = subst (λ x. RunTold run d.left d.owed (is_open x)) is told

-- the run of the program that runs goes on, and so does what stands between the two
Account-run : (d : DialogueState) (r r' : Running) (ledger : Ledger Run) (left owed : List ℕ) (off : Bool) (on : Run → Run) (idle : List (List ℕ)) (latest : List ℕ) → d.running ≡ Some r →
    r'.began ≡ r.began → Account d ledger → idle ≡ [] → latest ≡ hook_text off → ((run : Run) → RunTold run d.left d.owed (not r.is_closed) → RunTold (on run) left owed (not r'.is_closed)) →
    Account (record d { running = Some r'; left = left; owed = owed; off = off }) (record ledger { running = on_run on ledger.running; idle = idle; latest = latest })
Account-run d r r' ledger left owed off on idle latest is began account none hook goes = record {
  fits = fits-on PastRunTold (ToldNow d) (ToldNow (record d { running = Some r'; left = left; owed = owed; off = off })) d.starts (began_of d.running) (Some r'.began) ledger on idle latest
      (same-began d r r' is began) (λ run told. goes run (told-of d r run is told)) account.fits;
  none = none;
  hook = hook;
}

-- it gave bytes
pub Account-gave : (d : DialogueState) (r r' : Running) (bytes : List ℕ) → d.running ≡ Some r → r'.began ≡ r.began → r'.is_closed ≡ r.is_closed → (ledger : Ledger Run) →
    Account d ledger → Account (record d { running = Some r'; left = d.left ++ bytes }) (ledger_after exchange_book ledger (gave bytes))
Account-gave d r r' bytes is began closed ledger account =
    Account-run d r r' ledger (d.left ++ bytes) d.owed d.off (λ run. exchange_book.gave_on run bytes) ledger.idle ledger.latest is began account account.none account.hook (λ run told.
    subst (λ x. RunTold (exchange_book.gave_on run bytes) (d.left ++ bytes) d.owed (not x)) (sym closed) (told-gave run d.left d.owed bytes (not r.is_closed) told))

-- it took a part of what it is owed
pub Account-took : (d : DialogueState) (r r' : Running) (count : ℕ) → d.running ≡ Some r → r'.began ≡ r.began → r'.is_closed ≡ r.is_closed → (ledger : Ledger Run) →
    Account d ledger → Account (record d { running = Some r'; owed = drop count d.owed }) (ledger_after exchange_book ledger (took (take count d.owed)))
Account-took d r r' count is began closed ledger account =
    Account-run d r r' ledger d.left (drop count d.owed) d.off (λ run. exchange_book.took_on run (take count d.owed)) ledger.idle ledger.latest is began account account.none account.hook (λ run told.
    subst (λ x. RunTold (exchange_book.took_on run (take count d.owed)) d.left (drop count d.owed) (not x)) (sym closed) (told-took run d.left d.owed count (not r.is_closed) told))

-- nothing of the run has changed, except what is known of it
pub Account-knows : (d : DialogueState) (r r' : Running) → d.running ≡ Some r → r'.began ≡ r.began →
    ((run : Run) → RunTold run d.left d.owed (not r.is_closed) → RunTold run d.left d.owed (not r'.is_closed)) → (ledger : Ledger Run) → Account d ledger →
    Account (record d { running = Some r' }) ledger
Account-knows d r r' is began on ledger account = record {
  fits = fits-known PastRunTold (ToldNow d) (ToldNow (record d { running = Some r' })) d.starts (began_of d.running) (Some r'.began) ledger (same-began d r r' is began)
      (λ run told. on run (told-of d r run is told)) account.fits;
  none = account.none;
  hook = account.hook;
}

-- comments were skipped
pub Account-passed : (d : DialogueState) (left : List ℕ) → PassesOver d.left left → (ledger : Ledger Run) → Account d ledger → Account (record d { left = left }) ledger
Account-passed d left over ledger account = record {
  fits = fits-known PastRunTold (ToldNow d) (ToldNow (record d { left = left })) d.starts (began_of d.running) (began_of d.running) ledger refl
      (λ run told. told-passed run d.left left d.owed (is_open d.running) over told) account.fits;
  none = account.none;
  hook = account.hook;
}

-- a change was given
pub Account-changed : (d : DialogueState) (r : Running) (change : LineChange) (count : ℕ) → d.running ≡ Some r → SaysMore (change ∷ []) count d.left → (ledger : Ledger Run) →
    Account d ledger → Account (record d { running = Some r; left = drop count d.left }) (ledger_after exchange_book ledger (captured (text_of change)))
Account-changed d r change count is says ledger account =
    let now = run-of (ToldNow d) (began_of d.running) r.began ledger.running (ap began_of is) account.fits.now in
    Account-run d r r ledger (drop count d.left) d.owed d.off (λ run. exchange_book.captured_on run (text_of change)) (idle_after ledger.running (text_of change) ledger.idle) ledger.latest is refl account
    (ap (λ x. idle_after x (text_of change) ledger.idle) now.1 ∙ account.none) account.hook (λ run told. told-changed run d.left d.owed (not r.is_closed) change count says told)

-- the hook was moved while a program runs, which is owed the line or misses it
pub Account-called : (d : DialogueState) (r r' : Running) (owed : List ℕ) (off : Bool) → d.running ≡ Some r → r'.began ≡ r.began →
    ((run : Run) → RunTold run d.left d.owed (not r.is_closed) → RunTold (record run { told = run.told ++ hook_text off }) d.left owed (not r'.is_closed)) → (ledger : Ledger Run) →
    Account d ledger → Account (record d { running = Some r'; owed = owed; off = off }) (ledger_after exchange_book ledger (emitted (hook_text off)))
Account-called d r r' owed off is began on ledger account =
    Account-run d r r' ledger d.left owed off (λ run. exchange_book.emitted_on run (hook_text off)) ledger.idle (hook_text off) is began account account.none refl on

-- Starts

-- a program begins to run
pub Account-begun : (d : DialogueState) (at : ℕ) (starts : Starts) → d.running ≡ None → may_come d.starts at ≡ true → starts ≡ begun_once_more d.starts →
    (ledger : Ledger Run) → Account d ledger →
    Account (record d { running = Some (running_since at); starts = starts; left = []; owed = hook_text d.off }) (ledger_begun ledger at (new_run ledger.latest))
Account-begun d at starts none may begun ledger account =
    let after : DialogueState = record d { running = Some (running_since at); left = []; owed = hook_text d.off } in
    subst (λ s. Account (record after { starts = s }) (ledger_begun ledger at (new_run ledger.latest))) (sym begun) (record {
      fits = fits-begun PastRunTold (ToldNow d) (ToldNow after) d.starts (began_of d.running) ledger at (new_run ledger.latest) (ap began_of none) may
          (told-begun ledger.latest d.off account.hook) account.fits;
      none = account.none;
      hook = account.hook;
    })

-- a start fails
pub Account-failed : (d : DialogueState) (at : ℕ) (starts : Starts) → d.running ≡ None → may_come d.starts at ≡ true → starts ≡ after_end (begun_once_more d.starts) at at →
    (ledger : Ledger Run) → Account d ledger → Account (record d { starts = starts; left = []; owed = [] }) (ledger_failed ledger at)
Account-failed d at starts none may failed ledger account =
    subst (λ s. Account (record d { starts = s; left = []; owed = [] }) (ledger_failed ledger at)) (sym failed) (record {
      fits = fits-failed PastRunTold (ToldNow d) (ToldNow (record d { left = []; owed = [] })) d.starts (began_of d.running) ledger at (ap began_of none) may account.fits;
      none = account.none;
      hook = account.hook;
    })

-- the program that runs has ended
pub Account-ended : (d : DialogueState) (r : Running) (at : ℕ) (starts : Starts) → d.running ≡ Some r → CanEnd d → starts ≡ after_end d.starts r.began at → (ledger : Ledger Run) →
    Account d ledger → Account (record d { running = None; starts = starts }) (ledger_after exchange_book ledger (ended at))
Account-ended d r at starts is can after ledger account =
    subst (λ s. Account (record d { running = None; starts = s }) (ledger_ended ledger at)) (sym after) (record {
      fits = fits-ended PastRunTold (ToldNow d) (ToldNow (record d { running = None })) d.starts (began_of d.running) r.began ledger at (ap began_of is)
          (λ run told. told-ended run d.left d.owed (is_open d.running) can.0 told can.1) account.fits;
      none = account.none;
      hook = account.hook;
    })
