-- What a caller keeps of its program fits the ledger of the acts, act by act.
use Rattle.std.proofs.Common.{◌≡◌, ℕ, Bool, true, false, List, [], refl, sym, ap, ◌∙◌, subst, arith}
use Rattle.std.specs.List.{fold, All}
use Rattle.std.proofs.lemmas.List.Sums.{fold-append}
use Rattle.std.proofs.lemmas.List.Elements.{All-cons}
use Rattle.std.specs.declared.option.Option.{Option}
use Rattle.std.specs.declared.option.Option.TheVariants.{None, Some}
use Rattle.af_io.specs.Observed.{Appended, Unchanged}
use Rattle.af_io.proofs.AppendedLemmas.{appended_none, stays_appended}
use Rattle.af_program.specs.declared.starts.Starts.{Starts}
use Rattle.af_program.specs.Acts.{ToldAct, runs_in, runs_after}
use Rattle.af_program.specs.Waits.{KeepsStarts, may_come, begun_once_more, after_end}
use Rattle.af_program.specs.Ledger.{Book, Ledger, LedgerFits, NowFits, HoldsOf, ledger_after, ledger_begun, ledger_by, ledger_ended, ledger_failed, new_ledger, on_run, past_after, starts_once_ended}
use Rattle.af_program.proofs.StartLemmas.{starts-begun, starts-failed, starts-ended}

-- some more acts
pub holds-on : {Run : Type 0} (book : Book Run) (latest : List ℕ) (Is Is' : Ledger Run → Type 0) (runs runs' : Bool) (before after : Option (List ToldAct)) (acts : List ToldAct) →
    HoldsOf book latest Is runs before → Appended before acts after → ((ledger : Ledger Run) → Is ledger → Is' (fold (ledger_after book) ledger acts)) →
    fold runs_after runs acts ≡ runs' → HoldsOf book latest Is' runs' after
holds-on book latest Is Is' runs runs' before None acts holds added on run = tt
holds-on book latest Is Is' runs runs' None (Some after) acts holds added on run = absurd added
holds-on book latest Is Is' runs runs' (Some before) (Some after) acts holds added on run = (
  subst Is' (sym (ap (ledger_by book latest) added ∙ fold-append (ledger_after book) (new_ledger latest) before acts)) (on (ledger_by book latest before) holds.0),
  ap runs_in added ∙ fold-append runs_after false before acts ∙ ap (λ r. fold runs_after r acts) holds.1 ∙ run,
)

-- no act
pub no-act : (acts acts' : Option (List ToldAct)) → Unchanged acts acts' → Appended acts [] acts'
no-act acts acts' same = stays_appended acts acts' acts' [] same (appended_none acts')

-- while a program runs, the acts have a run for it
pub run-of : {Run : Type 0} (Now : Run → Type 0) (began : Option ℕ) (moment : ℕ) (now : Option Run) → began ≡ Some moment → NowFits Now began now → (run : Run) × (now ≡ Some run) × Now run
run-of Now None moment now is fits = grind arith
run-of Now (Some began) moment None is fits = absurd fits
run-of Now (Some began) moment (Some run) is fits = (run, refl, fits)

-- while none runs, they have none
pub no-run : {Run : Type 0} (Now : Run → Type 0) (began : Option ℕ) (now : Option Run) → began ≡ None → NowFits Now began now → now ≡ None
no-run Now began None is fits = refl
no-run Now None (Some run) is fits = absurd fits
no-run Now (Some began) (Some run) is fits = grind arith

-- the run of the program that runs goes on
now-on : {Run : Type 0} (Now Now' : Run → Type 0) (began : Option ℕ) (on : Run → Run) → ((run : Run) → Now run → Now' (on run)) → (now : Option Run) →
    NowFits Now began now → NowFits Now' began (on_run on now)
now-on Now Now' None on goes None fits = tt
now-on Now Now' None on goes (Some run) fits = fits
now-on Now Now' (Some began) on goes None fits = fits
now-on Now Now' (Some began) on goes (Some run) fits = goes run fits

pub fits-on : {Run : Type 0} (Past Now Now' : Run → Type 0) (kept : Starts) (began began' : Option ℕ) (ledger : Ledger Run) (on : Run → Run) (idle : List (List ℕ)) (latest : List ℕ) →
    began ≡ began' → ((run : Run) → Now run → Now' (on run)) → LedgerFits Past Now kept began ledger →
    LedgerFits Past Now' kept began' (record ledger { running = on_run on ledger.running; idle = idle; latest = latest })
fits-on Past Now Now' kept began began' ledger on idle latest same goes fits =
    subst (λ x. LedgerFits Past Now' kept x (record ledger { running = on_run on ledger.running; idle = idle; latest = latest })) same
    (record { past = fits.past; now = now-on Now Now' began on goes ledger.running fits.now; starts = fits.starts })

-- only what is known of its run has changed
now-known : {Run : Type 0} (Now Now' : Run → Type 0) (began : Option ℕ) (now : Option Run) → ((run : Run) → Now run → Now' run) → NowFits Now began now → NowFits Now' began now
now-known Now Now' None None known fits = tt
now-known Now Now' None (Some run) known fits = fits
now-known Now Now' (Some began) None known fits = fits
now-known Now Now' (Some began) (Some run) known fits = known run fits

pub fits-known : {Run : Type 0} (Past Now Now' : Run → Type 0) (kept : Starts) (began began' : Option ℕ) (ledger : Ledger Run) → began ≡ began' →
    ((run : Run) → Now run → Now' run) → LedgerFits Past Now kept began ledger → LedgerFits Past Now' kept began' ledger
fits-known Past Now Now' kept began began' ledger same known fits =
    subst (λ x. LedgerFits Past Now' kept x ledger) same
    (record { past = fits.past; now = now-known Now Now' began ledger.running known fits.now; starts = fits.starts })

-- no program runs, so that nothing goes on
pub fits-none : {Run : Type 0} (Past Now Now' : Run → Type 0) (kept : Starts) (began : Option ℕ) (ledger : Ledger Run) (on : Run → Run) (idle : List (List ℕ)) (latest : List ℕ) →
    began ≡ None → LedgerFits Past Now kept began ledger → LedgerFits Past Now' kept began (record ledger { running = on_run on ledger.running; idle = idle; latest = latest })
fits-none Past Now Now' kept began ledger on idle latest none fits = record {
  past = fits.past;
  now = subst (λ x. NowFits Now' x (on_run on ledger.running)) (sym none) (subst (λ x. NowFits Now' None (on_run on x)) (sym (no-run Now began ledger.running none fits.now)) tt);
  starts = fits.starts;
}

-- a program begins to run
pub fits-begun : {Run : Type 0} (Past Now Now' : Run → Type 0) (kept : Starts) (began : Option ℕ) (ledger : Ledger Run) (at : ℕ) (run : Run) → began ≡ None →
    may_come kept at ≡ true → Now' run → LedgerFits Past Now kept began ledger → LedgerFits Past Now' (begun_once_more kept) (Some at) (ledger_begun ledger at run)
fits-begun Past Now Now' kept began ledger at run none may new fits =
    record { past = fits.past; now = new; starts = starts-begun kept ledger.starts at may (subst (λ x. KeepsStarts kept x ledger.starts) none fits.starts) }

-- a start fails
pub fits-failed : {Run : Type 0} (Past Now Now' : Run → Type 0) (kept : Starts) (began : Option ℕ) (ledger : Ledger Run) (at : ℕ) → began ≡ None →
    may_come kept at ≡ true → LedgerFits Past Now kept began ledger → LedgerFits Past Now' (after_end (begun_once_more kept) at at) began (ledger_failed ledger at)
fits-failed Past Now Now' kept began ledger at none may fits =
    subst (λ x. LedgerFits Past Now' (after_end (begun_once_more kept) at at) x (ledger_failed ledger at)) (sym none) (record {
      past = fits.past;
      now = subst (λ x. NowFits Now' None x) (sym (no-run Now began ledger.running none fits.now)) tt;
      starts = starts-failed kept ledger.starts at may (subst (λ x. KeepsStarts kept x ledger.starts) none fits.starts);
    })

-- the program that runs has ended
pub fits-ended : {Run : Type 0} (Past Now Now' : Run → Type 0) (kept : Starts) (began : Option ℕ) (moment : ℕ) (ledger : Ledger Run) (at : ℕ) → began ≡ Some moment →
    ((run : Run) → Now run → Past run) → LedgerFits Past Now kept began ledger → LedgerFits Past Now' (after_end kept moment at) None (ledger_ended ledger at)
fits-ended Past Now Now' kept began moment ledger at is past fits =
    let run = run-of Now began moment ledger.running is fits.now in
    record {
      past = subst (λ now. All Past (past_after now ledger.past)) (sym run.1) (All-cons Past run.0 ledger.past (past run.0 run.2) fits.past);
      now = tt;
      starts = subst (λ now. KeepsStarts (after_end kept moment at) None (starts_once_ended now ledger.starts at)) (sym run.1)
          (starts-ended kept moment at ledger.starts (subst (λ x. KeepsStarts kept x ledger.starts) is fits.starts));
    }
