-- What stands between a device and its program keeps to the acts, act by act.
use Rattle.std.proofs.Common.{◌≡◌, ℕ, ◌+◌, ◌-◌, ◌*◌, ◌/◌, ◌≤◌, ◌<◌, ◌⊎◌, true, false, List, [], ◌∷◌, ◌++◌, length, min, take, drop, refl, sym, ap, ◌∙◌, subst, arith, is_some, append_assoc, add-zero}
use Rattle.std.specs.Prelude.{⊤, MatchOption}
use Rattle.std.specs.List.{fold, All}
use Rattle.std.proofs.lemmas.List.Elements.{All-cons}
use Rattle.std.proofs.lemmas.List.{take-append-drop, length-take-le}
use Rattle.std.specs.declared.option.Option.{Option}
use Rattle.std.specs.declared.option.Option.TheVariants.{None, Some}
use Rattle.af_io.specs.Observed.{Appended}
use Rattle.af_program.specs.declared.starts.Starts.{Starts}
use Rattle.af_program.specs.Acts.{ToldAct, gave, took, ended, captured, emitted, runs_after}
use Rattle.af_program.specs.Ledger.{Ledger, NowFits, idle_after, ledger_after, ledger_begun, ledger_ended, ledger_failed, on_run, past_after}
use Rattle.af_program.specs.Waits.{KeepsStarts, may_come, begun_once_more, after_end}
use Rattle.af_program.proofs.LedgerLemmas.{fits-begun, fits-ended, fits-failed, fits-known, fits-none, holds-on, no-run, run-of}
use Rattle.af_world.specs.declared.card_kind.CardKind.{CardKind}
use Rattle.af_world.specs.declared.card_kind.CardKind.TheVariants as kind
use Rattle.af_card.specs.declared.running.Running.{Running}
use Rattle.af_card.specs.Ledger.{Run, card_book, ledger_of, new_run}
use Rattle.af_card.specs.Fed.{RunFits, PastRunFits, HasWholeFrames, CapturedBy, CapturedNone, CapturedOf, HandedBy, IsInStep, IsSilent, sound_of}
use Rattle.af_card.specs.Lost.{lost_of, lost_in, lost_now, lost_before, lost_after, most_lost}
use Rattle.af_card.specs.Card.{IsFed, RunIsFed}
use Rattle.af_card.proofs.FedLemmas.{captured-gave, handed-took, emitted-in-step, handed-part, new-run-fits, less-left}
use Rattle.af_card.proofs.LostLemmas.{new-lost, took-lost, never-lost, untaken-lost, part-lost}
use Rattle.af_card.specs.Between.{BetweenState, Account, Accounts, FitsNow, began_of, running_since, CapturesBy, IsWhole, LeavesLess, gives_sound, hands_frames}

-- some more acts
pub Accounts-on : (b b' : BetweenState) (before after : Option (List ToldAct)) (acts : List ToldAct) → Accounts b before → Appended before acts after →
    ((ledger : Ledger Run) → Account b ledger → Account b' (fold (ledger_after card_book) ledger acts)) →
    fold runs_after (is_some b.running) acts ≡ is_some b'.running → Accounts b' after
Accounts-on b b' before after acts = holds-on card_book [] (Account b) (Account b') (is_some b.running) (is_some b'.running) before after acts

-- Runs

-- the moment at which the program that runs was started stays
same-began : (b : BetweenState) (r r' : Running) → b.running ≡ Some r → r'.began ≡ r.began → began_of b.running ≡ Some r'.began
same-began b r r' is began = ap began_of is ∙ ap (λ n. Some n) (sym began)

-- the run of the program that runs goes on, and so does what stands between the two
Account-run : (b : BetweenState) (r r' : Running) (ledger : Ledger Run) (left owed : List ℕ) (tick : Option ℕ) (lost : ℕ) (on : Run → Run) (idle : List (List ℕ)) (latest : List ℕ) →
    b.running ≡ Some r → r'.began ≡ r.began → Account b ledger → All (IsSilent b.shape.silence) idle →
    ((run : Run) → ledger.running ≡ Some run → FitsNow b run → (lost ≡ lost_of b.shape (record ledger { running = Some (on run) })) × RunFits b.shape (on run) left owed tick) →
    Account (record b { running = Some r'; left = left; owed = owed; tick = tick; lost = lost }) (record ledger { running = on_run on ledger.running; idle = idle; latest = latest })
Account-run b r r' ledger left owed tick lost on idle latest is began account silent goes =
    let now = run-of (FitsNow b) (began_of b.running) r.began ledger.running (ap began_of is) account.fits.now in
    let gone = goes now.0 now.1 now.2 in
    subst (λ x. Account (record b { running = Some r'; left = left; owed = owed; tick = tick; lost = lost }) (record ledger { running = on_run on x; idle = idle; latest = latest })) (sym now.1) (record {
      fits = record {
        past = account.fits.past;
        now = gone.1;
        starts = subst (λ x. KeepsStarts b.starts x ledger.starts) (same-began b r r' is began) account.fits.starts;
      };
      idle = silent;
      none = λ no. grind arith;
      lost = gone.0;
    })

-- the count stays if nothing more is lost
still-lost : (b : BetweenState) (ledger : Ledger Run) (before after : Run) → Account b ledger → ledger.running ≡ Some before → lost_in b.shape after ≡ lost_in b.shape before →
    b.lost ≡ lost_of b.shape (record ledger { running = Some after })
still-lost b ledger before after account is same =
    account.lost ∙ ap (λ now. min (lost_before b.shape ledger.past + lost_now b.shape now) most_lost) is ∙
    ap (λ n. min (lost_before b.shape ledger.past + n) most_lost) (sym same)

-- so many more frames are lost
more-lost : (b : BetweenState) (ledger : Ledger Run) (before after : Run) (frames : ℕ) → Account b ledger → ledger.running ≡ Some before →
    lost_in b.shape after ≡ lost_in b.shape before + frames → min (b.lost + frames) most_lost ≡ lost_of b.shape (record ledger { running = Some after })
more-lost b ledger before after frames account is more =
    ap (λ n. min (n + frames) most_lost) (account.lost ∙ ap (λ now. min (lost_before b.shape ledger.past + lost_now b.shape now) most_lost) is) ∙
    stays-full (lost_before b.shape ledger.past) (lost_in b.shape before) frames most_lost ∙ ap (λ n. min (lost_before b.shape ledger.past + n) most_lost) (sym more)
  where
    stays-full : (past now frames most : ℕ) → min (min (past + now) most + frames) most ≡ min (past + (now + frames)) most
    stays-full past now frames most = omega arith

-- Given and taken

-- a program that gives sound gave some
pub Account-gave : (b : BetweenState) (r r' : Running) (bytes : List ℕ) → b.running ≡ Some r → r'.began ≡ r.began → gives_sound b.shape.kind ≡ true → (ledger : Ledger Run) →
    Account b ledger → Account (record b { running = Some r'; left = b.left ++ bytes }) (ledger_after card_book ledger (gave bytes))
Account-gave b r r' bytes is began gives ledger account =
    Account-run b r r' ledger (b.left ++ bytes) b.owed b.tick b.lost (λ run. card_book.gave_on run bytes) ledger.idle ledger.latest is began account account.idle (λ run now fits. (
      still-lost b ledger run (card_book.gave_on run bytes) account now refl,
      record {
        captured = captured-gave b.shape.kind b.shape run.given run.captured b.left bytes gives fits.captured;
        handed = fits.handed;
        in_step = fits.in_step;
      },
    ))

-- a program took a part of what it is owed
pub Account-took : (b : BetweenState) (r r' : Running) (count : ℕ) → b.running ≡ Some r → r'.began ≡ r.began → 1 ≤ count → count ≤ length b.owed → (ledger : Ledger Run) →
    Account b ledger → Account (record b { running = Some r'; owed = drop count b.owed }) (ledger_after card_book ledger (took (take count b.owed)))
Account-took b r r' count is began some most ledger account =
    Account-run b r r' ledger b.left (drop count b.owed) b.tick b.lost (λ run. card_book.took_on run (take count b.owed)) ledger.idle ledger.latest is began account account.idle (λ run now fits. (
      still-lost b ledger run (card_book.took_on run (take count b.owed)) account now (took-lost b.shape run b.left b.owed b.tick count most fits),
      record {
        captured = fits.captured;
        handed = handed-took b.shape.kind b.shape run.emitted run.taken b.owed count some most fits.handed;
        in_step = fits.in_step;
      },
    ))

-- nothing of the run has changed
pub Account-knows : (b : BetweenState) (r r' : Running) → b.running ≡ Some r → r'.began ≡ r.began → (ledger : Ledger Run) → Account b ledger → Account (record b { running = Some r' }) ledger
Account-knows b r r' is began ledger account = record {
  fits = fits-known (PastRunFits b.shape) (FitsNow b) (FitsNow b) b.starts (began_of b.running) (Some r'.began) ledger (same-began b r r' is began) (λ run fits. fits) account.fits;
  idle = account.idle;
  none = λ no. grind arith;
  lost = account.lost;
}

-- While none runs

-- the acts have no run
no-run-of : (b : BetweenState) (ledger : Ledger Run) → b.running ≡ None → Account b ledger → ledger.running ≡ None
no-run-of b ledger none account = no-run (FitsNow b) (began_of b.running) ledger.running (ap began_of none) account.fits.now

-- the sound of a tick changes nothing but what is idle
Account-none : (b : BetweenState) (tick : Option ℕ) (ledger : Ledger Run) (on : Run → Run) (idle : List (List ℕ)) (latest : List ℕ) → b.running ≡ None →
    All (IsSilent b.shape.silence) idle → Account b ledger → Account (record b { tick = tick }) (record ledger { running = on_run on ledger.running; idle = idle; latest = latest })
Account-none b tick ledger on idle latest none silent account =
    let no = no-run-of b ledger none account in
    record {
      fits = fits-none (PastRunFits b.shape) (FitsNow b) (FitsNow (record b { tick = tick })) b.starts (began_of b.running) ledger on idle latest (ap began_of none) account.fits;
      idle = silent;
      none = account.none;
      lost = account.lost ∙ ap (λ now. min (lost_before b.shape ledger.past + lost_now b.shape now) most_lost) (no ∙ sym (ap (on_run on) no));
    }

-- Captured

-- a tick is captured in which no program runs
pub Account-idle : (b : BetweenState) (sound : List ℕ) (tick : Option ℕ) → b.running ≡ None → IsSilent b.shape.silence sound → (ledger : Ledger Run) → Account b ledger →
    Account (record b { tick = tick }) (ledger_after card_book ledger (captured sound))
Account-idle b sound tick none silent ledger account =
    Account-none b tick ledger (λ run. card_book.captured_on run sound) (idle_after ledger.running sound ledger.idle) ledger.latest none
    (subst (λ now. All (IsSilent b.shape.silence) (idle_after now sound ledger.idle)) (sym (no-run-of b ledger none account))
    (All-cons (IsSilent b.shape.silence) sound ledger.idle silent account.idle)) account

-- a sound of a tick is captured of a run
Account-captured : (b : BetweenState) (r : Running) (sound left : List ℕ) → b.running ≡ Some r → b.tick ≡ None → (ledger : Ledger Run) → Account b ledger →
    ((given : List ℕ) (sounds : List (List ℕ)) → CapturedBy b.shape.kind b.shape given sounds b.left → CapturedBy b.shape.kind b.shape given (sound ∷ sounds) left) →
    Account (record b { left = left; tick = Some (length sound) }) (ledger_after card_book ledger (captured sound))
Account-captured b r sound left is tick ledger account on =
    let told = run-of (FitsNow b) (began_of b.running) r.began ledger.running (ap began_of is) account.fits.now in
    subst (λ x. Account (record b { running = x; left = left; tick = Some (length sound) }) (ledger_after card_book ledger (captured sound))) (sym is)
    (Account-run b r r ledger left b.owed (Some (length sound)) b.lost (λ run. card_book.captured_on run sound) (idle_after ledger.running sound ledger.idle) ledger.latest is refl account
    (subst (λ now. All (IsSilent b.shape.silence) (idle_after now sound ledger.idle)) (sym told.1) account.idle) (λ run now fits. (
      still-lost b ledger run (card_book.captured_on run sound) account now refl,
      record {
        captured = on run.given run.captured fits.captured;
        handed = fits.handed;
        in_step = (refl, subst (λ x. IsInStep x run.captured run.emitted) tick fits.in_step);
      },
    )))

-- a loudspeaker and an encoder capture silence
pub Account-silent : (b : BetweenState) (r : Running) (sound : List ℕ) → b.running ≡ Some r → b.tick ≡ None → gives_sound b.shape.kind ≡ false →
    CapturesBy b.shape.kind b.shape b.left (length sound) → IsSilent b.shape.silence sound → (ledger : Ledger Run) → Account b ledger → Account (record b { tick = Some (length sound) }) (ledger_after card_book ledger (captured sound))
Account-silent b r sound is tick takes-alone can silent ledger account =
    Account-captured b r sound b.left is tick ledger account (λ given sounds c. silently b.shape.kind takes-alone can given sounds c) where
      more : (given : List ℕ) (sounds : List (List ℕ)) → CapturedNone b.shape.silence given sounds b.left → CapturedNone b.shape.silence given (sound ∷ sounds) b.left
      more given sounds c = record { given = c.given; silent = All-cons (IsSilent b.shape.silence) sound sounds silent c.silent; none = c.none }

      silently : (k : CardKind) → gives_sound k ≡ false → CapturesBy k b.shape b.left (length sound) → (given : List ℕ) (sounds : List (List ℕ)) → CapturedBy k b.shape given sounds b.left → CapturedBy k b.shape given (sound ∷ sounds) b.left
      silently kind.Speaker gives can given sounds c = more given sounds c
      silently kind.Microphone gives can given sounds c = grind arith
      silently kind.Card gives can given sounds c = grind arith
      silently kind.Encoder gives can given sounds c = record {
        silence_alone = more given sounds c.silence_alone;
        whole = All-cons (HasWholeFrames b.shape.frame_bytes) sound sounds can c.whole;
      }

-- what a program gave is captured from its front
pub Account-front : (b : BetweenState) (r : Running) (bytes : ℕ) → b.running ≡ Some r → b.tick ≡ None → gives_sound b.shape.kind ≡ true →
    CapturesBy b.shape.kind b.shape b.left bytes → (ledger : Ledger Run) → Account b ledger →
    Account (record b { left = drop bytes b.left; tick = Some (length (take bytes b.left)) }) (ledger_after card_book ledger (captured (take bytes b.left)))
Account-front b r bytes is tick gives can ledger account =
    Account-captured b r (take bytes b.left) (drop bytes b.left) is tick ledger account (λ given sounds c. front b.shape.kind gives can given sounds c) where
      sound : List ℕ
      sound = take bytes b.left

      parted : (given : List ℕ) (sounds : List (List ℕ)) → bytes ≤ length b.left → IsWhole b.shape.frame_bytes bytes → CapturedOf b.shape.frame_bytes given sounds b.left →
          CapturedOf b.shape.frame_bytes given (sound ∷ sounds) (drop bytes b.left)
      parted given sounds most whole c = record {
        given = c.given ∙ ap (λ x. sound_of sounds ++ x) (sym (take-append-drop bytes b.left)) ∙ sym (append_assoc (sound_of sounds) sound (drop bytes b.left));
        whole = All-cons (HasWholeFrames b.shape.frame_bytes) sound sounds (whole.0, length-take-le bytes b.left most ∙ whole.1) c.whole;
      }

      front : (k : CardKind) → gives_sound k ≡ true → CapturesBy k b.shape b.left bytes → (given : List ℕ) (sounds : List (List ℕ)) → CapturedBy k b.shape given sounds b.left →
          CapturedBy k b.shape given (sound ∷ sounds) (drop bytes b.left)
      front kind.Speaker gave-some can given sounds c = grind arith
      front kind.Microphone gave-some can given sounds c = parted given sounds can.0 can.1 c
      front kind.Card gave-some can given sounds c = parted given sounds can.0 can.1 c
      front kind.Encoder gave-some can given sounds c = grind arith

-- Emitted

-- a tick is emitted in which no program runs
pub Account-idles : (b : BetweenState) (sound : List ℕ) → b.running ≡ None → (ledger : Ledger Run) → Account b ledger → Account (record b { tick = None }) (ledger_after card_book ledger (emitted sound))
Account-idles b sound none ledger account = Account-none b None ledger (λ run. card_book.emitted_on run sound) ledger.idle sound none account.idle account

-- the count after one more sound was emitted to a program
abbrev pub CountsMore : BetweenState → List ℕ → ℕ → Type 0
CountsMore b sound lost = (ledger : Ledger Run) (run : Run) → Account b ledger → ledger.running ≡ Some run → RunFits b.shape run b.left b.owed (Some (length sound)) →
    lost ≡ lost_of b.shape (record ledger { running = Some (record run { emitted = sound ∷ run.emitted }) })

-- a loudspeaker and a microphone lose no sound
pub counts-none : (b : BetweenState) (sound : List ℕ) → (b.shape.kind ≡ kind.Speaker) ⊎ (b.shape.kind ≡ kind.Microphone) → CountsMore b sound b.lost
counts-none b sound no-card ledger run account is fits =
    still-lost b ledger run (record run { emitted = sound ∷ run.emitted }) account is
    (never-lost b.shape.kind no-card b.shape.frame_bytes run.emitted (sound ∷ run.emitted) run.taken)

-- a card or an encoder loses all of a sound for which it has no room
pub counts-all : (b : BetweenState) (sound : List ℕ) → hands_frames b.shape.kind ≡ true → CountsMore b sound (lost_after b.lost (length sound) b.shape.frame_bytes)
counts-all b sound card ledger run account is fits =
    more-lost b ledger run (record run { emitted = sound ∷ run.emitted }) (length sound / b.shape.frame_bytes) account is (untaken-lost b.shape run b.left b.owed sound card fits)

-- a tick is emitted to a run, and nothing of it is taken now
pub Account-untaken : (b : BetweenState) (r r' : Running) (sound owed : List ℕ) (lost : ℕ) → b.running ≡ Some r → r'.began ≡ r.began → b.tick ≡ Some (length sound) →
    ((sounds : List (List ℕ)) (taken : List ℕ) → HandedBy b.shape.kind b.shape sounds taken b.owed → HandedBy b.shape.kind b.shape (sound ∷ sounds) taken owed) → CountsMore b sound lost →
    (ledger : Ledger Run) → Account b ledger → Account (record b { running = Some r'; owed = owed; tick = None; lost = lost }) (ledger_after card_book ledger (emitted sound))
Account-untaken b r r' sound owed lost is began tick on counts ledger account =
    Account-run b r r' ledger b.left owed None lost (λ run. card_book.emitted_on run sound) ledger.idle sound is began account account.idle (λ run now fits. (
      counts ledger run account now (subst (λ x. RunFits b.shape run b.left b.owed x) tick fits),
      record {
        captured = fits.captured;
        handed = on run.emitted run.taken fits.handed;
        in_step = emitted-in-step (length sound) sound run.captured run.emitted refl (subst (λ x. IsInStep x run.captured run.emitted) tick fits.in_step);
      },
    ))

-- a card or an encoder takes a first part of the sound of a tick
pub Account-passed : (b : BetweenState) (r r' : Running) (sound : List ℕ) (count rest frames : ℕ) → b.running ≡ Some r → r'.began ≡ r.began → b.tick ≡ Some (length sound) →
    hands_frames b.shape.kind ≡ true → b.owed ≡ [] → count ≤ length sound → rest < b.shape.frame_bytes → count + rest ≡ frames * b.shape.frame_bytes → (ledger : Ledger Run) →
    Account b ledger →
    Account (record b {
      running = Some r';
      owed = take (min rest (length sound - count)) (drop count sound);
      tick = None;
      lost = lost_after b.lost (length sound - count - length (take (min rest (length sound - count)) (drop count sound))) b.shape.frame_bytes;
    }) (ledger_after card_book (ledger_after card_book ledger (emitted sound)) (took (take count sound)))
Account-passed b r r' sound count rest frames is began tick card none most less whole ledger account =
    let owed = take (min rest (length sound - count)) (drop count sound) in
    let without = (length sound - count - length owed) / b.shape.frame_bytes in
    let on : Run → Run = λ run. card_book.took_on (card_book.emitted_on run sound) (take count sound) in
    subst (λ x. Account (record b { running = Some r'; owed = owed; tick = None; lost = min (b.lost + without) most_lost }) (record ledger { running = x; latest = sound }))
    (on-twice (λ run. card_book.emitted_on run sound) (λ run. card_book.took_on run (take count sound)) ledger.running)
    (Account-run b r r' ledger b.left owed None (min (b.lost + without) most_lost) on ledger.idle sound is began account account.idle (λ run now fits.
    let fitted : RunFits b.shape run b.left [] (Some (length sound)) = subst (λ x. RunFits b.shape run b.left x (Some (length sound))) none (subst (λ x. RunFits b.shape run b.left b.owed x) tick fits) in (
      more-lost b ledger run (on run) without account now (part-lost b.shape run b.left sound count rest frames card most less whole fitted),
      record {
        captured = fits.captured;
        handed = handed-part b.shape.kind card b.shape run.emitted run.taken sound count rest frames most less whole (subst (HandedBy b.shape.kind b.shape run.emitted run.taken) none fits.handed);
        in_step = emitted-in-step (length sound) sound run.captured run.emitted refl (subst (λ x. IsInStep x run.captured run.emitted) tick fits.in_step);
      },
    )))
  where
    on-twice : (f g : Run → Run) (now : Option Run) → on_run (λ run. g (f run)) now ≡ on_run g (on_run f now)
    on-twice f g None = refl
    on-twice f g (Some run) = refl

-- Starts

-- a program begins to run
pub Account-begun : (b : BetweenState) (at : ℕ) (starts : Starts) → 1 ≤ b.shape.frame_bytes → b.running ≡ None → may_come b.starts at ≡ true → starts ≡ begun_once_more b.starts → b.tick ≡ None →
    (ledger : Ledger Run) → Account b ledger → Account (record b { running = Some (running_since at); starts = starts }) (ledger_begun ledger at new_run)
Account-begun b at starts some none may begun tick ledger account =
    let empty = account.none none in
    let new : FitsNow b new_run = subst (λ x. RunFits b.shape new_run x b.owed b.tick) (sym empty.0) (subst (λ x. RunFits b.shape new_run [] x b.tick) (sym empty.1)
    (subst (λ x. RunFits b.shape new_run [] [] x) (sym tick) (new-run-fits b.shape.kind b.shape refl some))) in
    subst (λ s. Account (record b { running = Some (running_since at); starts = s }) (ledger_begun ledger at new_run)) (sym begun) (record {
      fits = fits-begun (PastRunFits b.shape) (FitsNow b) (FitsNow b) b.starts (began_of b.running) ledger at new_run (ap began_of none) may new account.fits;
      idle = account.idle;
      none = λ no. grind arith;
      lost = account.lost ∙ ap (λ now. min (lost_before b.shape ledger.past + lost_now b.shape now) most_lost) (no-run-of b ledger none account) ∙
          ap (λ n. min (lost_before b.shape ledger.past + n) most_lost) (sym (new-lost b.shape));
    })

-- a start fails
pub Account-failed : (b : BetweenState) (at : ℕ) (starts : Starts) → b.running ≡ None → may_come b.starts at ≡ true → starts ≡ after_end (begun_once_more b.starts) at at →
    (ledger : Ledger Run) → Account b ledger → Account (record b { starts = starts }) (ledger_failed ledger at)
Account-failed b at starts none may failed ledger account =
    subst (λ s. Account (record b { starts = s }) (ledger_failed ledger at)) (sym failed) (record {
      fits = fits-failed (PastRunFits b.shape) (FitsNow b) (FitsNow b) b.starts (began_of b.running) ledger at (ap began_of none) may account.fits;
      idle = account.idle;
      none = account.none;
      lost = account.lost;
    })

-- the program that runs has ended
pub Account-ended : (b : BetweenState) (r : Running) (at : ℕ) (starts : Starts) → b.running ≡ Some r → b.tick ≡ None → 1 ≤ b.shape.frame_bytes → LeavesLess b.shape.kind b.shape b.left →
    starts ≡ after_end b.starts r.began at → (ledger : Ledger Run) → Account b ledger →
    Account (record b { running = None; left = []; owed = []; starts = starts }) (ledger_after card_book ledger (ended at))
Account-ended b r at starts is tick some less after ledger account =
    let now = run-of (FitsNow b) (began_of b.running) r.began ledger.running (ap began_of is) account.fits.now in
    let past : (run : Run) → FitsNow b run → PastRunFits b.shape run = λ run fits. (
      b.left,
      b.owed,
      subst (λ x. RunFits b.shape run b.left b.owed x) tick fits,
      less-left b.shape.kind b.shape run.given run.captured b.left some less fits.captured,
    ) in
    let after_all : BetweenState = record b { running = None; left = []; owed = [] } in
    subst (λ s. Account (record after_all { starts = s }) (ledger_ended ledger at)) (sym after) (record {
      fits = fits-ended (PastRunFits b.shape) (FitsNow b) (FitsNow after_all) b.starts (began_of b.running) r.began ledger at (ap began_of is) past account.fits;
      idle = account.idle;
      none = λ no. (refl, refl);
      lost = subst (λ x. b.lost ≡ min (lost_before b.shape (past_after x ledger.past) + 0) most_lost) (sym now.1) (account.lost ∙
          ap (λ x. min (lost_before b.shape ledger.past + lost_now b.shape x) most_lost) now.1 ∙
          ap (λ n. min n most_lost) (sym (add-zero (lost_before b.shape ledger.past + lost_in b.shape now.0))));
    })

-- the promise

fed-now : (b : BetweenState) (began : Option ℕ) (now : Option Run) → NowFits (FitsNow b) began now → RunIsFed b.shape now
fed-now b began None fits = tt
fed-now b None (Some run) fits = absurd fits
fed-now b (Some began) (Some run) fits = (b.left, b.owed, b.tick, fits)

-- what fits the acts keeps to the promise
pub fed-where : (b : BetweenState) (acts : Option (List ToldAct)) → Accounts b acts → MatchOption acts ⊤ (λ told. IsFed b.shape b.starts.restarts told)
fed-where b None fits = tt
fed-where b (Some acts) fits = record {
  past = record { past = fits.0.fits.past; idle = fits.0.idle };
  now = fed-now b (began_of b.running) (ledger_of acts).running fits.0.fits.now;
  starts = fits.0.fits.starts.fit;
}
