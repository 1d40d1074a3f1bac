-- What the program of a loudspeaker is given.
use Rattle.std.proofs.Common.{◌≡◌, ◌⊎◌, inl, inr, ℕ, zero, suc, ◌==◌, ◌&&◌, Bool, true, false, List, [], ◌∷◌, ◌++◌, flat_map, slice_get, refl, sym, ap, ◌∙◌, subst, append_assoc, append-nil, eqb-true}
use Rattle.std.proofs.lemmas.List.Concat.{flat_map-append}
use Rattle.std.proofs.lemmas.List.Elements.{All-append, All-cons, All-head, All-nil, All-tail, All-weaker}
use Rattle.std.specs.List.{All, fold}
use Rattle.std.specs.declared.option.Option.{Option}
use Rattle.std.specs.declared.option.Option.TheVariants.{None, Some}
use Rattle.af_program.specs.Acts.{ToldAct, launched, asked, gave, offered, took, ended, captured, emitted}
use Rattle.af_program.specs.declared.program.Launched.TheVariants as launch
use Rattle.af_program.specs.Ledger.{Ledger, ledger_after, new_ledger, on_run, past_after}
use Rattle.af_world.specs.declared.card_kind.CardKind.TheVariants as kind
use Rattle.af_world.specs.declared.happening.Happening.{Happening}
use Rattle.af_world.specs.declared.happening.Happening.TheVariants.{Woke, Read, Wrote, Closed, Captured, Emitted, Hooked}
use Rattle.af_world.specs.Log.{Log}
use Rattle.af_card.specs.declared.shape.Shape.{Shape}
use Rattle.af_card.specs.Ledger.{Run, card_book, ledger_of, new_run}
use Rattle.af_card.specs.Fed.{HandedBy, PastRunFits, RunFits, sound_of}
use Rattle.af_card.specs.Card.{IsFed, RunIsFed}
use Rattle.af_model.proofs.BoolTestLemmas.{none_some, some_is}
use Rattle.af_model.proofs.SafeLemmas.{all_at}
use Rattle.af_tools.specs.Play.{gained_samples}
use Rattle.af_end_to_end.specs.Aplay.{DoneJob, EmitsSound, SoundsAt, frames_of}
use Rattle.af_end_to_end.specs.Speaker.{IsEmittedIn, IsHanded, JobsAreHanded, Ran, SpeakersAreHanded, emitted_by, emitted_in, sound_if, sounds_of}

-- Sounds in order

-- sounds of which the latest stands first, in order
abbrev in_order : List (List ℕ) → List (List ℕ)
in_order [] = []
in_order (sound ∷ earlier) = in_order earlier ++ sound ∷ []

joined : (sounds : List (List ℕ)) → flat_map (λ sound. sound) (in_order sounds) ≡ sound_of sounds
joined [] = refl
joined (sound ∷ earlier) =
    flat_map-append (λ (x : List ℕ). x) (in_order earlier) (sound ∷ [])
    ∙ ap (λ l. l ++ (sound ++ [])) (joined earlier)
    ∙ ap (λ l. sound_of earlier ++ l) (append-nil sound)

-- Where the sounds of a run stand among all

-- those of the program that runs are the last ones
record IsLast (sounds : List (List ℕ)) (run : Run) : Type 0 where
  earlier : List (List ℕ)
  are : sounds ≡ earlier ++ in_order run.emitted

-- those of one that has ended are followed by others
record IsWithin (sounds : List (List ℕ)) (run : Run) : Type 0 where
  earlier : List (List ℕ)
  later : List (List ℕ)
  are : sounds ≡ earlier ++ (in_order run.emitted ++ later)

abbrev IsLastOf : List (List ℕ) → Option Run → Type 0
IsLastOf sounds None = Unit {0}
IsLastOf sounds (Some run) = IsLast sounds run

record Stand (sounds : List (List ℕ)) (l : Ledger Run) : Type 0 where
  now : IsLastOf sounds l.running
  past : All (IsWithin sounds) l.past

within_more : (sounds more : List (List ℕ)) (run : Run) → IsWithin sounds run → IsWithin (sounds ++ more) run
within_more sounds more run w = record {
  earlier = w.earlier;
  later = w.later ++ more;
  are = ap (λ l. l ++ more) w.are ∙ append_assoc w.earlier (in_order run.emitted ++ w.later) more ∙ ap (λ l. w.earlier ++ l) (append_assoc (in_order run.emitted) w.later more);
}

all_more : (sounds more : List (List ℕ)) (runs : List Run) → All (IsWithin sounds) runs → All (IsWithin (sounds ++ more)) runs
all_more sounds more runs h = All-weaker (IsWithin sounds) (IsWithin (sounds ++ more)) (within_more sounds more) runs h

-- after one more act
stand_after : (sounds : List (List ℕ)) (l : Ledger Run) (act : ToldAct) → Stand sounds l → Stand (sounds ++ emitted_by act) (ledger_after card_book l act)
stand_after sounds l (launched at words launch.Runs) h = subst (λ s. Stand s (ledger_after card_book l (launched at words launch.Runs))) (sym (append-nil sounds)) (record { now = record { earlier = sounds; are = sym (append-nil sounds) }; past = h.past })
stand_after sounds l (launched at words launch.Failed) h = subst (λ s. Stand s (ledger_after card_book l (launched at words launch.Failed))) (sym (append-nil sounds)) (record { now = h.now; past = h.past })
stand_after sounds l (launched at words launch.OutOfMemory) h = subst (λ s. Stand s (ledger_after card_book l (launched at words launch.OutOfMemory))) (sym (append-nil sounds)) (record { now = h.now; past = h.past })
stand_after sounds l (asked room came) h = subst (λ s. Stand s l) (sym (append-nil sounds)) h
stand_after sounds l (gave bytes) h = subst (λ s. Stand s (ledger_after card_book l (gave bytes))) (sym (append-nil sounds)) (record { now = still l.running h.now; past = h.past })
  where
    still : (o : Option Run) → IsLastOf sounds o → IsLastOf sounds (on_run (λ run. card_book.gave_on run bytes) o)
    still None h = tt
    still (Some run) h = record { earlier = h.earlier; are = h.are }
stand_after sounds l (offered bytes answer) h = subst (λ s. Stand s l) (sym (append-nil sounds)) h
stand_after sounds l (took bytes) h = subst (λ s. Stand s (ledger_after card_book l (took bytes))) (sym (append-nil sounds)) (record { now = still l.running h.now; past = h.past })
  where
    still : (o : Option Run) → IsLastOf sounds o → IsLastOf sounds (on_run (λ run. card_book.took_on run bytes) o)
    still None h = tt
    still (Some run) h = record { earlier = h.earlier; are = h.are }
stand_after sounds l (ended at) h = subst (λ s. Stand s (ledger_after card_book l (ended at))) (sym (append-nil sounds)) (record { now = tt; past = over l.running h.now })
  where
    over : (o : Option Run) → IsLastOf sounds o → All (IsWithin sounds) (past_after o l.past)
    over None now = h.past
    over (Some run) now = All-cons (IsWithin sounds) run l.past (record { earlier = now.earlier; later = []; are = now.are ∙ ap (λ s. now.earlier ++ s) (sym (append-nil (in_order run.emitted))) }) h.past
stand_after sounds l (captured sound) h = subst (λ s. Stand s (ledger_after card_book l (captured sound))) (sym (append-nil sounds)) (record { now = still l.running h.now; past = h.past })
  where
    still : (o : Option Run) → IsLastOf sounds o → IsLastOf sounds (on_run (λ run. card_book.captured_on run sound) o)
    still None h = tt
    still (Some run) h = record { earlier = h.earlier; are = h.are }
stand_after sounds l (emitted sound) h = record { now = more l.running h.now; past = all_more sounds (sound ∷ []) l.past h.past }
  where
    more : (o : Option Run) → IsLastOf sounds o → IsLastOf (sounds ++ sound ∷ []) (on_run (λ run. card_book.emitted_on run sound) o)
    more None h = tt
    more (Some run) h = record { earlier = h.earlier; are = ap (λ l. l ++ sound ∷ []) h.are ∙ append_assoc h.earlier (in_order run.emitted) (sound ∷ []) }

-- after all acts
stand_on : (acts : List ToldAct) (sounds : List (List ℕ)) (l : Ledger Run) → Stand sounds l → Stand (sounds ++ emitted_in acts) (fold (ledger_after card_book) l acts)
stand_on [] sounds l h = subst (λ s. Stand s l) (sym (append-nil sounds)) h
stand_on (act ∷ acts) sounds l h =
    subst (λ s. Stand s (fold (ledger_after card_book) (ledger_after card_book l act) acts)) (append_assoc sounds (emitted_by act) (emitted_in acts))
    (stand_on acts (sounds ++ emitted_by act) (ledger_after card_book l act) (stand_after sounds l act h))

stands : (acts : List ToldAct) → Stand (emitted_in acts) (ledger_of acts)
stands acts = stand_on acts [] (new_ledger []) (record { now = tt; past = All-nil (IsWithin []) })

within_of : (sounds : List (List ℕ)) (l : Ledger Run) (run : Run) → Stand sounds l → Ran l run → IsWithin sounds run
within_of sounds l run h (inl now) = last l.running h.now now
  where
    last : (o : Option Run) → IsLastOf sounds o → o ≡ Some run → IsWithin sounds run
    last None h e = absurd (none_some e)
    last (Some r) h e = subst (IsWithin sounds) (some_is e) (record { earlier = h.earlier; later = []; are = h.are ∙ ap (λ s. h.earlier ++ s) (sym (append-nil (in_order r.emitted))) })
within_of sounds l run h (inr past) = all_at (IsWithin sounds) l.past past.0 run h.past past.1

-- What fits of a run

record FitsSo (shape : Shape) (run : Run) : Type 0 where
  left : List ℕ
  owed : List ℕ
  tick : Option ℕ
  fits : RunFits shape run left owed tick

fits_of : (shape : Shape) (restarts : ℕ) (acts : List ToldAct) (run : Run) → IsFed shape restarts acts → Ran (ledger_of acts) run → FitsSo shape run
fits_of shape restarts acts run fed (inl now) = last (ledger_of acts).running fed.now now
  where
    last : (o : Option Run) → RunIsFed shape o → o ≡ Some run → FitsSo shape run
    last None h e = absurd (none_some e)
    last (Some r) h e = subst (FitsSo shape) (some_is e) (record { left = h.0; owed = h.1; tick = h.2; fits = h.3 })
fits_of shape restarts acts run fed (inr past) =
    let h = all_at (PastRunFits shape) (ledger_of acts).past past.0 run fed.past.past past.1 in
    record { left = h.0; owed = h.1; tick = None; fits = h.2 }

-- The emits of a log

emitted_later : (h : Happening) (log : Log) (d : ℕ) (sound : List ℕ) → IsEmittedIn log d sound → IsEmittedIn (h ∷ log) d sound
emitted_later h log d sound e = record { front = h ∷ e.front; rest = e.rest; is = ap (λ l. h ∷ l) e.is }

all_later : (h : Happening) (log : Log) (d : ℕ) (sounds : List (List ℕ)) → All (IsEmittedIn log d) sounds → All (IsEmittedIn (h ∷ log) d) sounds
all_later h log d sounds all = All-weaker (IsEmittedIn log d) (IsEmittedIn (h ∷ log) d) (emitted_later h log d) sounds all

one_more : (e d : ℕ) (sound : List ℕ) (log : Log) (done b : Bool) → done ≡ b → (c : Bool) → (e == d) ≡ c → All (IsEmittedIn (Emitted e sound done ∷ log) d) (sounds_of d log) → All (IsEmittedIn (Emitted e sound done ∷ log) d) (sound_if (b && c) sound (sounds_of d log))
one_more e d sound log done false is c same rest = rest
one_more e d sound log done true is false same rest = rest
one_more e d sound log done true is true same rest =
    All-cons (IsEmittedIn (Emitted e sound done ∷ log) d) sound (sounds_of d log)
    (record { front = []; rest = log; is = ap (λ b. Emitted e sound b ∷ log) is ∙ ap (λ n. Emitted n sound true ∷ log) (eqb-true e d same) })
    rest

all_emitted : (d : ℕ) (log : Log) → All (IsEmittedIn log d) (sounds_of d log)
all_emitted d [] = All-nil (IsEmittedIn [] d)
all_emitted d (Woke wake ∷ log) = all_later (Woke wake) log d (sounds_of d log) (all_emitted d log)
all_emitted d (Read k got ∷ log) = all_later (Read k got) log d (sounds_of d log) (all_emitted d log)
all_emitted d (Wrote k n bytes ∷ log) = all_later (Wrote k n bytes) log d (sounds_of d log) (all_emitted d log)
all_emitted d (Closed k why ∷ log) = all_later (Closed k why) log d (sounds_of d log) (all_emitted d log)
all_emitted d (Captured e frames bytes ∷ log) = all_later (Captured e frames bytes) log d (sounds_of d log) (all_emitted d log)
all_emitted d (Hooked e off done ∷ log) = all_later (Hooked e off done) log d (sounds_of d log) (all_emitted d log)
all_emitted d (Emitted e sound done ∷ log) = one_more e d sound log done done refl (e == d) refl (all_later (Emitted e sound done) log d (sounds_of d log) (all_emitted d log))

-- those in the middle
all_middle : (P : List ℕ → Type 0) (xs ys zs : List (List ℕ)) → All P (xs ++ (ys ++ zs)) → All P ys
all_middle P [] [] zs h = All-nil P
all_middle P [] (y ∷ ys) zs h = All-cons P y ys (All-head P y (ys ++ zs) h) (all_middle P [] ys zs (All-tail P y (ys ++ zs) h))
all_middle P (x ∷ xs) ys zs h = all_middle P xs ys zs (All-tail P x (xs ++ (ys ++ zs)) h)

pub speakers_are_handed : SpeakersAreHanded
speakers_are_handed log d shape restarts acts speaker fed same run ran =
    let w = within_of (emitted_in acts) (ledger_of acts) run (stands acts) ran in
    let f = fits_of shape restarts acts run fed ran in
    let all = subst (λ k. HandedBy k shape run.emitted run.taken f.owed) speaker f.fits.handed in
    let are : sounds_of d log ≡ w.earlier ++ (in_order run.emitted ++ w.later) = sym same ∙ w.are in
    record {
      earlier = w.earlier;
      during = in_order run.emitted;
      later = w.later;
      are = are;
      each = all_middle (IsEmittedIn log d) w.earlier (in_order run.emitted) w.later (subst (All (IsEmittedIn log d)) are (all_emitted d log));
      owed = f.owed;
      took_all = joined run.emitted ∙ all.all;
      few = all.piece_at_most;
    }

pub jobs_are_handed : JobsAreHanded
jobs_are_handed log device j whole s alone shape run h =
    All-weaker (IsEmittedIn log j.job.device) (EmitsSound j.device.channels whole (frames_of j) (gained_samples j.ty j.job.gain j.samples))
    (λ sound e. s.emits alone e.front e.rest sound true e.is) h.during h.each
