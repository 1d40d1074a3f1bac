-- The runs that the acts of emits show.
use Rattle.std.proofs.Common.{◌≡◌, ℕ, ℤ, ◌+◌, Bool, true, false, List, [], ◌∷◌, ◌++◌, IfSome, refl, sym, ap, ◌∙◌, subst, arith, append_assoc}
use Rattle.std.specs.declared.option.Option.{Option}
use Rattle.std.specs.declared.option.Option.TheVariants.{None, Some}
use Rattle.af_process.specs.declared.act.BeganGot.{BeganGot}
use Rattle.af_process.specs.declared.act.BeganGot.TheVariants.{Child, Failed, NoMemory}
use Rattle.af_process.specs.Acts.{Told}
use Rattle.af_codec.specs.declared.feeding.Feeding.{Feeding}
use Rattle.af_codec.specs.Fed.{CallAnswers, Emit, OrdersState, acts_of, run_of_start_for, emit_acts, fed_runs, fed_after, feeding_after, feeding_start, rest_of_run, sounds_of, taken_by_child}
use Rattle.af_codec.specs.Codec.{TellsThese, IsFed}
use Rattle.af_codec.specs.Runs.{ArePartsInOrder, FeedsOnce, pieces_told, runs_told, sounds_told, starts_told}
use Rattle.af_codec.proofs.StartLemmas.{HasStart-fed_after}

-- a codec with no failed emit
abbrev live_feeding : Option ℕ → ℕ → Feeding
live_feeding running starts = record { running = running; starts = starts; failed = false }

abbrev answers_of : BeganGot → Bool → Option ℤ → CallAnswers
answers_of got done status = record { start = got; give = done; finish = status }

-- what the acts of one emit show, before others
sounds_on : (o : OrdersState) (r : Option ℕ) (n : ℕ) (sound : List ℕ) (got : BeganGot) (done : Bool) (status : Option ℤ) (acts : List Told) →
    sounds_told (emit_acts o (live_feeding r n) sound (answers_of got done status) ++ acts) ≡ sound ∷ sounds_told acts
sounds_on o (Some c) n sound got true status acts = refl
sounds_on o (Some c) n sound got false status acts = refl
sounds_on o None n sound (Child c) true status acts = refl
sounds_on o None n sound (Child c) false status acts = refl
sounds_on o None n sound Failed done status acts = refl
sounds_on o None n sound NoMemory done status acts = refl

starts_on : (o : OrdersState) (r : Option ℕ) (n : ℕ) (sound : List ℕ) (got : BeganGot) (done : Bool) (status : Option ℤ) (acts : List Told) →
    n + starts_told (emit_acts o (live_feeding r n) sound (answers_of got done status) ++ acts) ≡ (feeding_after o (live_feeding r n) (answers_of got done status)).starts + starts_told acts
starts_on o (Some c) n sound got true status acts = refl
starts_on o (Some c) n sound got false status acts = refl
starts_on o None n sound (Child c) true status acts = omega arith
starts_on o None n sound (Child c) false status acts = omega arith
starts_on o None n sound Failed done status acts = omega arith
starts_on o None n sound NoMemory done status acts = refl

pieces_on : (o : OrdersState) (r : Option ℕ) (n : ℕ) (sound : List ℕ) (got : BeganGot) (done : Bool) (status : Option ℤ) (acts : List Told) (later : List (List ℕ)) →
    pieces_told acts ≡ later → ((feeding_after o (live_feeding r n) (answers_of got done status)).running ≡ None → later ≡ []) →
    pieces_told (emit_acts o (live_feeding r n) sound (answers_of got done status) ++ acts) ≡ taken_by_child r sound later
pieces_on o (Some c) n sound got true status acts later is idle = ap (λ x. sound ∷ x) is
pieces_on o (Some c) n sound got false status acts later is idle = ap (λ x. sound ∷ x) is
pieces_on o None n sound (Child c) true status acts later is idle = refl
pieces_on o None n sound (Child c) false status acts later is idle = refl
pieces_on o None n sound Failed done status acts later is idle = is ∙ idle refl
pieces_on o None n sound NoMemory done status acts later is idle = is ∙ idle refl

runs_on : (o : OrdersState) (r : Option ℕ) (n : ℕ) (sound : List ℕ) (got : BeganGot) (done : Bool) (status : Option ℤ) (acts : List Told) (later : List (List ℕ)) →
    pieces_told acts ≡ later →
    runs_told (emit_acts o (live_feeding r n) sound (answers_of got done status) ++ acts) ≡ run_of_start_for r got (sound ∷ later) ++ runs_told acts
runs_on o (Some c) n sound got true status acts later is = refl
runs_on o (Some c) n sound got false status acts later is = refl
runs_on o None n sound (Child c) true status acts later is = ap (λ x. (sound ∷ x) ∷ runs_told acts) is
runs_on o None n sound (Child c) false status acts later is = ap (λ x. (sound ∷ x) ∷ runs_told acts) is
runs_on o None n sound Failed done status acts later is = refl
runs_on o None n sound NoMemory done status acts later is = refl

-- if no child runs, no run goes on
idle_rest : (o : OrdersState) (n : ℕ) (b : Bool) (emits : List Emit) → rest_of_run o (record { running = None; starts = n; failed = b }) emits ≡ []
idle_rest o n b [] = refl
idle_rest o n true (e ∷ emits) = refl
idle_rest o n false (e ∷ emits) = refl

no_rest : (o : OrdersState) (f : Feeding) (emits : List Emit) → f.running ≡ None → rest_of_run o f emits ≡ []
no_rest o f emits none =
    ap (λ r. rest_of_run o (record { running = r; starts = f.starts; failed = f.failed }) emits) none ∙ idle_rest o f.starts f.failed emits

-- the acts of emits show what is fed
tells : (o : OrdersState) (r : Option ℕ) (n : ℕ) (b : Bool) (emits : List Emit) → let f : Feeding = record { running = r; starts = n; failed = b } in
    (pieces_told (acts_of o f emits) ≡ rest_of_run o f emits) × (runs_told (acts_of o f emits) ≡ fed_runs o f emits)
tells o r n b [] = (refl, refl)
tells o r n true (e ∷ emits) = (refl, refl)
tells o r n false (e ∷ emits) =
    let g = feeding_after o (live_feeding r n) e.answers in
    let later = tells o g.running g.starts g.failed emits in
    let acts = acts_of o g emits in (
      pieces_on o r n e.sound e.answers.start e.answers.give e.answers.finish acts (rest_of_run o g emits) later.0 (no_rest o g emits),
      runs_on o r n e.sound e.answers.start e.answers.give e.answers.finish acts (rest_of_run o g emits) later.0
          ∙ ap (λ x. run_of_start_for r e.answers.start (e.sound ∷ rest_of_run o g emits) ++ x) later.1,
    )

pub runs_told-fed_runs : (o : OrdersState) (emits : List Emit) → runs_told (acts_of o feeding_start emits) ≡ fed_runs o feeding_start emits
runs_told-fed_runs o emits = (tells o None 0 false emits).1

starts_after : (o : OrdersState) (r : Option ℕ) (n : ℕ) (b : Bool) (emits : List Emit) → let f : Feeding = record { running = r; starts = n; failed = b } in
    n + starts_told (acts_of o f emits) ≡ (fed_after o f emits).starts
starts_after o r n b [] = omega arith
starts_after o r n true (e ∷ emits) = omega arith
starts_after o r n false (e ∷ emits) =
    let g = feeding_after o (live_feeding r n) e.answers in
    starts_on o r n e.sound e.answers.start e.answers.give e.answers.finish (acts_of o g emits) ∙ starts_after o g.running g.starts g.failed emits

pub starts_told-fed_runs : (o : OrdersState) (emits : List Emit) → starts_told (acts_of o feeding_start emits) ≡ (fed_after o feeding_start emits).starts
starts_told-fed_runs o emits = omega (arith, starts_after o None 0 false emits)

-- Parts

-- parts of a rest are parts of the whole
parts_later : {A : Type 0} (parts : List (List A)) (front xs : List A) → ArePartsInOrder parts xs → ArePartsInOrder parts (front ++ xs)
parts_later [] front xs are = tt
parts_later (part ∷ parts) front xs are =
    (front ++ are.0, are.1, ap (λ ys. front ++ ys) are.2 ∙ sym (append_assoc front are.0 (part ++ are.1)), are.3)

-- the runs from here on are parts of these sounds, after the rest of the run that goes on
AreRunsFrom : List (List ℕ) → List (List (List ℕ)) → List (List ℕ) → Type 0
AreRunsFrom later runs sounds = (after : List (List ℕ)) × (sounds ≡ later ++ after) × ArePartsInOrder runs after

run_before : (r : Option ℕ) (got : BeganGot) (sound : List ℕ) (later : List (List ℕ)) (runs : List (List (List ℕ))) (sounds : List (List ℕ)) →
    AreRunsFrom later runs sounds → AreRunsFrom (taken_by_child r sound later) (run_of_start_for r got (sound ∷ later) ++ runs) (sound ∷ sounds)
unfolding AreRunsFrom
run_before (Some c) got sound later runs sounds are = (are.0, ap (λ x. sound ∷ x) are.1, are.2)
run_before None (Child c) sound later runs sounds are = (sound ∷ sounds, refl, ([], are.0, ap (λ x. sound ∷ x) are.1, are.2))
run_before None Failed sound later runs sounds are =
    (sound ∷ sounds, refl, subst (λ x. ArePartsInOrder runs (sound ∷ x)) (sym are.1) (parts_later runs (sound ∷ later) are.0 are.2))
run_before None NoMemory sound later runs sounds are =
    (sound ∷ sounds, refl, subst (λ x. ArePartsInOrder runs (sound ∷ x)) (sym are.1) (parts_later runs (sound ∷ later) are.0 are.2))

runs_of_noted : (o : OrdersState) (r : Option ℕ) (n : ℕ) (b : Bool) (emits : List Emit) → let f : Feeding = record { running = r; starts = n; failed = b } in
    AreRunsFrom (rest_of_run o f emits) (fed_runs o f emits) (sounds_told (acts_of o f emits))
unfolding AreRunsFrom
runs_of_noted o r n b [] = ([], refl, tt)
runs_of_noted o r n true (e ∷ emits) = ([], refl, tt)
runs_of_noted o r n false (e ∷ emits) =
    let g = feeding_after o (live_feeding r n) e.answers in
    let acts = acts_of o g emits in
    let told = sounds_on o r n e.sound e.answers.start e.answers.give e.answers.finish acts in
    let f : Feeding = live_feeding r n in
    subst (λ x. AreRunsFrom (rest_of_run o f (e ∷ emits)) (fed_runs o f (e ∷ emits)) x) (sym told)
    (run_before r e.answers.start e.sound (rest_of_run o g emits) (fed_runs o g emits) (sounds_told acts) (runs_of_noted o g.running g.starts g.failed emits))

runs_of_emitted : (o : OrdersState) (r : Option ℕ) (n : ℕ) (b : Bool) (emits : List Emit) → let f : Feeding = record { running = r; starts = n; failed = b } in
    AreRunsFrom (rest_of_run o f emits) (fed_runs o f emits) (sounds_of emits)
unfolding AreRunsFrom
runs_of_emitted o r n b [] = ([], refl, tt)
runs_of_emitted o r n true (e ∷ emits) = (sounds_of (e ∷ emits), refl, tt)
runs_of_emitted o r n false (e ∷ emits) =
    let g = feeding_after o (live_feeding r n) e.answers in
    run_before r e.answers.start e.sound (rest_of_run o g emits) (fed_runs o g emits) (sounds_of emits) (runs_of_emitted o g.running g.starts g.failed emits)

none_after : (runs : List (List (List ℕ))) (later sounds : List (List ℕ)) → later ≡ [] → AreRunsFrom later runs sounds → ArePartsInOrder runs sounds
unfolding AreRunsFrom
none_after runs later sounds none are = subst (λ x. ArePartsInOrder runs x) (sym (are.1 ∙ ap (λ x. x ++ are.0) none)) are.2

-- the runs are parts of what is emitted
pub fed_runs-parts : (o : OrdersState) (emits : List Emit) → ArePartsInOrder (fed_runs o feeding_start emits) (sounds_of emits)
fed_runs-parts o emits = none_after _ _ _ (idle_rest o 0 false emits) (runs_of_emitted o None 0 false emits)

-- and so the acts show
pub FeedsOnce-fed_runs : (o : OrdersState) (emits : List Emit) → FeedsOnce o.restarts (acts_of o feeding_start emits)
FeedsOnce-fed_runs o emits = record {
  parts = subst (λ runs. ArePartsInOrder runs (sounds_told (acts_of o feeding_start emits))) (sym (runs_told-fed_runs o emits))
      (none_after _ _ _ (idle_rest o 0 false emits) (runs_of_noted o None 0 false emits));
  starts = rw (starts_told-fed_runs o emits) (HasStart-fed_after o emits).within;
}

once_where_told : (o : OrdersState) (emits : List Emit) (acts : Option (List Told)) → TellsThese (acts_of o feeding_start emits) acts →
    IfSome acts (λ acts. FeedsOnce o.restarts acts)
once_where_told o emits None told = tt
once_where_told o emits (Some acts) told = subst (λ a. FeedsOnce o.restarts a) (sym told) (FeedsOnce-fed_runs o emits)

pub IsFed-once : (o : OrdersState) (f : Feeding) (emitted : Bool) (acts : Option (List Told)) → IsFed o f emitted acts → IfSome acts (λ acts. FeedsOnce o.restarts acts)
IsFed-once o f emitted acts is = once_where_told o is.emits acts is.told
