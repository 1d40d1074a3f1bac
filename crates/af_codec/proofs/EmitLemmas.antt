-- How a start, a give and an emit change what is fed.
use Rattle.std.proofs.Common.{◌≡◌, ℕ, ℤ, ◌+◌, ◌==◌, Bool, true, false, List, [], ◌∷◌, ◌++◌, refl, sym, ap, ◌∙◌, subst, arith, is_some}
use Rattle.std.specs.declared.option.Option.{Option}
use Rattle.std.specs.declared.option.Option.TheVariants.{None, Some}
use Rattle.af_io.specs.declared.flow.Put.{Put}
use Rattle.af_io.specs.Observed.{Appended}
use Rattle.af_io.proofs.AppendedLemmas.{appended_on}
use Rattle.af_process.specs.declared.act.BeganGot.{BeganGot}
use Rattle.af_process.specs.Acts.{Told, noted, began, given, finished}
use Rattle.af_codec.specs.declared.feeding.Feeding.{Feeding}
use Rattle.af_codec.specs.Fed.{Emit, OrdersState, emit_acts, fed_after, feeding_after, feeding_start, give_acts, give_acts_for, give_for, put_of, start_acts_for, start_for, after_start, after_start_with}
use Rattle.af_codec.specs.Codec.{TellsThese, ChildRuns, Feeds, Gives, HasStart, IsFed, Starts}
use Rattle.af_codec.proofs.FedLemmas.{TellsThese-appended, acts_of-one_more, fed_after-one_more}
use Rattle.af_codec.proofs.StartLemmas.{HasStart-fed_after}

none_of : {A : Type 0} (r : Option A) → false ≡ is_some r → r ≡ None
none_of None e = refl
none_of (Some x) e = grind arith

-- a start when no child runs
pub Starts-made : (o : OrdersState) (f g : Feeding) (words : List (List ℕ)) (got : BeganGot) (acts acts' : Option (List Told)) → false ≡ is_some f.running →
    words ≡ o.words → g ≡ after_start_with o.restarts f got → Appended acts (began words got ∷ []) acts' → Starts o f g acts acts'
Starts-made o f g words got acts acts' no_child same is added =
    let none = none_of f.running no_child in
    record {
      got = got;
      told = subst (λ r. Appended acts (start_acts_for r o.words got) acts') (sym none) (subst (λ w. Appended acts (began w got ∷ []) acts') same added);
      feeding = is ∙ ap (λ r. start_for r o.restarts f got) (sym none);
    }

-- a give that failed, and the finish after it
pub Gives-lost : (o : OrdersState) (f : Feeding) (child most : ℕ) (sound : List ℕ) (status : Option ℤ) (a b c : Option (List Told)) → f.running ≡ Some child →
    most ≡ o.restarts + 1 → Appended a (given child sound false ∷ []) b → Appended b (finished child status ∷ []) c →
    Gives o f (record { running = None; starts = f.starts; failed = f.starts == most }) sound a c
Gives-lost o f child most sound status a b c runs is gave ended = record {
  done = false;
  status = status;
  told = subst (λ r. Appended a (give_acts_for r sound false status) c) (sym runs) (appended_on a b c _ _ gave ended);
  feeding = ap (λ n. lost_with f n) is ∙ ap (λ r. give_for r o.restarts f false) (sym runs);
} where
  lost_with : Feeding → ℕ → Feeding
  lost_with f n = record { running = None; starts = f.starts; failed = f.starts == n }

-- a sound that is noted, a start and a give are an emit
pub Feeds-made : (o : OrdersState) (f g h : Feeding) (sound : List ℕ) (a b c d : Option (List Told)) (put : Put) → Appended a (noted sound ∷ []) b → Starts o f g b c →
    Gives o g h sound c d → put ≡ put_of h → Feeds o f h sound a d put
Feeds-made o f g h sound a b c d put told starts gives answer =
    let next = after_start o.restarts f starts.got in
    let give : Appended c (give_acts next sound gives.done gives.status) d = subst (λ x. Appended c (give_acts x sound gives.done gives.status) d) starts.feeding gives.told in
    record {
      answers = record { start = starts.got; give = gives.done; finish = gives.status };
      told = appended_on a b d _ _ told (appended_on b c d _ _ starts.told give);
      feeding = gives.feeding ∙ ap (λ (x : Feeding). give_for x.running o.restarts x gives.done) starts.feeding;
      answer = answer;
    }

-- what is fed fits also after one more emit
pub IsFed-on : (o : OrdersState) (f h : Feeding) (emitted : Bool) (sound : List ℕ) (a d : Option (List Told)) (put : Put) → f.failed ≡ false → IsFed o f emitted a →
    Feeds o f h sound a d put → ChildRuns h.running d → IsFed o h true d
IsFed-on o f h emitted sound a d put live is feeds runs =
    let e : Emit = record { sound = sound; answers = feeds.answers } in
    let after = fed_after o feeding_start is.emits in
    let still : after.failed ≡ false = sym (ap (λ (x : Feeding). x.failed) is.after) ∙ live in
    let acts : Appended a (emit_acts o after sound feeds.answers) d = subst (λ x. Appended a (emit_acts o x sound feeds.answers) d) is.after feeds.told in
    record {
      emits = is.emits ++ e ∷ [];
      after = feeds.feeding ∙ ap (λ x. feeding_after o x feeds.answers) is.after ∙ sym (fed_after-one_more o feeding_start is.emits e still);
      told = subst (λ x. TellsThese x d) (sym (acts_of-one_more o feeding_start is.emits e still)) (TellsThese-appended _ _ a d is.told acts);
      none = λ no. grind arith;
      runs = runs;
    }

-- what is fed has a start left
pub IsFed-starts : (o : OrdersState) (f : Feeding) (emitted : Bool) (acts : Option (List Told)) → IsFed o f emitted acts → HasStart o f
IsFed-starts o f emitted acts is = subst (λ x. HasStart o x) (sym is.after) (HasStart-fed_after o is.emits)
