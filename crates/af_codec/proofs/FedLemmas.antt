-- What is fed after one more sound, and how many starts are made.
use Rattle.std.proofs.Common.{◌≡◌, Bool, true, false, List, [], ◌∷◌, ◌++◌, refl, sym, ap, ◌∙◌, append-nil, append_assoc}
use Rattle.std.specs.declared.option.Option.{Option}
use Rattle.std.specs.declared.option.Option.TheVariants.{None, Some}
use Rattle.af_io.specs.Observed.{Appended}
use Rattle.af_process.specs.Acts.{Told}
use Rattle.af_codec.specs.declared.feeding.Feeding.{Feeding}
use Rattle.af_codec.specs.Fed.{Emit, OrdersState, acts_of, emit_acts, fed_after, feeding_after}
use Rattle.af_codec.specs.Codec.{TellsThese}

-- after one more emit
pub fed_after-cons : (o : OrdersState) (f : Feeding) (e : Emit) (emits : List Emit) → f.failed ≡ false → fed_after o f (e ∷ emits) ≡ fed_after o (feeding_after o f e.answers) emits
fed_after-cons o f e emits live = rw live refl

pub acts_of-cons : (o : OrdersState) (f : Feeding) (e : Emit) (emits : List Emit) → f.failed ≡ false →
    acts_of o f (e ∷ emits) ≡ emit_acts o f e.sound e.answers ++ acts_of o (feeding_after o f e.answers) emits
acts_of-cons o f e emits live = rw live refl

-- an emit that failed is the last
pub failed_stays : (o : OrdersState) (f : Feeding) (emits : List Emit) → f.failed ≡ true → fed_after o f emits ≡ f
failed_stays o f [] dead = refl
failed_stays o f (e ∷ emits) dead = rw dead refl

was_live : (o : OrdersState) (f : Feeding) (emits : List Emit) (b : Bool) → f.failed ≡ b → (fed_after o f emits).failed ≡ false → f.failed ≡ false
was_live o f emits false is live = is
was_live o f emits true is live = sym (ap (λ (x : Feeding). x.failed) (failed_stays o f emits is)) ∙ live

pub fed_after-one_more : (o : OrdersState) (f : Feeding) (emits : List Emit) (e : Emit) → (fed_after o f emits).failed ≡ false →
    fed_after o f (emits ++ e ∷ []) ≡ feeding_after o (fed_after o f emits) e.answers
fed_after-one_more o f [] e live = fed_after-cons o f e [] live
fed_after-one_more o f (d ∷ emits) e live =
    let now = was_live o f (d ∷ emits) f.failed refl live in
    let first = fed_after-cons o f d emits now in
    fed_after-cons o f d (emits ++ e ∷ []) now ∙ fed_after-one_more o (feeding_after o f d.answers) emits e (sym (ap (λ (x : Feeding). x.failed) first) ∙ live)
    ∙ ap (λ x. feeding_after o x e.answers) (sym first)

pub acts_of-one_more : (o : OrdersState) (f : Feeding) (emits : List Emit) (e : Emit) → (fed_after o f emits).failed ≡ false →
    acts_of o f (emits ++ e ∷ []) ≡ acts_of o f emits ++ emit_acts o (fed_after o f emits) e.sound e.answers
acts_of-one_more o f [] e live = acts_of-cons o f e [] live ∙ append-nil (emit_acts o f e.sound e.answers)
acts_of-one_more o f (d ∷ emits) e live =
    let now = was_live o f (d ∷ emits) f.failed refl live in
    let first = fed_after-cons o f d emits now in
    let g = feeding_after o f d.answers in
    let later = acts_of-one_more o g emits e (sym (ap (λ (x : Feeding). x.failed) first) ∙ live) in
    acts_of-cons o f d (emits ++ e ∷ []) now
    ∙ ap (λ acts. emit_acts o f d.sound d.answers ++ acts) later
    ∙ sym (append_assoc (emit_acts o f d.sound d.answers) (acts_of o g emits) (emit_acts o (fed_after o g emits) e.sound e.answers))
    ∙ ap (λ x. (emit_acts o f d.sound d.answers ++ acts_of o g emits) ++ emit_acts o x e.sound e.answers) (sym first)
    ∙ ap (λ acts. acts ++ emit_acts o (fed_after o f (d ∷ emits)) e.sound e.answers) (sym (acts_of-cons o f d emits now))

-- observable acts go on
pub TellsThese-appended : (acts more : List Told) (before after : Option (List Told)) → TellsThese acts before → Appended before more after → TellsThese (acts ++ more) after
TellsThese-appended acts more before None told added = tt
TellsThese-appended acts more None (Some after) told added = absurd added
TellsThese-appended acts more (Some before) (Some after) told added = added ∙ ap (λ a. a ++ more) told
