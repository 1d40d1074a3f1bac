-- How many starts are made.
use Rattle.std.proofs.Common.{◌≡◌, ℕ, ◌+◌, ◌==◌, ◌≤◌, ◌<◌, Bool, true, false, List, [], ◌∷◌, refl, sym, subst, arith}
use Rattle.std.specs.declared.option.Option.{Option}
use Rattle.std.specs.declared.option.Option.TheVariants.{None, Some}
use Rattle.std.proofs.lemmas.Bool.{eq-eqb}
use Rattle.af_process.specs.declared.act.BeganGot.{BeganGot}
use Rattle.af_process.specs.declared.act.BeganGot.TheVariants.{Child, Failed, NoMemory}
use Rattle.af_codec.specs.declared.feeding.Feeding.{Feeding}
use Rattle.af_codec.specs.Fed.{Emit, OrdersState, fed_after, feeding_after, feeding_start, give_for, start_for, after_start, after_start_with}
use Rattle.af_codec.specs.Codec.{HasStart}
use Rattle.af_codec.proofs.FedLemmas.{failed_stays, fed_after-cons}

not_last : (a b : ℕ) → (a == b) ≡ false → a ≤ b → a < b
not_last a b differ within = grind (arith, eq-eqb)

begun : (o : OrdersState) (f : Feeding) (got : BeganGot) → f.starts ≤ o.restarts → HasStart o f → HasStart o (after_start_with o.restarts f got)
begun o f (Child child) left has = record { within = omega (arith, left); left = λ live none. grind arith }
begun o f Failed left has = record { within = omega (arith, left); left = λ live none. let h = not_last (f.starts + 1) (o.restarts + 1) live (omega (arith, left)) in omega (arith, h) }
begun o f NoMemory left has = has

begun_where : (o : OrdersState) (f : Feeding) (r : Option ℕ) (got : BeganGot) → f.running ≡ r → f.failed ≡ false → HasStart o f → HasStart o (start_for r o.restarts f got)
begun_where o f None got is live has = begun o f got (has.left live is) has
begun_where o f (Some child) got is live has = has

handed_where : (o : OrdersState) (f : Feeding) (r : Option ℕ) (done : Bool) → HasStart o f → HasStart o (give_for r o.restarts f done)
handed_where o f None done has = has
handed_where o f (Some child) true has = has
handed_where o f (Some child) false has = record { within = has.within; left = λ live none. let h = not_last f.starts (o.restarts + 1) live has.within in omega (arith, h) }

pub HasStart-feeding_after : (o : OrdersState) (f : Feeding) (e : Emit) → f.failed ≡ false → HasStart o f → HasStart o (feeding_after o f e.answers)
HasStart-feeding_after o f e live has =
    let g = after_start o.restarts f e.answers.start in
    handed_where o g g.running e.answers.give (begun_where o f f.running e.answers.start refl live has)

has_start : (o : OrdersState) (f : Feeding) (emits : List Emit) (b : Bool) → f.failed ≡ b → HasStart o f → HasStart o (fed_after o f emits)
has_start o f [] b is has = has
has_start o f (e ∷ emits) true is has = subst (λ x. HasStart o x) (sym (failed_stays o f (e ∷ emits) is)) has
has_start o f (e ∷ emits) false is has =
    let g = feeding_after o f e.answers in
    subst (λ x. HasStart o x) (sym (fed_after-cons o f e emits is)) (has_start o g emits g.failed refl (HasStart-feeding_after o f e is has))

-- after all emits, at most as many starts were made as are ordered
pub HasStart-fed_after : (o : OrdersState) (emits : List Emit) → HasStart o (fed_after o feeding_start emits)
HasStart-fed_after o emits = has_start o feeding_start emits false refl (record { within = omega arith; left = λ live none. omega arith })
