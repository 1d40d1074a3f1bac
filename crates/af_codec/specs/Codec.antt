-- A codec, as a caller has it.
use Rattle.std.specs.Prelude.{◌≡◌, ⊤, ℕ, ℤ, ◌+◌, ◌≤◌, Bool, false, List, [], ◌∷◌}
use Rattle.std.specs.declared.option.Option.{Option}
use Rattle.std.specs.declared.option.Option.TheVariants.{None, Some}
use Rattle.af_io.specs.declared.flow.Put.{Put}
use Rattle.af_io.specs.Observed.{Appended}
use Rattle.af_process.specs.declared.act.BeganGot.{BeganGot}
use Rattle.af_process.specs.Acts.{Told, finished, RunsWhereTold}
use Rattle.af_codec.specs.declared.feeding.Feeding.{Feeding}
use Rattle.af_codec.specs.Fed.{CallAnswers, Emit, OrdersState, acts_of, emit_acts, fed_after, feeding_after, feeding_start, give_acts, after_give, put_of, start_acts, after_start}

-- a codec: its spawner, its orders, what its children were fed, and whether a sound was emitted
pub record CodecState (S : Type 0) : Type 0 where
  pub spawner : S
  pub orders : OrdersState
  pub feeding : Feeding
  pub emitted : Bool

-- the acts are these, if they are observable
abbrev pub TellsThese : List Told → Option (List Told) → Type 0
TellsThese acts None = ⊤
TellsThese acts (Some told) = told ≡ acts

-- if a child runs and the acts are observable, they show that it does
abbrev pub ChildRuns : Option ℕ → Option (List Told) → Type 0
ChildRuns None acts = ⊤
ChildRuns (Some child) acts = RunsWhereTold child acts

-- The acts are those of these emits, one after the other, and the children were fed what these emits fed them. Nothing was done
-- before the first.
pub record IsFed (orders : OrdersState) (feeding : Feeding) (emitted : Bool) (acts : Option (List Told)) : Type 0 where
  pub emits : List Emit
  pub after : feeding ≡ fed_after orders feeding_start emits
  pub told : TellsThese (acts_of orders feeding_start emits) acts
  pub none : emitted ≡ false → emits ≡ []
  pub runs : ChildRuns feeding.running acts

-- what an emit adds to the acts, leaves fed, and answers
pub record Feeds (orders : OrdersState) (before after : Feeding) (sound : List ℕ) (acts acts' : Option (List Told))
    (put : Put) : Type 0 where
  pub answers : CallAnswers
  pub told : Appended acts (emit_acts orders before sound answers) acts'
  pub feeding : after ≡ feeding_after orders before answers
  pub answer : put ≡ put_of after

-- what a start for a sound adds to the acts, and leaves fed
pub record Starts (orders : OrdersState) (before after : Feeding) (acts acts' : Option (List Told)) : Type 0 where
  pub got : BeganGot
  pub told : Appended acts (start_acts orders.words before got) acts'
  pub feeding : after ≡ after_start orders.restarts before got

-- what a give of a sound adds to the acts, and leaves fed
pub record Gives (orders : OrdersState) (before after : Feeding) (sound : List ℕ) (acts acts' : Option (List Told)) : Type 0 where
  pub done : Bool
  pub status : Option ℤ
  pub told : Appended acts (give_acts before sound done status) acts'
  pub feeding : after ≡ after_give orders.restarts before done

-- a child was finished, whatever the answer
pub record IsFinished (child : ℕ) (acts acts' : Option (List Told)) : Type 0 where
  pub status : Option ℤ
  pub told : Appended acts (finished child status ∷ []) acts'

-- if no child runs, a start is left; and no more starts are made than one and the restarts
pub record HasStart (orders : OrdersState) (feeding : Feeding) : Type 0 where
  pub within : feeding.starts ≤ orders.restarts + 1
  pub left : feeding.failed ≡ false → feeding.running ≡ None → feeding.starts ≤ orders.restarts
