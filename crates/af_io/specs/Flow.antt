-- What sources and sinks answer.
use Rattle.std.specs.Prelude.{◌≡◌, ℕ, ◌<◌, ◌≤◌, List, [], ◌++◌, length, take}
use Rattle.std.specs.declared.option.Option.{Option}
use Rattle.std.specs.declared.option.Option.TheVariants.{None, Some}
use Rattle.af_io.specs.declared.flow.Got.{Got}
use Rattle.af_io.specs.declared.flow.Got.TheVariants as got
use Rattle.af_io.specs.declared.flow.Put.{Put}
use Rattle.af_io.specs.declared.flow.Put.TheVariants as put
use Rattle.af_io.specs.Observed.{Consumed, Appended}

-- the bytes that a read put into the slice
abbrev pub given_of : Got → List ℕ → List ℕ
given_of (got.Bytes n) into = take n into
given_of got.Ended into = []
given_of got.Failed into = []

-- none is left
abbrev pub IsSpent : Option (List ℕ) → Type 0
IsSpent None = Unit {0}
IsSpent (Some left) = left ≡ []

-- a read gives at least one byte and at most as many as there is room for; it is Ended if none is left
abbrev pub GotFits : Got → ℕ → Option (List ℕ) → Type 0
GotFits (got.Bytes n) room left = (1 ≤ n) × (n ≤ room)
GotFits got.Ended room left = IsSpent left
GotFits got.Failed room left = Unit {0}

-- the list has grown by a prefix of this part
pub record AppendedPrefix (before : Option (List ℕ)) (part : List ℕ) (after : Option (List ℕ)) : Type 0 where
  pub front : List ℕ
  pub rest : List ℕ
  pub whole : part ≡ front ++ rest
  pub appended : Appended before front after

-- what a write added
abbrev pub Written : Put → Option (List ℕ) → List ℕ → Option (List ℕ) → Type 0
Written put.Done before piece after = Appended before piece after
Written put.Failed before piece after = AppendedPrefix before piece after

-- the source was read to its end, and this is all that it gave, which is at most n bytes
pub record ConsumedWhole (most : ℕ) (before after : Option (List ℕ)) (text : List ℕ) : Type 0 where
  pub consumed : Consumed before text after
  pub spent : IsSpent after
  pub within : length text ≤ most

-- the source gave at most n bytes
pub record ConsumedWithin (most : ℕ) (before after : Option (List ℕ)) : Type 0 where
  pub text : List ℕ
  pub consumed : Consumed before text after
  pub within : length text ≤ most

-- the source gave more bytes
pub record ConsumedTooMuch (most : ℕ) (before after : Option (List ℕ)) : Type 0 where
  pub text : List ℕ
  pub consumed : Consumed before text after
  pub beyond : most < length text
