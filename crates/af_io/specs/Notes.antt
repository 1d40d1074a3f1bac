-- Notes of what was done.
use Rattle.std.specs.Prelude.{◌≡◌, List, [], ◌∷◌}
use Rattle.std.specs.declared.option.Option.{Option}
use Rattle.std.specs.declared.option.Option.TheVariants.{None}
use Rattle.std.specs.declared.result.Result.{Result}
use Rattle.std.specs.declared.result.Result.TheVariants.{Ok, Err}
use Rattle.af_time.specs.declared.OutOfMemory.{OutOfMemory}
use Rattle.af_io.specs.Observed.{Appended}

-- an entry is added; if memory ran out for it, the entries are no longer observable
abbrev pub Noted : {A : Type 0} → Option (List A) → Result A OutOfMemory → Option (List A) → Type 0
Noted before (Ok entry) after = Appended before (entry ∷ []) after
Noted before (Err e) after = after ≡ None
