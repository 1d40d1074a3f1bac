-- The contexts of a link: a list in order of creation, in which each number stands once.
use Rattle.std.specs.Prelude.{◌≡◌, ◌≢◌, ℕ, ◌==◌, ◌<◌, ◌≤◌, nat_lt, Bool, true, false, not, if◌then◌else◌, ℤ, Option, None, unwrap_or, Result, Ok, Err, List, length, map, filter, find, slice_get, AllPairs}
use Rattle.std.specs.List.{list_any}
use Rattle.af_limits.specs.Limits.{most_contexts}
use Rattle.af_context.specs.declared.Context.{Context}
use Rattle.af_context.specs.declared.ContextFault.{ContextFault}
use Rattle.af_context.specs.declared.ContextFault.TheVariants.{BadAc, BadIdChoice, TooMany}

-- whether a number is in use
abbrev pub is_in_use : List Context → ℕ → Bool
is_in_use contexts ac = list_any (λ c. c.ac == ac) contexts

-- the context of a number, if it is in use
abbrev pub context_of : List Context → ℕ → Option Context
context_of contexts ac = find (λ c. c.ac == ac) contexts

-- no two contexts have one number, and a link has 16 at most
pub record AreContexts (contexts : List Context) : Type 0 where
  pub distinct : AllPairs (λ a b. a.ac ≢ b.ac) contexts
  pub few : length contexts ≤ most_contexts

-- the answer to the creation of a context with this number: the number is looked at before the room
abbrev pub creation : List Context → ℕ → Result Unit ContextFault
creation contexts ac =
    if is_in_use contexts ac then Err BadIdChoice
    else (if nat_lt (length contexts) 16 then Ok tt else Err TooMany)

-- the answer to a request that names a context by its number, as far as the number goes
abbrev pub reference : List Context → ℕ → Result Unit ContextFault
reference contexts ac = if is_in_use contexts ac then Ok tt else Err BadAc

-- a context with these settings: those that are left out stay as they are
abbrev pub with_settings : Option ℤ → Option ℤ → Option Bool → Context → Context
with_settings play record_to preempt c = record c {
  play_gain = unwrap_or play c.play_gain;
  record_gain = unwrap_or record_to c.record_gain;
  preempt = unwrap_or preempt c.preempt;
}

-- the contexts, with that of a number changed
abbrev pub with_changed : List Context → ℕ → (Context → Context) → List Context
with_changed contexts ac change = map (λ c. if c.ac == ac then change c else c) contexts

-- the contexts without that of a number
abbrev pub without_context : List Context → ℕ → List Context
without_context contexts ac = filter (λ c. not (c.ac == ac)) contexts

-- the place of the context with a number, or that the number is not in use
abbrev pub IsPlaceOf : List Context → ℕ → Result ℕ ContextFault → Type 0
IsPlaceOf contexts ac (Ok at) =
    (at < length contexts) × (is_in_use contexts ac ≡ true) × (context_of contexts ac ≡ slice_get contexts at)
IsPlaceOf contexts ac (Err fault) =
    (fault ≡ BadAc) × (is_in_use contexts ac ≡ false) × (context_of contexts ac ≡ None)
