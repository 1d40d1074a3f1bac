-- How the children of an answering machine run, and what is told of them.
use Rattle.std.specs.Prelude.{ℕ, ℤ, pos, negsuc, zero, suc, Bool, true, false, List, [], ◌∷◌, codes, Option, None, Some}
use Rattle.af_process.specs.declared.act.BeganGot.TheVariants as got
use Rattle.af_process.specs.Acts.{Told, began, finished}
use Rattle.af_answer.specs.declared.child.ChildEnd.{ChildEnd}
use Rattle.af_answer.specs.declared.child.ChildEnd.TheVariants as end

-- the command line of a shell that runs a text
abbrev pub shell_words : List ℕ → List (List ℕ)
shell_words text = codes "sh" ∷ codes "-c" ∷ text ∷ []

-- how a child ran: it did not start; or there was no memory to start it; or it was started, by its number, and waited for, which
-- gave a status or failed
pub data ChildRun : Type 0 where
  start_failed : ChildRun
  start_starved : ChildRun
  child_ran : (child : ℕ) (status : Option ℤ) → ChildRun

-- a child ended well with status 0
abbrev pub end_by_status : Option ℤ → ChildEnd
end_by_status (Some (pos zero)) = end.Good
end_by_status (Some (pos (suc n))) = end.Bad
end_by_status (Some (negsuc n)) = end.Bad
end_by_status None = end.Bad

-- how a child ended: badly also if it did not start or could not be waited for
abbrev pub run_end : ChildRun → ChildEnd
run_end start_failed = end.Bad
run_end start_starved = end.NoMemory
run_end (child_ran child status) = end_by_status status

-- there was no memory to start it
abbrev pub is_starved : ChildEnd → Bool
is_starved end.NoMemory = true
is_starved end.Good = false
is_starved end.Bad = false

-- the acts of a child that ran by this command line: one start, and if it started, one finish
abbrev pub told_of_run : List (List ℕ) → ChildRun → List Told
told_of_run words start_failed = began words got.Failed ∷ []
told_of_run words start_starved = began words got.NoMemory ∷ []
told_of_run words (child_ran child status) = began words (got.Child child) ∷ finished child status ∷ []
