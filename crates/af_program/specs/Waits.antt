-- When programs are started, in nanoseconds. In a list of starts the latest stands first.
use Rattle.std.specs.Prelude.{◌≡◌, ⊤, ℕ, ◌+◌, ◌-◌, ◌*◌, ◌^◌, ◌≤◌, ◌&&◌, min, nat_lt, nat_le, is_some, Bool, true, false, if◌then◌else◌, List, [], ◌∷◌, length}
use Rattle.std.specs.declared.option.Option.{Option}
use Rattle.std.specs.declared.option.Option.TheVariants.{None, Some}
use Rattle.af_program.specs.declared.starts.Starts.{Starts}

-- a start that was tried: its moment, and the moment at which its program was ended; a start that failed ends as it begins
pub record Start : Type 0 where
  pub began : ℕ
  pub ended : Option ℕ

-- the latest start has ended
abbrev pub starts_after_end : List Start → ℕ → List Start
starts_after_end [] at = []
starts_after_end (start ∷ starts) at = record start { ended = Some at } ∷ starts

-- a second, and a minute: the shortest wait for a start, and the longest
abbrev pub shortest_wait : ℕ
shortest_wait = 1000000000

abbrev pub longest_wait : ℕ
longest_wait = 60000000000

-- a program that lived for less than ten seconds makes the next wait longer
abbrev pub short_life : ℕ
short_life = 10000000000

abbrev pub life_until : ℕ → Option ℕ → ℕ
life_until began None = 0
life_until began (Some ended) = ended - began

-- The wait after the latest of these starts has ended: a second after the very first one, and after a program that lived for ten
-- seconds; else twice the wait before it, up to a minute. The latest start stands first.
abbrev pub wait_after : List Start → ℕ
wait_after [] = 0
wait_after (start ∷ []) = shortest_wait
wait_after (start ∷ (before ∷ earlier)) =
    if nat_lt (life_until start.began start.ended) short_life
    then min (2 * wait_after (before ∷ earlier)) longest_wait
    else shortest_wait

-- a start comes once the one before it has ended, and not before the wait after that
abbrev pub IsLateEnough : ℕ → List Start → Type 0
IsLateEnough at [] = ⊤
IsLateEnough at (before ∷ earlier) = (ended : ℕ) × (before.ended ≡ Some ended) × (ended + wait_after (before ∷ earlier) ≤ at)

abbrev pub AreSpaced : List Start → Type 0
AreSpaced [] = ⊤
AreSpaced (start ∷ earlier) = IsLateEnough start.began earlier × AreSpaced earlier

-- at most one start more than there are restarts, each after its wait
pub record StartsFit (restarts : ℕ) (starts : List Start) : Type 0 where
  pub most : length starts ≤ restarts + 1
  pub spaced : AreSpaced starts

-- What is kept of starts

-- the wait after an end, by how many starts were tried, the wait before, and how long the program lived
abbrev pub next_wait : ℕ → ℕ → ℕ → ℕ
next_wait tried wait life = if nat_lt 1 tried && nat_lt life short_life then min (2 * wait) longest_wait else shortest_wait

-- a moment, if a clock can come to it
abbrev pub moment_after : ℕ → ℕ → Option ℕ
moment_after at wait = if nat_lt (at + wait) (2 ^ 64) then Some (at + wait) else None

-- none was tried
abbrev pub no_starts : ℕ → Starts
no_starts restarts = record { restarts = restarts; tried = 0; wait = 0; next = Some 0 }

-- whether a start is left
abbrev pub is_left : Starts → Bool
is_left s = nat_le s.tried s.restarts && is_some s.next

-- the moment from which the next start may come, if one is left
abbrev pub next_start : Starts → Option ℕ
next_start s = if is_left s then s.next else None

abbrev pub comes_by : Option ℕ → ℕ → Bool
comes_by None at = false
comes_by (Some next) at = nat_le next at

-- whether a start may come at a moment
abbrev pub may_come : Starts → ℕ → Bool
may_come s at = nat_le s.tried s.restarts && comes_by s.next at

-- one more is tried
abbrev pub begun_once_more : Starts → Starts
begun_once_more s = record s { tried = s.tried + 1 }

-- its program has ended
abbrev pub after_end : Starts → ℕ → ℕ → Starts
after_end s began ended =
    let wait = next_wait s.tried s.wait (ended - began) in
    record s { wait = wait; next = moment_after ended wait }

-- The program that runs was started at this moment, or none runs. The next start may come only when it is late enough, and the
-- wait is the one after the latest end.
abbrev pub NextFits : Starts → Option ℕ → List Start → Type 0
NextFits s None starts = (s.wait ≡ wait_after starts) × ((at : ℕ) → may_come s at ≡ true → IsLateEnough at starts)
NextFits s (Some began) [] = ⊥
NextFits s (Some began) (start ∷ earlier) = (start.began ≡ began) × (start.ended ≡ None) × (s.wait ≡ wait_after earlier)

-- what is kept of starts fits them, as the program that runs was started at this moment, or none runs
pub record KeepsStarts (kept : Starts) (began : Option ℕ) (starts : List Start) : Type 0 where
  pub fit : StartsFit kept.restarts starts
  pub tried : kept.tried ≡ length starts
  pub next : NextFits kept began starts
