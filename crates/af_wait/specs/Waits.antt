-- The deferred requests: a list, the longest deferred first, with each link at most once.
use Rattle.std.specs.Prelude.{◌≡◌, ◌≢◌, ℕ, ◌-◌, ◌==◌, ◌<◌, Bool, false, not, ◌&&◌, if◌then◌else◌, Option, Some, None, List, [], ◌∷◌, filter, find, get_or, length, AllPairs}
use Rattle.std.specs.List.{list_any, All}
use Rattle.af_limits.specs.Limits.{most_links}
use Rattle.af_wait.specs.declared.Wait.{Wait}

-- whether a link has a deferred request
abbrev pub is_waiting : List Wait → ℕ → Bool
is_waiting waits link = list_any (λ w. w.link == link) waits

-- each link stands at most once in the list, and has a number that a link may have
pub record AreWaits (waits : List Wait) : Type 0 where
  pub distinct : AllPairs (λ a b. a.link ≢ b.link) waits
  pub links : All (λ w. w.link < most_links) waits

-- a flag for each number that a link may have: whether it is in the list; no other link is
pub record AreFlags (flags : List Bool) (waits : List Wait) : Type 0 where
  pub count : length flags ≡ most_links
  pub fits : (link : ℕ) → get_or flags link false ≡ is_waiting waits link

-- a wait after n frames of a device have passed: one for another device stays, and at least 0 frames are left
abbrev pub wait_after_frames : ℕ → ℕ → Wait → Wait
wait_after_frames device n w = if w.device == device then record w { left = w.left - n } else w

-- whether a wait is for a device and due
abbrev pub is_due : ℕ → Wait → Bool
is_due device w = w.device == device && w.left == 0

-- the longest deferred of those that are due for a device
abbrev pub first_due : ℕ → List Wait → Option Wait
first_due device waits = find (is_due device) waits

-- a list without the first element that passes a test
abbrev pub without_first : {X : Type 0} → (X → Bool) → List X → List X
without_first passes [] = []
without_first passes (x ∷ xs) = if passes x then xs else x ∷ without_first passes xs

-- the waits without that of a link
abbrev pub without_link : List Wait → ℕ → List Wait
without_link waits link = filter (λ w. not (w.link == link)) waits

-- the waits without that of a link that is taken out, if there is one
abbrev pub without_taken : List Wait → Option ℕ → List Wait
without_taken waits None = waits
without_taken waits (Some link) = without_link waits link
