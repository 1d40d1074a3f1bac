-- The rates of devices.
use Rattle.std.specs.Prelude.{ℕ, Bool, List, [], ◌∷◌, ◌==◌, IsTrue}
use Rattle.std.specs.List.{list_any}

-- the rates that a device can have, in frames a second
abbrev pub listed_rates : List ℕ
listed_rates = 8000 ∷ 11025 ∷ 16000 ∷ 22050 ∷ 32000 ∷ 44100 ∷ 48000 ∷ []

-- whether a device can have this rate
abbrev pub is_listed_rate : ℕ → Bool
is_listed_rate rate = list_any (λ listed. rate == listed) listed_rates

-- a rate that a device can have
abbrev pub IsListedRate : ℕ → Type 0
IsListedRate rate = IsTrue (is_listed_rate rate)
