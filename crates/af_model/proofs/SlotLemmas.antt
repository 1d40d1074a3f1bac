-- The links at their numbers.
use Rattle.std.proofs.Common.{◌≡◌, ℕ, zero, suc, List, [], ◌∷◌, length, slice_get, slice_set, refl, ap}
use Rattle.std.specs.declared.option.Option.{Option}
use Rattle.std.specs.declared.option.Option.TheVariants.{None, Some}
use Rattle.af_model.specs.State.{SlotState, LinkState, some_slot, links_of}

-- the link at a number, if it is open
abbrev pub some_link : Option (Option LinkState) → Option LinkState
some_link None = None
some_link (Some link) = link

pub slot_link : (slots : List SlotState) (k : ℕ) → (some_slot (slice_get slots k)).link ≡ some_link (slice_get (links_of slots) k)
slot_link [] k = refl
slot_link (x ∷ slots) zero = refl
slot_link (x ∷ slots) (suc k) = slot_link slots k

pub links_of-set : (slots : List SlotState) (k : ℕ) (x : SlotState) → links_of (slice_set slots k x) ≡ slice_set (links_of slots) k x.link
links_of-set [] k x = refl
links_of-set (y ∷ slots) zero x = refl
links_of-set (y ∷ slots) (suc k) x = ap (λ v. y.link ∷ v) (links_of-set slots k x)

pub length-links_of : (slots : List SlotState) → length (links_of slots) ≡ length slots
length-links_of [] = refl
length-links_of (y ∷ slots) = ap suc (length-links_of slots)
