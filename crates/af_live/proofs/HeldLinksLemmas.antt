-- Links of which none is held, with nothing ready.
use Rattle.std.proofs.Common.{◌≡◌, ℕ, zero, suc, false, replicate, refl}
use Rattle.af_live.specs.LinkTable.{free_entry, link_at, something_ready}

pub none_ready : (n k : ℕ) → something_ready (link_at (replicate n free_entry) k) ≡ false
none_ready zero k = refl
none_ready (suc n) zero = refl
none_ready (suc n) (suc k) = none_ready n k

pub none_held : (n k : ℕ) → link_at (replicate n free_entry) k ≡ free_entry
none_held zero k = refl
none_held (suc n) zero = refl
none_held (suc n) (suc k) = none_held n k
