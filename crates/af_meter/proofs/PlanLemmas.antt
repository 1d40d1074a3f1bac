-- Milliseconds as frames of a device.
use Rattle.std.proofs.Common.{◌≡◌, ◌≤◌, ◌*◌, ℕ, arith}
use Rattle.std.proofs.lemmas.Nat.{mul-le}

-- at no rate are there more than these
pub product_few : (rate milliseconds : ℕ) → rate ≤ 48000 → milliseconds ≤ 3600000 → rate * milliseconds ≤ 172800000000
product_few rate milliseconds low short = let most : rate * milliseconds ≤ 48000 * 3600000 = mul-le rate milliseconds 48000 3600000 low short in omega (arith, most)

pub product_low : (rate milliseconds : ℕ) → rate ≤ 48000 → rate * milliseconds ≤ 48000 * milliseconds
product_low rate milliseconds low = mul-le rate milliseconds 48000 milliseconds low (omega arith)
