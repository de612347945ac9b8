-- A power of two that is in a number of 24 bits is one of the first 24.
use Rattle.std.proofs.Common.{arith, ◌≤◌, ◌<◌, ℕ, ◌^◌, pow_mono, lt_of_not-le}

pub power_below : (number power : ℕ) → 2 ^ power ≤ number → number < 16777216 → power < 24
power_below number power low high =
    lt_of_not-le (λ (le : 24 ≤ power). let more : 16777216 ≤ 2 ^ power = pow_mono le in omega arith)
