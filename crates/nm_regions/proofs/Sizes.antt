-- How many blocks lie in the regions behind: counted by regions, and against one of them.
use Rattle.std.proofs.Common.{◌≡◌, ℕ, zero, suc, ◌+◌, ◌-◌, ◌*◌, ◌<◌, ◌≤◌, Bool, true, false, cond, min, List, [], ◌∷◌, length, get_or, suc-mul, arith}
use Rattle.nm_regions.specs.Links.{behind_count}
use Rattle.nm_regions.specs.Table.{blocks_behind}

-- what the last region lacks does not change as one in front of it is left out
lacks-same : (region blocks whole count rest : ℕ) (last : Bool) → region ≤ whole → whole < blocks
    → rest + cond last (whole - (blocks - region)) 0 ≡ count * region
    → rest + cond last (whole + region - blocks) 0 ≡ count * region
lacks-same region blocks whole count rest true le lt h = omega arith
lacks-same region blocks whole count rest false le lt h = h

-- the regions behind are whole, but for what the last region lacks
pub counted-whole : (region blocks : ℕ) (flags : List Bool) (last : ℕ) (d : Bool)
    → suc last ≡ length flags → blocks ≤ suc last * region → last * region < blocks
    → blocks_behind region blocks flags
    + cond (get_or flags last d) (suc last * region - blocks) 0
    ≡ behind_count flags * region
counted-whole region blocks [] last d is covered more = absurd (omega arith)
counted-whole region blocks (true ∷ []) zero d is covered more = omega arith
counted-whole region blocks (false ∷ []) zero d is covered more = omega arith
counted-whole region blocks (b ∷ []) (suc last) d is covered more = absurd (omega arith)
counted-whole region blocks (b ∷ (c ∷ flags)) zero d is covered more = absurd (omega arith)
counted-whole region blocks (true ∷ (c ∷ flags)) (suc last) d is covered more =
    let first = suc-mul last region in
    let second = suc-mul (suc last) region in
    let fewer = counted-whole region (blocks - region) (c ∷ flags) last d (omega arith)
    (omega arith) (omega arith) in
    let same = lacks-same region blocks (suc last * region) (behind_count (c ∷ flags))
    (blocks_behind region (blocks - region) (c ∷ flags)) (get_or (c ∷ flags) last d)
    (omega arith) more fewer in
    rw (suc-mul (suc last) region) (omega (arith, same, suc-mul (behind_count (c ∷ flags)) region))
counted-whole region blocks (false ∷ (c ∷ flags)) (suc last) d is covered more =
    let first = suc-mul last region in
    let second = suc-mul (suc last) region in
    let fewer = counted-whole region (blocks - region) (c ∷ flags) last d (omega arith)
    (omega arith) (omega arith) in
    let same = lacks-same region blocks (suc last * region) (behind_count (c ∷ flags))
    (blocks_behind region (blocks - region) (c ∷ flags)) (get_or (c ∷ flags) last d)
    (omega arith) more fewer in
    rw (suc-mul (suc last) region) (omega (arith, same))

-- a region that is behind counts with all of its blocks
pub length-behind : (region blocks : ℕ) (flags : List Bool) (k : ℕ) → get_or flags k false ≡ true
    → min region (blocks - k * region) ≤ blocks_behind region blocks flags
length-behind region blocks [] k h = absurd cc
length-behind region blocks (true ∷ flags) zero h = omega arith
length-behind region blocks (false ∷ flags) zero h = absurd cc
length-behind region blocks (true ∷ flags) (suc k) h =
    omega (arith, suc-mul k region, length-behind region (blocks - region) flags k h)
length-behind region blocks (false ∷ flags) (suc k) h =
    omega (arith, suc-mul k region, length-behind region (blocks - region) flags k h)
