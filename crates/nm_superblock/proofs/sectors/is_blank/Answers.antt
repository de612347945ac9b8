-- The sector is compared whole.
use Rattle.std.proofs.Common.{◌≡◌, ℕ, ◌+◌, ◌*◌, ◌-◌, take, drop, sym, ap, ◌∙◌, arith}
use Rattle.nm_superblock.specs.Layout.{zeroes}
use Rattle.nm_superblock.proofs.sectors.is_blank.Goals as goal

pub returns : goal.returns
unfolding zeroes
returns c =
    let n = c.args.number in
    let size : 512 * n + 512 - 512 * n ≡ 512 = omega arith in
    let part = ap (λ (k : ℕ). take k (drop (512 * n) c.args.slot.now)) size in
    (λ yes. sym part ∙ c.is_same.ensures.0 yes, λ is. c.is_same.ensures.1 (part ∙ is))
