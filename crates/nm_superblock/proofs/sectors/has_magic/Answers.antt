-- The first four bytes of the sector are compared.
use Rattle.std.proofs.Common.{◌≡◌, ℕ, ◌+◌, ◌*◌, ◌-◌, take, drop, sym, ap, ◌∙◌, arith}
use Rattle.std.proofs.lemmas.List.{take-take}
use Rattle.nm_superblock.proofs.sectors.has_magic.Goals as goal

pub returns : goal.returns
returns c =
    let n = c.args.number in
    let slot = c.args.slot.now in
    let size : 512 * n + 4 - 512 * n ≡ 4 = omega arith in
    let part = ap (λ (k : ℕ). take k (drop (512 * n) slot)) size ∙ sym (take-take 4 512 (drop (512 * n) slot) (omega arith)) in
    (λ yes. sym part ∙ c.is_same.ensures.0 yes, λ is. c.is_same.ensures.1 (part ∙ is))
