-- The head is compared with that of the stamp that was read.
use Rattle.std.proofs.Common.{◌≡◌, ℕ, ◌+◌, ◌*◌, ◌-◌, take, drop, sym, ap, ◌∙◌, arith}
use Rattle.std.proofs.lemmas.List.{take-take}
use Rattle.nm_superblock.specs.Layout.{header_bytes}
use Rattle.nm_superblock.proofs.sectors.has_head_of.Goals as goal

pub returns : goal.returns
returns c =
    let n = c.args.number in
    let slot = c.args.slot.now in
    let size : 512 * n + 16 - 512 * n ≡ 16 = omega arith in
    let part = ap (λ (k : ℕ). take k (drop (512 * n) slot)) size ∙ sym (take-take 16 512 (drop (512 * n) slot) (omega arith)) in
    let head = c.header-head.ensures ∙ ap (λ (g : ℕ). header_bytes c.args.version g n) c.read_stamp.ensures in
    (λ yes. sym part ∙ c.is_same.ensures.0 yes ∙ head, λ is. c.is_same.ensures.1 (part ∙ is ∙ sym head))
