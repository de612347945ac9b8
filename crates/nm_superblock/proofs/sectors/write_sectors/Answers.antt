-- Each round writes one header and one piece more.
use Rattle.std.proofs.Common.{◌≡◌, ℕ, ◌+◌, ◌*◌, ◌-◌, take, drop, refl, sym, ap, ◌∙◌, subst, arith}
use Rattle.std.proofs.lemmas.List.{take_all}
use Rattle.nm_superblock.specs.Layout.{sectors_bytes}
use Rattle.nm_superblock.proofs.Standing.{one-more}
use Rattle.nm_superblock.proofs.sectors.write_sectors.Goals as goal

pub sectors-init : goal.sectors-init
unfolding sectors_bytes
sectors-init c = (omega arith, refl)

pub sectors-preserved : goal.sectors-preserved
sectors-preserved c =
    let n = c.sectors.number in
    let p = c.args.payload.now in
    let size : 496 * n + 496 - 496 * n ≡ 496 = omega arith in
    let long = c.sectors.invariant.0 in (
      omega arith,
      one-more c.args.version c.args.generation n p c.sectors.slot c.put_bytes.new.bytes c.put_bytes-in-sectors.new.bytes c.header-header.result
          (take (496 * n + 496 - 496 * n) (drop (496 * n) p))
          (omega arith) c.sectors.invariant.1 c.header-header.ensures
          (ap (λ (k : ℕ). take k (drop (496 * n) p)) size)
          c.put_bytes.ensures.written c.put_bytes-in-sectors.ensures.written,
    )

pub returns : goal.returns
returns c =
    let end : c.sectors.number ≡ 8 = omega arith in
    let long = c.sectors.invariant.0 in
    sym (take_all 4096 c.sectors.slot (omega (arith, long)))
    ∙ subst (λ (k : ℕ). take (512 * k) c.sectors.slot ≡ sectors_bytes c.args.version c.args.generation k c.args.payload.now) end c.sectors.invariant.1
