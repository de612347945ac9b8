-- Each round reads one piece more.
use Rattle.std.proofs.Common.{◌≡◌, ℕ, ◌+◌, ◌*◌, ◌-◌, take, drop, refl, sym, ◌∙◌, subst, arith}
use Rattle.std.proofs.lemmas.List.{length-replicate, take_all}
use Rattle.nm_superblock.specs.Sectors.{pieces_of}
use Rattle.nm_superblock.proofs.Standing.{piece-more}
use Rattle.nm_superblock.proofs.sectors.read_pieces.Goals as goal

pub sectors-init : goal.sectors-init
unfolding pieces_of
sectors-init c = (length-replicate {A = ℕ} 3968 0, refl)

pub sectors-preserved : goal.sectors-preserved
sectors-preserved c =
    let n = c.sectors.number in
    let slot = c.args.slot.now in
    let long = c.sectors.invariant.0 in (
      omega arith,
      piece-more n slot c.sectors.payload c.put_bytes.new.bytes (omega arith) c.sectors.invariant.1
          (take (512 * n + 512 - (512 * n + 16)) (drop (512 * n + 16) slot)) refl c.put_bytes.ensures.written,
    )

pub returns : goal.returns
returns c =
    let end : c.sectors.number ≡ 8 = omega arith in
    let long = c.sectors.invariant.0 in
    sym (take_all 3968 c.sectors.payload (omega (arith, long)))
    ∙ subst (λ (k : ℕ). take (496 * k) c.sectors.payload ≡ pieces_of k c.args.slot.now) end c.sectors.invariant.1
