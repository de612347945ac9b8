-- Each field is read where it stands.
use Rattle.std.proofs.Common.{[], ◌∷◌, ◌==◌, ◌++◌, if◌then◌else◌, List, ℕ, drop, get_or, sym, ap, ◌∙◌, arith}
use Rattle.nm_superblock.proofs.Fields.{fits-tables, stands}
use Rattle.nm_superblock.proofs.Reading.{byte-at, bytes-at, flag-back, number-at, same}
use Rattle.nm_superblock.proofs.payload.read_payload.Goals as goal

pub returns-clause-fits : goal.returns-clause-fits
returns-clause-fits c = record {
  generation = omega arith;
  mirror = omega arith;
  blocks = omega arith;
  region_blocks = omega arith;
  span_regions = omega arith;
  leg_ids = c.get_table.ensures.fits;
  seen = c.get_table-2.ensures.fits;
  sets = omega arith;
  lineages = c.get_table-3.ensures.fits;
  forks = c.get_table-4.ensures.fits;
  marked = omega arith;
  identities = c.get_table-5.ensures.fits;
  changed = c.get_table-6.ensures.fits;
  version = omega arith;
}

pub returns-clause-reads_back : goal.returns-clause-reads_back
returns-clause-reads_back c s fits version generation is =
    let p = c.args.payload.now in
    let at = stands s p (fits-tables s fits) is in
    let small : List ℕ = (s.stripes ∷ s.legs ∷ s.leg ∷ (if s.clean then 1 else 0) ∷ 0 ∷ 0 ∷ 0 ∷ 0 ∷ []) ++ at.small.0 in
    same s c.args.version c.args.generation c.read_u128.result c.get_u64.result c.get_u32.result c.get_u32-2.result
    (get_or p 32 0) (get_or p 33 0) (get_or p 34 0) (get_or p 35 0 == 1)
    c.get_table.new.numbers c.get_table-2.new.numbers c.copy_from_slice.new.self c.get_table-3.new.numbers c.get_table-4.new.numbers c.copy_from_slice-2.new.self c.get_table-5.new.numbers c.get_table-6.new.numbers
    (sym version) (sym generation)
    (number-at 16 c.read_u128.result s.mirror p at.mirror.0 fits.mirror at.mirror.1 c.read_u128.ensures)
    (number-at 8 c.get_u64.result s.blocks (drop 16 p) at.export_blocks.0 fits.blocks at.export_blocks.1 c.get_u64.ensures)
    (number-at 4 c.get_u32.result s.region_blocks (drop 24 p) at.region_blocks.0 fits.region_blocks at.region_blocks.1 c.get_u32.ensures)
    (number-at 4 c.get_u32-2.result s.span_regions (drop 28 p) at.span_regions.0 fits.span_regions at.span_regions.1 c.get_u32-2.ensures)
    (byte-at 32 0 p small at.small.1)
    (byte-at 32 1 p small at.small.1)
    (byte-at 32 2 p small at.small.1)
    (ap (λ (n : ℕ). n == 1) (byte-at 32 3 p small at.small.1) ∙ flag-back s.clean)
    (c.get_table.ensures.reads_back s.leg_ids at.leg_ids.0 fits.leg_ids at.leg_ids.1)
    (c.get_table-2.ensures.reads_back s.seen at.seen.0 fits.seen at.seen.1)
    (c.copy_from_slice.ensures.after ∙ bytes-at 256 (drop 168 p) s.sets.bytes at.sets.0 fits.sets at.sets.1)
    (c.get_table-3.ensures.reads_back s.lineages at.lineages.0 fits.lineages at.lineages.1)
    (c.get_table-4.ensures.reads_back s.forks at.forks.0 fits.forks at.forks.1)
    (c.copy_from_slice-2.ensures.after ∙ bytes-at 2048 (drop 496 p) s.marked.bytes at.marked.0 fits.marked at.marked.1)
    (c.get_table-5.ensures.reads_back s.identities.words at.identities.0 fits.identities at.identities.1)
    (c.get_table-6.ensures.reads_back s.changed at.changed.0 fits.changed at.changed.1)
