-- Each field was written behind the one before.
use Rattle.std.proofs.Common.{◌≡◌, ◌++◌, ◌*◌, length, take, refl, sym, ◌∙◌, arith, append_assoc}
use Rattle.std.proofs.lemmas.List.{take_all}
use Rattle.nm_superblock.specs.Layout.{head_bytes, table_bytes, tail_bytes}
use Rattle.nm_superblock.proofs.Writing.{fixed}
use Rattle.nm_superblock.proofs.superblock.Superblock.put_fields.Goals as goal

pub returns-clause-written : goal.returns-clause-written
unfolding head_bytes tail_bytes
returns-clause-written c =
    let s = c.args.self.now in
    let ids : 8 * length s.leg_ids ≡ 64 = omega arith in
    let seen : 8 * length s.seen ≡ 64 = omega arith in
    let sets : length s.sets.bytes ≡ 256 = omega arith in
    let lineages : 8 * length s.lineages ≡ 32 = omega arith in
    let forks : 8 * length s.forks ≡ 32 = omega arith in
    let marked : length s.marked.bytes ≡ 2048 = omega arith in
    let words : 8 * length s.identities.words ≡ 256 = omega arith in
    let changed : 8 * length s.changed ≡ 64 = omega arith in
    let e6 = fixed 40 (8 * length s.leg_ids) 64 c.put_table.new.bytes (take 40 c.put_bytes.new.bytes ++ table_bytes s.leg_ids) ids c.put_table.ensures in
    let e7 = fixed 104 (8 * length s.seen) 64 c.put_table-2.new.bytes (take 104 c.put_table.new.bytes ++ table_bytes s.seen) seen c.put_table-2.ensures in
    let e8 = fixed 168 (length s.sets.bytes) 256 c.put_bytes-2.new.bytes (take 168 c.put_table-2.new.bytes ++ s.sets.bytes) sets c.put_bytes-2.ensures.written in
    let e10 = fixed 432 (8 * length s.lineages) 32 c.put_table-3.new.bytes (take 432 c.put_zeroes.new.bytes ++ table_bytes s.lineages) lineages c.put_table-3.ensures in
    let e11 = fixed 464 (8 * length s.forks) 32 c.put_table-4.new.bytes (take 464 c.put_table-3.new.bytes ++ table_bytes s.forks) forks c.put_table-4.ensures in
    let e12 = fixed 496 (length s.marked.bytes) 2048 c.put_bytes-3.new.bytes (take 496 c.put_table-4.new.bytes ++ s.marked.bytes) marked c.put_bytes-3.ensures.written in
    let e13 = fixed 2544 (8 * length s.identities.words) 256 c.put_table-5.new.bytes (take 2544 c.put_bytes-3.new.bytes ++ table_bytes s.identities.words) words c.put_table-5.ensures in
    let e14 = fixed 2800 (8 * length s.changed) 64 c.put_table-6.new.bytes (take 2800 c.put_table-5.new.bytes ++ table_bytes s.changed) changed c.put_table-6.ensures in
    sym (take_all 3968 c.put_zeroes-2.new.bytes (omega arith))
    ∙ rw (c.put_zeroes-2.ensures, e14, e13, e12, e11, e10, c.put_zeroes.ensures, e8, e7, e6, c.put_bytes.ensures.written, c.put_u32-2.ensures, c.put_u32.ensures, c.put_u64.ensures, c.put_u128.ensures, c.flags-flags.ensures)
    (simp append_assoc refl)
