-- The slots are read as they are decoded.
use Rattle.std.proofs.Common.{refl}
use Rattle.nm_saves.proofs.Settling.{damage-told, reads-decoded, sound-read, stamps-first, stamps-second}
use Rattle.nm_saves.proofs.superblock_file.SuperblockFile.of_slots.Goals as goal

pub invariant_of-result : goal.invariant_of-result
invariant_of-result g c =
    let a = c.highest_stamp.result in
    let b = c.highest_stamp-2.result in
    sound-read g.F.SlotFile.honest (g.F.SlotFile.held c.args.file) c.args.first.now c.args.second.now c.decode.result c.decode-2.result c.max-highest.result c.is_place_damaged.result
    c.requires c.told-first c.told-second
    (reads-decoded c.args.first.now c.decode.result c.decode.ensures.some c.decode.ensures.reads_back)
    (reads-decoded c.args.second.now c.decode-2.result c.decode-2.ensures.some c.decode-2.ensures.reads_back)
    (stamps-first c.args.first.now a b c.max-highest.result c.highest_stamp.ensures c.max-highest.ensures)
    (stamps-second c.args.second.now a b c.max-highest.result c.highest_stamp-2.ensures c.max-highest.ensures)

pub returns-clause-opens : goal.returns-clause-opens
returns-clause-opens g c = record {
  fine = refl;
  settled = λ honest. (invariant_of-result g c).settled honest refl;
  damage = λ honest.
      damage-told (g.F.SlotFile.held c.args.file) c.args.first.now c.args.second.now c.is_place_damaged.result (c.requires honest)
      c.is_place_damaged.ensures;
}
