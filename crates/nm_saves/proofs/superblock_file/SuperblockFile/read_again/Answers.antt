-- The slots that were read again are what the file durably holds.
use Rattle.std.proofs.Common.{false, true, subst, arith, refl}
use Rattle.nm_saves.specs.FileState.{FileState, HasStampsUpTo, state_of}
use Rattle.nm_saves.specs.Rereading.{RereadsFile}
use Rattle.nm_saves.proofs.Settling.{damage-told, reads-decoded, sound-read, stamps-first, stamps-second}
use Rattle.nm_saves.proofs.superblock_file.SuperblockFile.read_again.Goals as goal

pub invariant_of-self-2 : goal.invariant_of-self-2
invariant_of-self-2 g c =
    let a = c.highest_stamp.result in
    let b = c.highest_stamp-2.result in
    let first = c.read_slots.new.first in
    let second = c.read_slots.new.second in
    let highest = c.max-self-inside.result in
    let first_up_to : HasStampsUpTo highest first = λ number below magic.
    let bound = stamps-first first a b c.max-found.result c.highest_stamp.ensures c.max-found.ensures number below magic in
    omega (arith, bound, c.max-self-inside.ensures) in
    let second_up_to : HasStampsUpTo highest second = λ number below magic.
    let bound = stamps-second second a b c.max-found.result c.highest_stamp-2.ensures c.max-found.ensures number below magic in
    omega (arith, bound, c.max-self-inside.ensures) in
    sound-read g.F.SlotFile.honest (g.F.SlotFile.held c.read_slots.new.file) first second c.decode-self-inside.result c.decode-self-inside-2.result highest c.is_place_damaged-self-inside.result
    (λ honest. c.in_ok-read_slots.ensures.durably honest refl) c.read_slots.array_long c.read_slots.array_long2
    (reads-decoded first c.decode-self-inside.result c.decode-self-inside.ensures.some c.decode-self-inside.ensures.reads_back)
    (reads-decoded second c.decode-self-inside-2.result c.decode-self-inside-2.ensures.some c.decode-self-inside-2.ensures.reads_back)
    first_up_to second_up_to

pub returns : goal.returns
returns g c =
    let honest = g.F.SlotFile.honest in
    let held = g.F.SlotFile.held c.read_slots.new.file in
    let old : FileState = state_of (g.F.SlotFile.held c.self.inside.file) c.self.inside.first c.self.inside.second c.self.inside.highest c.self.inside.failed c.self.inside.damaged in
    let new : FileState = state_of held c.decode-self-inside.result c.decode-self-inside-2.result c.max-self-inside.result false c.is_place_damaged-self-inside.result in
    let reads : RereadsFile honest true old new = record {
      fine = λ _. refl;
      failed = λ never. absurd (cc);
      settled = λ is _. (invariant_of-self-2 g c).settled is refl;
      damage = λ is _.
          damage-told held c.read_slots.new.first c.read_slots.new.second c.is_place_damaged-self-inside.result
          (c.in_ok-read_slots.ensures.durably is refl) c.is_place_damaged-self-inside.ensures;
      unread = λ never. absurd (cc);
      stamps = omega (arith, c.max-self-inside.ensures);
      unfound = λ never. absurd (cc);
      keeps = c.in_ok-read_slots.ensures.keeps;
    } in
    subst (λ (f : FileState). RereadsFile honest true f new) c.self.view_is reads
