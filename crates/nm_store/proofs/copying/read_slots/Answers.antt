-- The bytes of the places are a run, and what was read into them is what stands there.
use Rattle.std.proofs.Common.{◌≡◌, ◌*◌, List, length, take, sym, ap, ◌∙◌, subst, arith, is_ok}
use Rattle.nm_replay.specs.declared.block.Block.{Block}
use Rattle.std.specs.List.{refill}
use Rattle.nm_leg.specs.Leg.{leg_type}
use Rattle.nm_leg.proofs.RunLemmas.{length-cut_into}
use Rattle.nm_resync.proofs.BytesLemmas.{refilled}
use Rattle.nm_rules.specs.RunCalls.{ReadsRunAt}
use Rattle.nm_rules.proofs.RunCallLemmas.{run-reads_at}
use Rattle.nm_store.proofs.copying.read_slots.Goals as goal

pub read_leg_at-requires-clause-run : goal.read_leg_at-requires-clause-run
read_leg_at-requires-clause-run g c leg there =
    let long = c.read_slots.ensures.long in
    let inside = c.requires.blocks leg there in
    record {
      some = omega (arith, long, c.requires.some);
      whole = omega (arith, long);
      inside = omega (arith, long, inside);
    }

pub returns-clause-reads : goal.returns-clause-reads
returns-clause-reads g c =
    let type = leg_type g.L.LegPart.model g.L.LegPart.honest in
    let w = c.read_leg_at.new.into in
    let rest = c.args.buffer.now.rest in
    let room : length (take (512 * c.args.count) rest) ≡ 512 * c.args.count = ap (λ (xs : List _). length xs) (sym c.read_slots.ensures.was) ∙ c.read_slots.ensures.long in
    let long : length w ≡ 512 * c.args.count = c.read_leg_at.auto.into ∙ c.read_slots.ensures.long in
    subst (λ (bs : List Block). ReadsRunAt type (is_ok c.read_leg_at.result) c.args.leg c.args.at bs c.args.legs.now c.read_leg_at.new.legs) (sym (refilled c.args.count rest w long room))
    (run-reads_at type (is_ok c.read_leg_at.result) c.args.leg c.args.at w c.args.legs.now c.read_leg_at.new.legs c.read_leg_at.ensures)

pub returns-clause-long : goal.returns-clause-long
returns-clause-long g c = length-cut_into c.args.count (refill (length c.args.buffer.now.rest) c.args.buffer.now.rest c.read_leg_at.new.into)
