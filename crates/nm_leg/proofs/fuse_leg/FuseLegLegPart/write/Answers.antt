-- A write that fails is torn, and leaves every other block.
use Rattle.std.proofs.Common.{rules, false, is_ok, ◌≡◌, ◌≢◌, ◌∙◌, ◌+◌, ◌%◌, ◌^◌, ◌<◌, [], Option, IfSome, ap, arith, subst, length, slice_index_or}
use Rattle.std.proofs.lemmas.List.{with_items_is}
use Rattle.std.proofs.lemmas.Option.{slice_get-get_or}
use Rattle.nm_replay.specs.declared.block.Block.{Block}
use Rattle.nm_replay.specs.Array.{Array}
use Rattle.nm_leg.specs.Leg.{block_of, blocks_of, set_run}
use Rattle.nm_leg.specs.TestLegs.{torn_at, torn_run}
use Rattle.nm_leg.proofs.RunLemmas.{put-writes}
use Rattle.nm_leg.proofs.TornLemmas.{half-inside, torn-writes}
use Rattle.nm_leg.proofs.fuse_leg.FuseLegLegPart.write.Goals as goal

pub returns-then-burn-clause-writes : goal.returns-then-burn-clause-writes
returns-then-burn-clause-writes c =
    let at = c.args.at in
    let bytes = c.args.bytes.now in
    let blocks = c.args.self.now.blocks in
    let faults = c.args.self.now.faults in
    let lent : c.deref_mut.result.now ≡ blocks.items = c.deref_mut.ensures.value in
    let inside : torn_at at bytes < length c.deref_mut.result.now = omega (arith, half-inside bytes c.requires.some c.requires.whole, c.requires.inside, ap (λ (xs : Array). length xs) lent) in
    let was : Block = slice_index_or c.deref_mut.result.now (torn_at at bytes) (block_of []) in
    let torn : c.tear.new.blocks ≡ torn_run at bytes was c.deref_mut.result.now =
    subst (λ (o : Option Block). IfSome o (λ b. c.tear.new.blocks ≡ torn_run at bytes b c.deref_mut.result.now)) (slice_get-get_or c.deref_mut.result.now (torn_at at bytes) (block_of []) inside) c.tear.ensures in
    let same : length c.tear.new.blocks ≡ blocks.len = c.tear.auto.blocks ∙ c.deref_mut.ensures.len in
    let moves : (faults + 1) % 2 ^ 64 ≢ faults = omega arith in
    let failed : is_ok c.fail.result ≡ false = search rules in
    rw (failed, c.fail.ensures.counted)
    (torn-writes at (length blocks.items) bytes was blocks.items c.requires _ faults moves
    (with_items_is blocks c.tear.new.blocks same ∙ torn ∙ ap (λ (xs : Array). torn_run at bytes was xs) lent))

pub returns-clause-writes : goal.returns-clause-writes
returns-clause-writes c =
    let blocks = c.args.self.now.blocks in
    let same : length c.put_blocks.new.blocks ≡ blocks.len = c.put_blocks.auto.blocks ∙ c.deref_mut-2.ensures.len in
    put-writes c.args.at c.args.bytes.now blocks.items _ c.args.self.now.faults
    (with_items_is blocks c.put_blocks.new.blocks same ∙ c.put_blocks.ensures ∙ ap (λ (xs : Array). set_run c.args.at (blocks_of c.args.bytes.now) xs) c.deref_mut-2.ensures.value)
