-- The whole blocks of the first half are put, and then what is left of it.
use Rattle.std.proofs.Common.{◌≡◌, ◌+◌, ◌-◌, ◌*◌, ◌/◌, ◌<◌, ◌++◌, ℕ, List, [], Option, Some, IfSome, ap, arith, length, take, drop, subst, sym, ◌∙◌, slice_get, slice_index_or, slice_set}
use Rattle.std.proofs.lemmas.List.{length-drop, take_all}
use Rattle.std.proofs.lemmas.Option.{slice_get-get_or}
use Rattle.nm_replay.specs.declared.block.Block.{Block}
use Rattle.nm_replay.specs.Array.{Array}
use Rattle.nm_leg.specs.Bytes.{spliced}
use Rattle.nm_leg.specs.Leg.{block_of, blocks_in}
use Rattle.nm_leg.specs.TestLegs.{half_of, torn_at, torn_block, torn_run}
use Rattle.nm_leg.proofs.TornLemmas.{half-inside, torn-before}
use Rattle.nm_leg.proofs.fuse_leg.tear.Goals as goal

pub returns : goal.returns
unfolding spliced
returns c =
    let at = c.args.at in
    let bytes = c.args.bytes.now in
    let xs = c.args.blocks.now in
    let half = half_of bytes in
    let put = c.put_blocks.new.blocks in
    let next = torn_at at bytes in
    let long : length put ≡ length xs = c.put_blocks.auto.blocks in
    let inside : next < length put = omega (arith, long, half-inside bytes c.requires.some c.requires.whole, c.requires.inside) in
    let was : Block = slice_index_or put next (block_of []) in
    let found : slice_get xs next ≡ Some was =
    sym (ap (λ (ys : Array). slice_get ys next) c.put_blocks.ensures ∙ torn-before at bytes xs) ∙ slice_get-get_or put next (block_of []) inside in
    let order : length half / 512 * 512 ≡ 512 * blocks_in half = omega arith in
    let part = take (length half - length half / 512 * 512) (drop (length half / 512 * 512) half) in
    let front : 0 + length part ≡ length part = omega arith in
    let rest : part ≡ drop (512 * blocks_in half) half =
    take_all (length half - length half / 512 * 512) (drop (length half / 512 * 512) half) (omega (arith, length-drop (length half / 512 * 512) half)) ∙ ap (λ (k : ℕ). drop k half) order in
    let torn : c.splice.new.bytes ≡ (torn_block (drop (512 * blocks_in half) half) was).0 =
    c.splice.ensures ∙ ap (λ (k : ℕ). part ++ drop k was.0) front ∙ ap (λ (ys : List ℕ). ys ++ drop (length ys) was.0) rest in
    subst (λ (o : Option Block). IfSome o (λ (b : Block). slice_set put next (block_of c.splice.new.bytes) ≡ torn_run at bytes b xs)) (sym found)
    (ap (λ (ys : List ℕ). slice_set put next (block_of ys)) torn
    ∙ ap (λ (ys : Array). slice_set ys next (torn_block (drop (512 * blocks_in half) half) was)) c.put_blocks.ensures)
