-- All blocks are read where one is written, and these are cut from the bytes.
use Rattle.std.proofs.Common.{◌≡◌, ℕ, ◌+◌, ◌-◌, ◌*◌, ◌≤◌, List, take, drop, sym, ap, ◌∙◌, subst, arith}
use Rattle.nm_leg.specs.Leg.{cut_into}
use Rattle.nm_resync.specs.declared.copy_move.Move.TheVariants.{Write}
use Rattle.nm_resync.specs.Chunk.{CopyBuffer, IsCopyBuffer, blocks_of, length_of}
use Rattle.nm_resync.specs.Moves.{move_of}
use Rattle.nm_resync.proofs.BytesLemmas.{chunk-most, is_buffer, lent-blocks}
use Rattle.nm_resync.proofs.copy.Copy.blocks.Goals as goal

pub overflow_mul-from : goal.overflow_mul-from
overflow_mul-from c =
    let most = chunk-most c.args.self.now (subst (λ (b : CopyBuffer). IsCopyBuffer b) c.self.view_is (is_buffer c.self.inside.most c.self.inside.bytes.items c.self.inside.chunk c.self.invariant)) in
    omega (arith, most, c.requires.within)

pub returns-clause-blocks : goal.returns-clause-blocks
returns-clause-blocks c =
    let number = c.args.number in
    let count = c.args.count in
    let span : 512 * number + 512 * count - 512 * number ≡ 512 * count = omega arith in
    let next = subst (λ (b : CopyBuffer). move_of b.chunk ≡ Write number) (sym c.self.view_is) c.requires.next in
    let within = subst (λ (b : CopyBuffer). number + count ≤ length_of b.chunk) (sym c.self.view_is) c.requires.within in
    ap (λ (n : ℕ). cut_into count (take n (drop (512 * number) c.deref.result.now))) span
    ∙ ap (λ (bs : List ℕ). cut_into count (take (512 * count) (drop (512 * number) bs))) c.deref.ensures.value
    ∙ lent-blocks number count c.self.inside.bytes.items c.self.inside.chunk next within
    ∙ ap (λ (b : CopyBuffer). take count (drop number (blocks_of b.chunk))) c.self.view_is
