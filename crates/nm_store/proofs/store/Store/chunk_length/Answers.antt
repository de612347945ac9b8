-- The open chunk is the one that a step goes on with; where none is open it is a new one.
use Rattle.std.proofs.Common.{◌≡◌, ◌<◌, ◌≤◌, sym, ap, ◌∙◌, arith}
use Rattle.nm_resync.specs.Chunk.{Chunk, length_of as chunk_blocks}
use Rattle.nm_rules.specs.Copy.{chunk_of, new_chunk}
use Rattle.nm_rules.specs.State.{StripeState}
use Rattle.nm_store.specs.Inside.{state_of}
use Rattle.nm_store.proofs.CopyLemmas.{none-open, open-length}
use Rattle.nm_store.proofs.store.Store.chunk_length.Goals as goal

pub returns-then-blocks-gt0-clause-length : goal.returns-then-blocks-gt0-clause-length
returns-then-blocks-gt0-clause-length g c =
    let s = state_of c.self.inside in
    let some : 0 < chunk_blocks s.chunk = omega (arith, c.if-blocks-gt0.true, c.length-blocks.ensures.length) in
    c.length-blocks.ensures.length ∙ (open-length s.chunk (new_chunk c.args.copy s) c.self.inside.buffer.most c.length-blocks.ensures.buffer.chunk some).0
    ∙ ap (λ (t : StripeState _). (chunk_of c.args.copy t).length) c.self.view_is

pub returns-then-blocks-gt0-clause-most : goal.returns-then-blocks-gt0-clause-most
returns-then-blocks-gt0-clause-most g c =
    let s = state_of c.self.inside in
    let some : 0 < chunk_blocks s.chunk = omega (arith, c.if-blocks-gt0.true, c.length-blocks.ensures.length) in
    let fits = (open-length s.chunk (new_chunk c.args.copy s) c.self.inside.buffer.most c.length-blocks.ensures.buffer.chunk some).1 in
    let size : c.self.inside.buffer.most ≡ c.args.self.now.place.chunk = c.self.invariant.chunk ∙ ap (λ (t : StripeState _). t.place.chunk) c.self.view_is in
    omega (arith, fits, size, c.length-blocks.ensures.length)

pub returns-clause-length : goal.returns-clause-length
returns-clause-length g c =
    let s = state_of c.self.inside in
    let none : chunk_blocks s.chunk ≤ 0 = omega (arith, c.if-blocks-gt0.false, c.length-blocks.ensures.length) in
    let is : chunk_of c.args.copy s ≡ new_chunk c.args.copy s = none-open s.chunk (new_chunk c.args.copy s) c.self.inside.buffer.most c.length-blocks.ensures.buffer.chunk none in
    c.new_length.ensures.length
    ∙ sym (ap (λ (t : StripeState _). (new_chunk c.args.copy t).length) c.self.view_is)
    ∙ sym (ap (λ (k : Chunk). k.length) is)
    ∙ ap (λ (t : StripeState _). (chunk_of c.args.copy t).length) c.self.view_is
