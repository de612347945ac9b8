-- The places are the first bytes that no block was read into, and what is written there stands there.
use Rattle.std.proofs.Common.{◌≡◌, ℕ, ◌+◌, ◌-◌, ◌*◌, ◌≤◌, List, length, length-drop, length-take-le, take, drop, refl, sym, ap, ◌∙◌, arith}
use Rattle.std.specs.List.{refill}
use Rattle.nm_resync.specs.Chunk.{CopyBuffer, blocks_of}
use Rattle.nm_resync.specs.Inside.{read_of}
use Rattle.nm_resync.proofs.BytesLemmas.{lent-all, read-count, read-inside}
use Rattle.nm_resync.proofs.copy.Copy.read_slots.Goals as goal

pub returns : goal.returns
returns c =
    let most = c.self.inside.most in
    let v = c.self.inside.bytes in
    let xs = v.items in
    let chunk = c.self.inside.chunk in
    let count = c.args.count in
    let read = c.blocks_read.result in
    let now : length (blocks_of c.args.self.now.chunk) ≡ read_of chunk = ap (λ (b : CopyBuffer). length (blocks_of b.chunk)) (sym c.self.view_is) ∙ read-count xs chunk in
    let read_is : read ≡ read_of chunk = c.blocks_read.ensures.read ∙ read-count xs chunk in
    let few : read_of chunk ≤ most = read-inside most xs chunk c.self.invariant in
    let room : read + count ≤ most = omega (arith, c.requires.within, now, read_is, ap (λ (b : CopyBuffer). b.most) c.self.view_is) in
    let from : 512 * read ≡ 512 * read_of chunk = omega (arith, read_is) in
    let le : 512 * read_of chunk ≤ length xs = omega (arith, few, c.self.invariant.long) in
    let span : 512 * read + 512 * count - 512 * read ≡ 512 * count = omega arith in
    let rest : c.args.self.now.rest ≡ drop (512 * read_of chunk) xs = ap (λ (b : CopyBuffer). b.rest) (sym c.self.view_is) in
    let fits : 512 * count ≤ length (drop (512 * read_of chunk) xs) = omega (arith, length-drop (512 * read_of chunk) xs, read_is, room, c.self.invariant.long) in
    let was : c.slice_mut.result.now ≡ take (512 * count) c.args.self.now.rest =
    c.slice_mut.ensures.value ∙ ap (λ (n : ℕ). take n (drop (512 * read) xs)) span ∙ ap (λ (f : ℕ). take (512 * count) (drop f xs)) from
    ∙ ap (λ (ys : List ℕ). take (512 * count) ys) (sym rest) in (
      (
        refl,
        λ w. lent-all most v.len (512 * read) xs w chunk v.ok.0 from le ∙ ap (λ (b : CopyBuffer). let new : CopyBuffer = record { most = b.most; chunk = b.chunk; rest = refill (length b.rest) b.rest w } in new) c.self.view_is,
      ),
      record {
        slots = tt;
        was = was;
        long = ap (λ (ys : List ℕ). length ys) (was ∙ ap (λ (ys : List ℕ). take (512 * count) ys) rest) ∙ length-take-le (512 * count) (drop (512 * read_of chunk) xs) fits;
      },
    )
