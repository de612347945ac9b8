-- What both rings keep are the heads and the bytes of the last entries.
use Rattle.std.proofs.Common.{◌≡◌, ℕ, ◌+◌, ◌-◌, ◌*◌, ◌/◌, ◌++◌, List, length, min, drop, ap, sym, ◌∙◌, arith, length-append, length-drop}
use Rattle.nm_replay.specs.declared.entry.Entry.{Entry}
use Rattle.nm_replay.specs.declared.head.Head.{Head}
use Rattle.nm_replay.specs.Heads.{heads_from, joined}
use Rattle.nm_replay.specs.Kept.{kept_with, last_kept, run_from}
use Rattle.nm_replay.proofs.Heads.{joined-kept, joined-run, kept_of, length-heads_from}
use Rattle.nm_replay.proofs.kept.Kept.push_run.Goals as goal

pub invariant_of-self : goal.invariant_of-self
invariant_of-self c =
    let hs = c.self.inside.heads.items in
    let bs = c.self.inside.bytes.items in
    let b = c.args.bytes.now in
    let n : ℕ = length b / 512 in
    let more : List Head = heads_from n c.new.result in
    let most : ℕ = c.self.inside.heads.capacity in
    let heads : length c.add_heads.new.heads.items ≡ min most (c.self.inside.total + n) = omega (
      arith,
      ap (λ xs. length xs) c.add_heads.ensures.items,
      length-drop (length (hs ++ more) - most) (hs ++ more),
      length-append hs more,
      length-heads_from n c.new.result,
      c.self.invariant.1,
    ) in
    let bytes : length c.extend_from_slice.new.self.items ≡ 512 * min most (c.self.inside.total + n) = omega (
      arith,
      ap (λ x. length x.items) c.extend_from_slice.ensures,
      c.self.invariant.0,
      length-drop (length (bs ++ b) - c.self.inside.bytes.capacity) (bs ++ b),
      length-append bs b,
      c.requires.whole,
      c.self.invariant.1,
      c.self.invariant.2,
    ) in (
      ap (λ x. x.capacity) c.extend_from_slice.ensures ∙ c.self.invariant.0 ∙ ap (λ k. 512 * k) (sym c.add_heads.ensures.capacity),
      heads ∙ ap (λ k. min k (c.self.inside.total + n)) (sym c.add_heads.ensures.capacity),
      bytes ∙ ap (λ k. 512 * k) (sym heads),
    )

pub returns-clause-last : goal.returns-clause-last
returns-clause-last c =
    let hs = c.self.inside.heads.items in
    let bs = c.self.inside.bytes.items in
    let b = c.args.bytes.now in
    let n : ℕ = length b / 512 in
    let h : Head = c.new.result in
    let more : List Head = heads_from n h in
    let run : List Entry = run_from n c.args.number c.args.kind c.args.block b in
    let most : ℕ = c.self.inside.heads.capacity in
    let bytes : c.extend_from_slice.new.self.items ≡ drop (length (bs ++ b) - 512 * most) (bs ++ b) =
    ap (λ x. x.items) c.extend_from_slice.ensures ∙ ap (λ k. drop (length (bs ++ b) - k) (bs ++ b)) c.self.invariant.0 in
    let size : length b ≡ 512 * length more = omega (arith, c.requires.whole, length-heads_from n h) in
    let is_run : joined more b ≡ run = ap (λ x. joined (heads_from n x) b) c.new.ensures ∙ joined-run n c.args.number c.args.kind c.args.block b in
    ap (λ k. kept_of k (joined c.add_heads.new.heads.items c.extend_from_slice.new.self.items)) c.add_heads.ensures.capacity
    ∙ ap (λ es. kept_of most es) (ap (λ x. joined x c.extend_from_slice.new.self.items) c.add_heads.ensures.items
    ∙ ap (λ x. joined (drop (length (hs ++ more) - most) (hs ++ more)) x) bytes
    ∙ joined-kept most hs more bs b c.self.invariant.2 size
    ∙ ap (λ x. last_kept most (joined hs bs ++ x)) is_run)
    ∙ ap (λ k. kept_with run k.last) c.self.view_is
