use Rattle.std.proofs.Common.{◌≡◌, ℕ, ◌≤◌, List, ◌∙◌, ap, arith, length, take}
use Rattle.std.proofs.lemmas.List.{with_items_is}
use Rattle.nm_file_leg.specs.Medium.{spliced}
use Rattle.nm_file_leg.proofs.MediaLemmas.{writes-none, writes-steady}
use Rattle.nm_file_leg.proofs.mem_medium.MemMediumMedium.write_at.Goals as goal

pub returns-then-at-len-clause-writes : goal.returns-then-at-len-clause-writes
returns-then-at-len-clause-writes c = writes-none _ _ _

pub returns-clause-writes : goal.returns-clause-writes
returns-clause-writes c =
    let n = c.min-many.result in
    let held = c.args.self.now.bytes.items in
    let short : n ≤ length c.args.bytes.now = omega (arith, c.min-many.ensures) in
    let inside : c.args.at ≤ length held = omega (arith, c.if-at-len.false, c.len.ensures, c.deref_mut.ensures.len, ap length c.deref_mut.ensures.value) in
    let done = c.splice.ensures ∙ ap (λ (xs : List ℕ). spliced c.args.at (take n c.args.bytes.now) xs) c.deref_mut.ensures.value in
    let same : length c.splice.new.bytes ≡ c.args.self.now.bytes.len = c.splice.auto.bytes ∙ c.deref_mut.ensures.len in
    rw (with_items_is c.args.self.now.bytes c.splice.new.bytes same, done) (writes-steady c.args.at n c.args.bytes.now held inside short)
