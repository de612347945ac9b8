-- The blocks are put in the cache and marked, and what is durable stays.
use Rattle.std.proofs.Common.{◌≡◌, ◌∙◌, sym, subst, ap, ℕ, Bool, List, length, slice_get}
use Rattle.std.proofs.lemmas.List.{with_items_is}
use Rattle.nm_replay.specs.Array.{Array}
use Rattle.nm_leg.specs.Leg.{IsOutside, blocks_in, blocks_of, set_run}
use Rattle.nm_leg.proofs.RunLemmas.{cached-writes, length-cut_into, length-set_run, set_run-outside}
use Rattle.nm_leg.proofs.cached_leg.CachedLegLegPart.write.Goals as goal

pub returns-clause-writes : goal.returns-clause-writes
returns-clause-writes c =
    let blocks = c.args.self.now.contents in
    let same : length c.put_blocks.new.blocks ≡ blocks.len = c.put_blocks.auto.blocks ∙ c.deref_mut-2.ensures.len in
    cached-writes c.args.at c.args.bytes.now blocks.items _ 0
    (with_items_is blocks c.put_blocks.new.blocks same ∙ c.put_blocks.ensures ∙ ap (λ (xs : Array). set_run c.args.at (blocks_of c.args.bytes.now) xs) c.deref_mut-2.ensures.value)
    c.args.self.now.durable.items

pub invariant_of-self-clause-marked_each : goal.invariant_of-self-clause-marked_each
invariant_of-self-clause-marked_each c =
    let marks = c.args.self.now.unsynced in
    let blocks = c.args.self.now.contents in
    let same-m : length c.mark.new.marks ≡ marks.len = c.mark.auto.marks ∙ c.deref_mut.ensures.len in
    let same-b : length c.put_blocks.new.blocks ≡ blocks.len = c.put_blocks.auto.blocks ∙ c.deref_mut-2.ensures.len in
    ap (λ (xs : List Bool). length xs) (with_items_is marks c.mark.new.marks same-m) ∙ c.mark.ensures.length ∙ ap (λ (xs : List Bool). length xs) c.deref_mut.ensures.value
    ∙ c.args.self.now.marked_each
    ∙ sym (ap (λ (xs : Array). length xs) (with_items_is blocks c.put_blocks.new.blocks same-b ∙ c.put_blocks.ensures)
    ∙ length-set_run c.args.at (blocks_of c.args.bytes.now) c.deref_mut-2.result.now ∙ ap (λ (xs : Array). length xs) c.deref_mut-2.ensures.value)

pub invariant_of-self-clause-elsewhere : goal.invariant_of-self-clause-elsewhere
invariant_of-self-clause-elsewhere c = λ k unmarked.
    let marks = c.args.self.now.unsynced in
    let blocks = c.args.self.now.contents in
    let bytes = c.args.bytes.now in
    let same-m : length c.mark.new.marks ≡ marks.len = c.mark.auto.marks ∙ c.deref_mut.ensures.len in
    let same-b : length c.put_blocks.new.blocks ≡ blocks.len = c.put_blocks.auto.blocks ∙ c.deref_mut-2.ensures.len in
    let was = c.mark.ensures.others k (sym (ap (λ (xs : List Bool). slice_get xs k) (with_items_is marks c.mark.new.marks same-m)) ∙ unmarked) in
    let out : IsOutside c.args.at (length (blocks_of bytes)) k = subst (λ (n : ℕ). IsOutside c.args.at n k) (sym (length-cut_into (blocks_in bytes) bytes)) was.0 in
    c.args.self.now.elsewhere k (sym (ap (λ (xs : List Bool). slice_get xs k) c.deref_mut.ensures.value) ∙ was.1)
    ∙ sym (ap (λ (xs : Array). slice_get xs k) (with_items_is blocks c.put_blocks.new.blocks same-b ∙ c.put_blocks.ensures)
    ∙ set_run-outside c.args.at k (blocks_of bytes) c.deref_mut-2.result.now out ∙ ap (λ (xs : Array). slice_get xs k) c.deref_mut-2.ensures.value)
