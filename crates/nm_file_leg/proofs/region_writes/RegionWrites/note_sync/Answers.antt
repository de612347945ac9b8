-- No write is of the period that begins.
use Rattle.std.proofs.Common.{ℕ, ◌<◌, arith, length, ◌∙◌, List, ap, subst, sym}
use Rattle.std.proofs.lemmas.List.{with_items_is}
use Rattle.nm_file_leg.proofs.RememberedLemmas.{notes-sync}
use Rattle.nm_file_leg.proofs.region_writes.RegionWrites.note_sync.Goals as goal

pub returns : goal.returns
returns c =
    let written = c.self.inside.written_in in
    let long = ap (λ (xs : List ℕ). length xs) c.deref_mut.ensures.value ∙ c.self.invariant.periods in
    let same = c.next_period-self-inside.ensures.length ∙ ap (λ (xs : List ℕ). length xs) c.deref_mut.ensures.value ∙ sym written.ok.0 in
    rw (← c.self.view_is, with_items_is written c.next_period-self-inside.new.written_in same)
    (notes-sync _ _ _ _ _ _ _ (c.next_period-self-inside.ensures.length ∙ long) (λ r low. let later = c.next_period-self-inside.ensures.later r (subst (λ (n : ℕ). r < n) (sym long) low) in omega (arith, later)))
