-- All is written in the first period, and the second one runs.
use Rattle.std.proofs.Common.{◌≡◌, ℕ, ◌-◌, ◌^◌, ◌≤◌, List, length, ap, sym, ◌∙◌, subst}
use Rattle.std.proofs.lemmas.List.{length-replicate, with_items_is}
use Rattle.nm_file_leg.specs.Remembered.{Remembered}
use Rattle.nm_file_leg.proofs.PeriodLemmas.{begins-anew}
use Rattle.nm_file_leg.proofs.region_writes.RegionWrites.begin_anew.Goals as goal

pub returns : goal.returns
returns c =
    let written = c.self.inside.written_in in
    let is = rw c.deref_mut.ensures.value at c.mark_all.ensures in
    let long : length c.mark_all.new.written_in ≡ length written.items = ap (λ (xs : List ℕ). length xs) is ∙ length-replicate (length written.items) 1 in
    let last : 2 ^ 32 - 1 ≤ c.self.inside.period = subst (λ (m : Remembered). 2 ^ 32 - 1 ≤ m.running) (sym c.self.view_is) c.requires in
    rw (← c.self.view_is, with_items_is written c.mark_all.new.written_in (long ∙ sym written.ok.0))
    (begins-anew _ _ (record { running = c.self.inside.period; covered = c.self.inside.covered }) written.items _ _ last c.self.invariant.periods is)
