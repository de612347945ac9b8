-- A finished run's record goes: the region table does not count its blocks.
use Rattle.std.proofs.Common.{◌≡◌, ℕ, zero, suc, false, List, [], ◌∷◌, Option, Some, sym, ap, ◌∙◌, arith, slice_get}
use Rattle.std.specs.List.{remove}
use Rattle.std.specs.Option.{option_and_then}
use Rattle.std.proofs.lemmas.Option.{same_Some}
use Rattle.nm_fanout.specs.declared.write_record.Record.{Record}
use Rattle.nm_fanout.specs.Record.{is_under_way}
use Rattle.nm_fanout.specs.Records.{IsAt, entry_at, without}
use Rattle.nm_fanout.specs.Runs.{AreRuns, flat, laid_out}
use Rattle.nm_fanout.proofs.Places.{remove-at}
use Rattle.nm_fanout.proofs.RunOrder.{ascends-runs}
use Rattle.nm_regions.specs.Table.{regions_of}
use Rattle.nm_rules.specs.State.{StripeState, table, writes_in}
use Rattle.nm_store.proofs.CountLemmas.{alike-from}
use Rattle.nm_store.proofs.ReachLemmas.{run-over, writes-append}

-- the entry at a place is that of the record there
pub entry-there : (place number : ℕ) (rs : List Record) (r : Record) → slice_get rs place ≡ Some r
    → entry_at place rs ≡ Some number → r.entry ≡ Some number
entry-there place number rs r here is =
    sym (ap (λ (o : Option Record). option_and_then (λ (x : Record). x.entry) o) here) ∙ is

-- a run that is not under way counts nowhere
count-removed : (size region place : ℕ) (rs : List Record) (x : Record) → slice_get rs place ≡ Some x
    → is_under_way x ≡ false
    → writes_in size region (flat (remove rs place)) ≡ writes_in size region (flat rs)
count-removed size region place [] x there over = absurd cc
count-removed size region zero (q ∷ rs) x there over =
    let is : q ≡ x = same_Some q x there in
    omega (
      arith,
      writes-append size region (laid_out q) (flat rs),
      ap (λ (z : Record). writes_in size region (laid_out z)) is,
      run-over size region x over,
    )
count-removed size region (suc place) (q ∷ rs) x there over = omega (
  arith,
  writes-append size region (laid_out q) (flat (remove rs place)),
  writes-append size region (laid_out q) (flat rs),
  count-removed size region place rs x there over,
)

-- each region has as many writes under way as before
pub claimed-counts : {L : Type 0} (old : StripeState L) (rs : List Record) (t place : ℕ)
    (x : Record) → old.records ≡ flat rs → AreRuns rs → IsAt t place rs
    → slice_get rs place ≡ Some x → is_under_way x ≡ false
    → table old ≡ table (record old { records = flat (without t rs) })
claimed-counts old rs t place x is h at there over =
    let gone : remove rs place ≡ without t rs = remove-at t place rs x (ascends-runs rs h) at in
    let size = old.place.region in
    let same : (m : ℕ) → writes_in size m (flat (without t rs)) ≡ writes_in size m old.records =
    λ m. ap (λ (l : List Record). writes_in size m (flat l)) (sym gone)
    ∙ count-removed size m place rs x there over
    ∙ ap (λ (l : List Record). writes_in size m l) (sym is) in
    ap (λ (ws : List ℕ). record { blocks = old.place.blocks; region = size; legs = old.flags; writes = ws; copy = old.copy })
    (sym (alike-from size (regions_of old.place.blocks size) 0 (flat (without t rs)) old.records (λ m low. same m)))
