-- The region table of the state that a change leaves is the table that the change leaves.
use Rattle.std.proofs.Common.{◌≡◌, ℕ, zero, suc, ◌+◌, ◌<◌, Bool, true, false, List, [], ◌∷◌, length, refl, sym, ap, ◌∙◌, arith, get_or, slice_set}
use Rattle.std.specs.List.{list_any}
use Rattle.nm_fanout.specs.declared.write_record.Record.{Record}
use Rattle.nm_regions.specs.LegFlags.{LegRegions, no_leg}
use Rattle.nm_regions.specs.Table.{RegionTable, regions_of, leg_at}
use Rattle.nm_regions.specs.Changes.{with_leg}
use Rattle.nm_rules.specs.State.{StripeState, table, writes_from}
use Rattle.nm_rules.specs.Read.{true_from}

-- where some place is named, some place is true
pub some-true : (i : ℕ) (places : List Bool) → 0 < length (true_from i places) → list_any (λ owed. owed) places ≡ true
some-true i [] some = absurd (omega (arith, some))
some-true i (true ∷ places) some = refl
some-true i (false ∷ places) some = some-true (i + 1) places some

-- one leg is changed twice
pub set-twice : {X : Type 0} (xs : List X) (k : ℕ) (x y : X) → slice_set (slice_set xs k x) k y ≡ slice_set xs k y
set-twice [] k x y = refl
set-twice (z ∷ zs) zero x y = refl
set-twice (z ∷ zs) (suc k) x y = ap (λ rest. z ∷ rest) (set-twice zs k x y)

set-same : {X : Type 0} (xs : List X) (k : ℕ) (x d : X) → k < length xs → get_or (slice_set xs k x) k d ≡ x
set-same [] k x d inside = absurd (omega (arith, inside))
set-same (y ∷ ys) zero x d inside = refl
set-same (y ∷ ys) (suc k) x d inside = set-same ys k x d (omega (arith, inside))

pub with-twice : (f g : LegRegions → LegRegions) (leg : ℕ) (t : RegionTable) → leg < length t.legs → with_leg f leg (with_leg g leg t) ≡ with_leg (λ l. f (g l)) leg t
with-twice f g leg t inside =
    let at : get_or (slice_set t.legs leg (g (leg_at leg t))) leg no_leg ≡ g (leg_at leg t) = set-same t.legs leg (g (leg_at leg t)) no_leg inside in
    ap (λ (l : LegRegions). record t { legs = slice_set (slice_set t.legs leg (g (leg_at leg t))) leg (f l) }) at
    ∙ ap (λ (ls : List LegRegions). record t { legs = ls }) (set-twice t.legs leg (g (leg_at leg t)) (f (g (leg_at leg t))))

-- a table that is the state's is it with its own legs and copy, and these records
pub table-of : {L : Type 0} (t : RegionTable) (s : StripeState L) (rs : List Record) → t ≡ table s → rs ≡ s.records
    → t ≡ record { blocks = s.place.blocks; region = s.place.region; legs = t.legs; writes = writes_from s.place.region (regions_of s.place.blocks s.place.region) 0 rs; copy = t.copy }
table-of t s rs is same =
    is
    ∙ sym (ap (λ (u : RegionTable). record { blocks = s.place.blocks; region = s.place.region; legs = u.legs; writes = writes_from s.place.region (regions_of s.place.blocks s.place.region) 0 rs; copy = u.copy }) is
    ∙ ap (λ (l : List Record). record { blocks = s.place.blocks; region = s.place.region; legs = s.flags; writes = writes_from s.place.region (regions_of s.place.blocks s.place.region) 0 l; copy = s.copy }) same)
