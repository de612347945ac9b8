-- A run begins: its tickets come after all others, and its region counts each of its blocks.
use Rattle.std.proofs.Common.{◌≡◌, ℕ, suc, ◌+◌, ◌*◌, ◌/◌, ◌%◌, ◌<◌, ◌≤◌, Bool, true, List, [], ◌∷◌, ◌++◌, length, map, refl, sym, ap, ◌∙◌, arith, get_or, slice_set}
use Rattle.std.specs.List.{list_any}
use Rattle.std.proofs.lemmas.List.{length-append}
use Rattle.std.proofs.lemmas.Nat.{div-add-mod', div-mul-add}
use Rattle.nm_fanout.specs.declared.record_data.RecordData.{RecordData}
use Rattle.nm_fanout.specs.declared.write_record.Record.{Record}
use Rattle.nm_fanout.specs.Records.{AllBelow}
use Rattle.nm_fanout.specs.Runs.{AllEndBy, AllRuns, flat, laid_out}
use Rattle.nm_fanout.proofs.Laying.{TicketsFollow, length-run, run-follows}
use Rattle.nm_regions.specs.Changes.{begun_run}
use Rattle.nm_regions.specs.LegFlags.{marked_if_out}
use Rattle.nm_regions.specs.Table.{regions_of, region_of, targets}
use Rattle.nm_regions.specs.Table as regions
use Rattle.nm_rules.specs.Read.{current_legs}
use Rattle.nm_rules.specs.RunBegin.{after_begin_run, begun_each}
use Rattle.nm_rules.specs.Runs.{FitsRun}
use Rattle.nm_rules.specs.State.{StripeState, table, writes_from}
use Rattle.nm_rules.proofs.ChunkLemmas.{region_within}
use Rattle.nm_store.proofs.CountLemmas.{get-one, writes-few}
use Rattle.nm_store.proofs.RunCountLemmas.{AllUnderWay, writes-begun_each}
use Rattle.nm_store.proofs.TableLemmas.{some-true}

-- tickets that follow one another, all below one, end by it
follow-below : (from high : ℕ) (os : List Record) → TicketsFollow from os → AllBelow high os
    → 0 < length os → from + length os ≤ high
follow-below from high [] follow below some = absurd (omega (arith, some))
follow-below from high (o ∷ []) follow below some = omega (arith, follow.0, below.0)
follow-below from high (o ∷ (q ∷ os)) follow below some =
    let rest = follow-below (from + 1) high (q ∷ os) follow.1 below.1 (omega arith) in
    omega (arith, rest)

below-parts : (high : ℕ) (xs ys : List Record) → AllBelow high (xs ++ ys)
    → AllBelow high xs × AllBelow high ys
below-parts high [] ys h = (tt, h)
below-parts high (x ∷ xs) ys h =
    let rest = below-parts high xs ys h.1 in ((h.0, rest.0), rest.1)

pub flat-end : (high : ℕ) (rs : List Record) → AllRuns rs → AllBelow high (flat rs)
    → AllEndBy high rs
flat-end high [] all h = tt
flat-end high (r ∷ rs) all h =
    let parts = below-parts high (laid_out r) (flat rs) h in
    let long = length-run r in
    let some = all.0.filled.some in
    let last = follow-below r.ticket high (laid_out r) (run-follows r) parts.0
    (omega (arith, long, some)) in
    (omega (arith, last, long), flat-end high rs all.1 parts.1)

-- runs have at most 128 blocks each
pub flat-few : (rs : List Record) → AllRuns rs → length (flat rs) ≤ 128 * length rs
flat-few [] all = omega arith
flat-few (r ∷ rs) all =
    let most = all.0.filled.most in
    omega (arith, length-append (laid_out r) (flat rs), length-run r, most, flat-few rs all.1)

-- the blocks of a run that begins are under way in its region
begun-there : (size region run ticket block m : ℕ) (owed : List Bool) (ds : List RecordData)
    → list_any (λ (o : Bool). o) owed ≡ true → m + length ds ≤ size
    → block ≡ region * size + m → AllUnderWay size region (begun_each run ticket block owed ds)
begun-there size region run ticket block m owed [] going inside at = tt
begun-there size region run ticket block m owed (d ∷ ds) going inside at = (
  going,
  ap (λ (b : ℕ). b / size) at ∙ div-mul-add region size m (omega (arith, inside)),
  begun-there size region run (ticket + 1) (block + 1) (m + 1) owed ds going
      (omega (arith, inside)) (omega (arith, at)),
)

length-begun : (run ticket block : ℕ) (owed : List Bool) (ds : List RecordData)
    → length (begun_each run ticket block owed ds) ≡ length ds
length-begun run ticket block owed [] = refl
length-begun run ticket block owed (d ∷ ds) =
    ap (λ (n : ℕ). suc n) (length-begun run (ticket + 1) (block + 1) owed ds)

module _ {L : Type 0} (old : StripeState L) (block : ℕ) (ds : List RecordData)
    (fits : FitsRun old.place block (length ds)) where
  size : 0 < old.place.region
  size =
      let some = fits.some in
      let one_region = fits.one_region in
      omega (arith, some, one_region)

  within : block / old.place.region < regions_of old.place.blocks old.place.region
  within =
      let some = fits.some in
      let inside = fits.inside in
      region_within block old.place.blocks old.place.region (omega (arith, some, inside)) size

  -- there is room for its count
  pub begun-few : length old.records ≤ 128 * 255
      → regions.writes_in (region_of block (table old)) (table old) + length ds ≤ 65535
  begun-few few =
      let j : ℕ = block / old.place.region in
      let n : ℕ = regions_of old.place.blocks old.place.region in
      let at : j ≡ 0 + j = omega arith in
      let most = fits.most in
      omega (
        arith,
        get-one old.place.region n 0 j j old.records at within,
        writes-few old.place.region j old.records,
        few,
        most,
      )

  -- the table counts each of its blocks
  pub begun-counts : 0 < length (current_legs block old)
      → begun_run block (length ds) (table old) ≡ table (after_begin_run old block ds)
  begun-counts current =
      let j : ℕ = block / old.place.region in
      let n : ℕ = regions_of old.place.blocks old.place.region in
      let owed : List Bool = targets block (table old) in
      let os : List Record = begun_each old.tickets old.tickets block owed ds in
      let whole : block ≡ j * old.place.region + block % old.place.region =
      sym (div-add-mod' block old.place.region) in
      let there : AllUnderWay old.place.region j os =
      begun-there old.place.region j old.tickets old.tickets block (block % old.place.region) owed ds
      (some-true 0 owed current) fits.one_region whole in
      let counts = writes-begun_each old.place.region n j os old.records there within in
      let as_many : length os ≡ length ds = length-begun old.tickets old.tickets block owed ds in
      ap (λ (ws : List ℕ). record {
        blocks = old.place.blocks;
        region = old.place.region;
        legs = map (marked_if_out j) old.flags;
        writes = ws;
        copy = old.copy;
      })
      (sym (counts
      ∙ ap (λ (k : ℕ). slice_set (writes_from old.place.region n 0 old.records) j
      (get_or (writes_from old.place.region n 0 old.records) j 0 + k)) as_many))
