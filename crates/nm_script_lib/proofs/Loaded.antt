-- Legs that are loaded, and a stripe that opens by comparing them.
use Rattle.std.proofs.Common.{◌≡◌, ◌⊎◌, ⊎_elim, ℕ, zero, suc, replicate, ◌+◌, ◌<◌, ◌==◌, true, false, cond, List, [], ◌∷◌, ◌++◌, length, length-set, slice_set, Some, Option, inl, inr, refl, sym, ap, subst, ◌∙◌, arith}
use Rattle.std.specs.List.{slice_get}
use Rattle.std.proofs.lemmas.Bool.{eq-eqb}
use Rattle.std.proofs.lemmas.List.{length-append, length-replicate}
use Rattle.std.proofs.lemmas.Option.{same_Some, slice_get_within}
use Rattle.nm_replay.specs.Array.{Array}
use Rattle.nm_leg.specs.Leg.{IsRun, Leg, block_of, filled_array, filled_leg, no_marks}
use Rattle.nm_leg.specs.LegCalls.{EachHas}
use Rattle.nm_leg.specs.declared.fuse_leg.FuseLeg.{FuseLeg}
use Rattle.nm_leg.specs.TestLegs.{durable_leg, of_fuse}
use Rattle.nm_script_lib.specs.PowerLeg.{of_power, power_legs}
use Rattle.nm_script_lib.specs.declared.power_leg.PowerLeg.{PowerLeg}
use Rattle.nm_rules.specs.Array.{contents_at}
use Rattle.nm_rules.specs.BlockCalls.{WritesBlock}
use Rattle.nm_rules.specs.Comparing.{comparing}
use Rattle.nm_rules.specs.RunComparing.{OpensComparedRuns}
use Rattle.nm_rules.proofs.ComparingLemmas.{Stage, starts}
use Rattle.nm_rules.proofs.RunComparingLemmas.{runs-moved}
use Rattle.nm_rules.proofs.OpeningLemmas.{opened-lengths}
use Rattle.nm_script_lib.specs.declared.load.Load.{Load}
use Rattle.nm_script_lib.specs.declared.mirror_line.MirrorLine.{MirrorLine}
use Rattle.nm_script_lib.specs.MemStripe.{MemStripe, InRange, AreLoadedLegs, HasShape, FitsLoad, filled_block, loaded, loaded_leg, place_of, with_load}

-- a block of one byte has 512
pub filled_length : (fill : ℕ) → length (filled_block fill) ≡ 512
unfolding filled_block
filled_length fill = length-replicate 512 fill

-- a load leaves the length of an array

load_length : (leg : ℕ) (load : Load) (array : Array) →
    length (with_load leg load array) ≡ length array
load_length leg load array =
    elim (load.leg == leg) as (λ b. length (cond b (slice_set array load.block (block_of (filled_block load.fill))) array) ≡ length array) [
      | true ↦ length-set array load.block (block_of (filled_block load.fill))
      | false ↦ refl
    ]

loaded_length : (leg : ℕ) (loads : List Load) (array : Array) →
    length (loaded leg loads array) ≡ length array
loaded_length leg [] array = refl
loaded_length leg (load ∷ loads) array =
    loaded_length leg loads (with_load leg load array) ∙ load_length leg load array

-- each loaded leg has as many blocks as the mirror
pub loaded_lengths : (m : MirrorLine) (loads : List Load) (legs : List PowerLeg) →
    AreLoadedLegs m loads legs → EachHas of_power legs m.blocks
loaded_lengths m loads legs are = λ place leg found.
    ap (λ (l : Leg). length l.contents) (are.each place leg found)
    ∙ loaded_length place loads (filled_array m.blocks 0)
    ∙ length-replicate m.blocks _

-- a new leg has no loads
pub not_loaded : (m : MirrorLine) (place : ℕ) (leg : Leg) → leg ≡ filled_leg m.blocks 0 →
    leg ≡ loaded_leg m [] place
not_loaded m place leg is =
    let all : Array = filled_array m.blocks 0 in
    is ∙ ap (λ (n : ℕ). let x : Leg = record { contents = all; durable = all; unsynced = no_marks n; faults = 0 } in x) (sym (length-replicate m.blocks (block_of (replicate 512 0))))

-- one load more

loaded_more : (leg : ℕ) (loads : List Load) (load : Load) (array : Array) →
    loaded leg (loads ++ load ∷ []) array ≡ with_load leg load (loaded leg loads array)
loaded_more leg [] load array = refl
loaded_more leg (l ∷ loads) load array = loaded_more leg loads load (with_load leg l array)

leg_more : (m : MirrorLine) (loads : List Load) (load : Load) (place : ℕ) (all : Array) →
    with_load place load (loaded place loads (filled_array m.blocks 0)) ≡ all →
    loaded_leg m (loads ++ load ∷ []) place ≡ durable_leg all 0
leg_more m loads load place all is =
    ap (λ (xs : Array). durable_leg xs 0)
    (loaded_more place loads load (filled_array m.blocks 0) ∙ is)

-- a leg with a fuse is what it holds, and its faults
of_parts : (leg : FuseLeg) (all : Array) (faults : ℕ) → (of_fuse leg).contents ≡ all →
    (of_fuse leg).faults ≡ faults →
    of_fuse leg ≡ durable_leg all faults
of_parts leg all faults holds failed =
    ap (λ (xs : Array). durable_leg xs leg.faults) holds
    ∙ ap (λ (k : ℕ). durable_leg all k) failed

module _ (m : MirrorLine) (loads : List Load) (load : Load) (place : ℕ) (old new : FuseLeg) (was : of_fuse old ≡ loaded_leg m loads place) where
  abbrev before : Array
  before = loaded place loads (filled_array m.blocks 0)

  abbrev after : Array
  after = slice_set before load.block (block_of (filled_block load.fill))

  -- a load of the leg is in its block
  pub load_more : load.leg ≡ place → WritesBlock true true load.block (filled_block load.fill) (of_fuse old) (of_fuse new) → of_fuse new ≡ loaded_leg m (loads ++ load ∷ []) place
  load_more here writes =
      let holds : (of_fuse new).contents ≡ after =
      writes.written refl refl
      ∙ ap (λ (l : Leg). slice_set l.contents load.block (block_of (filled_block load.fill))) was in
      let failed : (of_fuse new).faults ≡ 0 = writes.calls.faults ∙ ap (λ (l : Leg). l.faults) was in
      let with_it : with_load place load before ≡ after = ap (λ b. cond b after before) (eq-eqb load.leg place here) in
      of_parts new after 0 holds failed ∙ sym (leg_more m loads load place after with_it)

  -- a load of another leg leaves it
  pub load_else : (load.leg == place) ≡ false → of_fuse old ≡ loaded_leg m (loads ++ load ∷ []) place
  load_else other = was ∙ sym (leg_more m loads load place before (ap (λ b. cond b after before) other))

-- a load is of a block that its leg has
pub load_inside : (m : MirrorLine) (loads : List Load) (load : Load) (place : ℕ) (leg : Leg) →
    leg ≡ loaded_leg m loads place → FitsLoad m load → IsRun load.block (length leg.contents) (filled_block load.fill)
load_inside m loads load place leg is fits =
    let long : length leg.contents ≡ m.blocks =
    ap (λ (l : Leg). length l.contents) is ∙ loaded_length place loads (filled_array m.blocks 0) ∙ length-replicate m.blocks _ in
    let whole : length (filled_block load.fill) ≡ 512 = filled_length load.fill in
    record {
      some = omega (arith, whole);
      whole = omega (arith, whole);
      inside = omega (arith, whole, long, fits.1);
    }

-- the legs so far, each with the loads
pub record LoadedSoFar (n : ℕ) (m : MirrorLine) (loads : List Load) (legs : List PowerLeg) : Type 0 where
  pub count : length legs ≡ n
  pub each : (place : ℕ) (leg : PowerLeg) → slice_get legs place ≡ Some leg → of_power leg ≡ loaded_leg m loads place

pub no_loaded : (m : MirrorLine) (loads : List Load) (legs : List PowerLeg) → legs ≡ [] → LoadedSoFar 0 m loads legs
no_loaded m loads legs is = rw is (record { count = refl; each = λ place leg found. absurd (let e : ⊥ = cc in e) })

-- a list with one more reads as before, and then as the one more
get_more : {A : Type 0} (xs : List A) (x y : A) (k : ℕ) → slice_get (xs ++ x ∷ []) k ≡ Some y → (slice_get xs k ≡ Some y) ⊎ ((k ≡ length xs) × (x ≡ y))
get_more [] x y zero found = inr (refl, same_Some x y found)
get_more [] x y (suc k) found = absurd (let e : ⊥ = cc in e)
get_more (z ∷ xs) x y zero found = inl found
get_more (z ∷ xs) x y (suc k) found = ⊎_elim (λ old. inl old) (λ last. inr (ap (λ (n : ℕ). suc n) last.0, last.1)) (get_more xs x y k found)

pub loaded_next : (n : ℕ) (m : MirrorLine) (loads : List Load) (old new : List PowerLeg) (leg : PowerLeg) →
    LoadedSoFar n m loads old → of_power leg ≡ loaded_leg m loads n → new ≡ old ++ leg ∷ [] → LoadedSoFar (n + 1) m loads new
loaded_next n m loads old new leg so_far is e = rw e (record {
  count = length-append old (leg ∷ []) ∙ ap (λ k. k + 1) so_far.count;
  each = λ place found_leg found. ⊎_elim
      (λ before. so_far.each place found_leg before)
      (λ last. ap (λ (l : PowerLeg). of_power l) (sym last.1) ∙ is ∙ ap (λ (k : ℕ). loaded_leg m loads k) (sym (last.0 ∙ so_far.count)))
      (get_more old leg found_leg place found);
})

pub all_loaded : (n : ℕ) (m : MirrorLine) (loads : List Load) (legs : List PowerLeg) → n ≡ m.legs → LoadedSoFar n m loads legs → AreLoadedLegs m loads legs
all_loaded n m loads legs all so_far = record { count = so_far.count ∙ all; each = so_far.each }

-- a stripe that was opened by comparing has the mirror's shape
pub compared_shape : (m : MirrorLine) (loads : List Load) (legs : List PowerLeg) (master : ℕ)
    (stripe : MemStripe) → InRange m → AreLoadedLegs m loads legs → master < m.legs →
    OpensComparedRuns power_legs (comparing (place_of m) legs master m.first m.policy) stripe →
    HasShape m stripe
compared_shape m loads legs master stripe range are inside opens =
    let start : MemStripe = comparing (place_of m) legs master m.first m.policy in
    let stage : Stage power_legs (place_of m) legs master m.first m.policy m.blocks 0 opens.end =
    subst (λ (n : ℕ). Stage power_legs (place_of m) legs master m.first m.policy n 0 opens.end) opens.all
    (runs-moved power_legs (place_of m) legs master m.first m.policy range.region.0 opens.counts start opens.end
    (starts power_legs (place_of m) legs master m.first m.policy (omega (arith, inside, are.count))) opens.compares) in
    subst (λ (s : MemStripe). HasShape m s) (sym opens.opens) (record {
      region = omega (arith, range.region.0);
      sizes = (range.legs.1, range.blocks.1);
      place = ap (λ (s : MemStripe). s.place) stage.rest;
      legs = stage.count ∙ are.count;
      each = λ place leg found.
          let within = slice_get_within opens.end.legs place leg found in
          ap (λ (p : Option PowerLeg). length (contents_at of_power p)) (sym found)
          ∙ stage.lengths place
          ∙ opened-lengths of_power legs m.blocks place (loaded_lengths m loads legs are)
          (omega (arith, within, stage.count));
    })
