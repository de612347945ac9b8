-- A leg that lost power comes back: where it is clear once it returned it lost nothing, so it may be
-- swapped for what is left of it.
use Rattle.std.proofs.Common.{◌≡◌, ◌≢◌, ⊎_elim, inl, inr, ◌⊎◌, ℕ, ◌+◌, ◌/◌, ◌<◌, Bool, true, false, not, ◌&&◌, ◌||◌, get_or, List, [], Option, None, length, length-set, refl, sym, ap, ◌∙◌, subst, arith, slice_get}
use Rattle.nm_replay.specs.declared.block.Block.{Block}
use Rattle.nm_replay.proofs.Arrays.{slice_get-set_same}
use Rattle.nm_choice.specs.declared.leg_state.LegState.{LegState}
use Rattle.nm_choice.specs.declared.leg_state.LegState.TheVariants.{InSync, Joining, Out}
use Rattle.nm_fanout.specs.Records.{busy_on}
use Rattle.nm_leg.specs.Leg.{Leg, LegType}
use Rattle.nm_regions.specs.LegFlags.{LegRegions, no_leg, attached, is_behind}
use Rattle.nm_regions.specs.Table.{leg_at, region_of, place_of, regions_of, has_copied}
use Rattle.nm_rules.specs.Acts.{Acts}
use Rattle.nm_rules.specs.Array.{stripe_array}
use Rattle.nm_rules.specs.Attach.{after_return, attach_cause, either, fallen, may_lack, may_lack_each}
use Rattle.nm_rules.specs.Flushed.{KeepsDurable}
use Rattle.nm_rules.specs.Invariant.{Keeps, is_clear}
use Rattle.nm_rules.specs.Reopening.{Marks, is_in_marked}
use Rattle.nm_rules.specs.Shape.{SameShape}
use Rattle.nm_rules.specs.State.{StripeState, leg_state, is_out, table}
use Rattle.nm_rules.specs.Unsynced.{is_unsynced, unsynced_at}
use Rattle.nm_rules.proofs.ActsLemmas.{acts-append}
use Rattle.nm_rules.proofs.AttachLemmas.{may_attach, set-other, set-same}
use Rattle.nm_rules.proofs.ChunkLemmas.{copy-is, not_copying, region_within}
use Rattle.nm_rules.proofs.ReturnLemmas.{either-more, return-acts, return-keeps}
use Rattle.nm_rules.specs.Losing.{CoversLoss, HoldsStill, LosesPower, ReturnsLost, with_part}
use Rattle.nm_rules.proofs.LackingLemmas.{either-other, lacking-at, no-mark}
use Rattle.nm_rules.proofs.SwapLemmas.{MaySwap, array-same, durable-other, swap-acts, swap-keeps}

-- a flag that is not set for the two of them lacks one
lacks-one : (a b : Bool) → (a && b) ≡ false → (a ≡ false) ⊎ (b ≡ false)
lacks-one true b is = inr is
lacks-one false b is = inl refl

not-behind : (behind copied : Bool) → copied ≡ false → (not behind || copied) ≡ true → behind ≡ false
not-behind true true none is = cc
not-behind true false none is = cc
not-behind false copied none is = refl

module _ {L : Type 0} (type : LegType L) (old new : StripeState L) (leg : ℕ) (part : L) (marks : Marks) (k : Keeps type old) (r : ReturnsLost type.model old new leg part marks) where
  -- the flags with which it returns, and the stripe as if it had lost nothing
  abbrev more : List Bool
  more = may_lack_each type.model marks (with_part old leg part) leg

  abbrev back : StripeState L
  back = after_return old leg more

  abbrev flags : List Bool
  flags = unsynced_at type.model (slice_get old.legs leg)

  out : is_out (leg_state leg old) ≡ true
  out = r.loses.out

  marks-same : unsynced_at type.model (slice_get (with_part old leg part).legs leg) ≡ flags
  marks-same = ap (λ (o : Option L). unsynced_at type.model o) (slice_get-set_same old.legs leg part r.there) ∙ r.loses.marks

  back-keeps : Keeps type back
  back-keeps = return-keeps type old leg more r.there k out

  flags-long : length (leg_at leg (table old)).behind ≡ regions_of old.place.blocks old.place.region
  flags-long = k.legs.regions leg no_leg (omega (arith, r.there, k.legs.flags))

  flags-here : leg_at leg (table back) ≡ attached (fallen more (leg_at leg (table old)))
  flags-here = set-same old.flags leg (attached (fallen more (leg_at leg (table old)))) no_leg (omega (arith, r.there, k.legs.flags))

  -- no copy of it is open
  none-copied : (region place : ℕ) → has_copied leg region place old.copy ≡ false
  none-copied region place = not_copying type.model old k.legs k.chunk leg region place out

  -- where it is clear once it is back it is not behind by the flags that there are now
  not_behind : (block : ℕ) → is_clear leg block back ≡ true → get_or (either (leg_at leg (table old)).behind more) (block / old.place.region) false ≡ false
  not_behind block clear =
      not-behind (get_or (either (leg_at leg (table old)).behind more) (block / old.place.region) false) (has_copied leg (region_of block (table old)) (place_of block (table old)) old.copy)
      (none-copied (region_of block (table old)) (place_of block (table old)))
      (subst (λ (l : LegRegions). (not (is_behind (region_of block (table old)) l) || has_copied leg (region_of block (table old)) (place_of block (table old)) old.copy) ≡ true) flags-here clear)

  off : (b c : Bool) → (b ≡ true → c ≡ true) → c ≡ false → b ≡ false
  off true c on is = absurd (let yes = on refl in let clash : true ≡ false = sym yes ∙ is in cc)
  off false c on is = refl

  was-clear : (block : ℕ) → is_clear leg block back ≡ true → is_clear leg block old ≡ true
  was-clear block clear =
      let was : get_or (leg_at leg (table old)).behind (block / old.place.region) false ≡ false
      = off (get_or (leg_at leg (table old)).behind (block / old.place.region) false) (get_or (either (leg_at leg (table old)).behind more) (block / old.place.region) false)
      (λ is. either-more (leg_at leg (table old)).behind more (block / old.place.region) is) (not_behind block clear) in
      rw was refl

  lacks-not : (block : ℕ) → block < old.place.blocks → is_clear leg block back ≡ true → may_lack marks flags (table old) (block / old.place.region) ≡ false
  lacks-not block inside clear =
      let region_in : block / old.place.region < regions_of old.place.blocks old.place.region = region_within block old.place.blocks old.place.region inside k.legs.sizes.some_region in
      let none : get_or more (block / old.place.region) false ≡ false
      = off (get_or more (block / old.place.region) false) (get_or (either (leg_at leg (table old)).behind more) (block / old.place.region) false)
      (λ is. either-other (leg_at leg (table old)).behind more (block / old.place.region) (omega (arith, region_in, flags-long)) is) (not_behind block clear) in
      let here = lacking-at marks (unsynced_at type.model (slice_get (with_part old leg part).legs leg)) (table old) (regions_of old.place.blocks old.place.region) 0 (block / old.place.region) region_in in
      let zero_more : 0 + block / old.place.region ≡ block / old.place.region = omega arith in
      sym (ap (λ (us : List Bool). may_lack marks us (table old) (block / old.place.region)) marks-same)
      ∙ sym (ap (λ (n : ℕ). may_lack marks (unsynced_at type.model (slice_get (with_part old leg part).legs leg)) (table old) n) zero_more) ∙ sym here ∙ none

  -- and so it lost nothing there
  holds : (block : ℕ) → block < old.place.blocks → is_clear leg block back ≡ true → HoldsStill type.model old.legs leg part block
  holds block inside clear =
      let was = was-clear block clear in
      ⊎_elim
      (λ unmarked. r.covers block was unmarked)
      (λ synced. r.loses.kept block was (no-mark flags (table old) block k.legs.sizes.some_region inside synced))
      (lacks-one (is_in_marked marks (block / old.place.region)) (is_unsynced flags (table old) (block / old.place.region)) (lacks-not block inside clear))

  not_this : (j : ℕ) → is_out (leg_state j old) ≡ false → j ≢ leg
  not_this j stays e = let same : is_out (leg_state j old) ≡ true = subst (λ (i : ℕ). is_out (leg_state i old) ≡ true) (sym e) out in cc

  may-swap : MaySwap type back leg part
  may-swap = record {
    keeps = back-keeps;
    there = r.there;
    long = r.loses.long;
    not_master = not_this old.master (ap (λ (st : LegState). is_out st) k.legs.master);
    not_copied = λ c is_open. not_this c.leg (ap (λ (st : LegState). is_out st) (copy-is old c k.chunk is_open).joining);
    same = holds;
  }

  pub lost-keeps : Keeps type new
  lost-keeps = subst (λ (s : StripeState L). Keeps type s) (sym r.returns.after) (swap-keeps type back leg part may-swap)

  pub lost-acts : Acts type.model old new []
  lost-acts =
      subst (λ (s : StripeState L). Acts type.model old s []) (sym r.returns.after)
      (acts-append type.model old back (with_part back leg part) [] [] (return-acts type old leg more r.there k out) (swap-acts type back leg part may-swap))

  -- what legs in sync hold durably stays
  pub lost-durable : (b : ℕ) → busy_on b old.records ≡ None → KeepsDurable type.model b old new
  lost-durable b free =
      let swapped : StripeState L = with_part back leg part in
      subst (λ (s : StripeState L). KeepsDurable type.model b old s) (sym r.returns.after)
      (record {
        free = free;
        durable = λ j held in_sync.
            let ne : j ≢ leg = λ e. joins-not (subst (λ (i : ℕ). leg_state i back ≡ InSync) e in_sync) in
            let before : leg_state j old ≡ InSync = sym (set-other old.states leg j Joining Out ne) ∙ in_sync in
            ap (λ (xs : List Block). slice_get xs b) (durable-other type back leg part may-swap j ne)
            ∙ held before ∙ sym (ap (λ (xs : List Block). slice_get xs b) (array-same type back leg part may-swap));
      })
    where
      joins-not : leg_state leg back ≡ InSync → ⊥
      joins-not in_sync =
          let joins : leg_state leg back ≡ Joining = set-same old.states leg Joining Out (omega (arith, r.there, k.legs.states)) in
          let clash : InSync ≡ Joining = sym in_sync ∙ joins in
          cc

  -- the array, the stripe's place, and how many legs it has
  pub lost-array : stripe_array type.model new ≡ stripe_array type.model old
  lost-array = ap (λ (s : StripeState L). stripe_array type.model s) r.returns.after ∙ array-same type back leg part may-swap

  pub lost-shape : SameShape old new
  lost-shape = record {
    place = ap (λ (s : StripeState L). s.place) r.returns.after;
    legs = ap (λ (s : StripeState L). length s.legs) r.returns.after ∙ length-set old.legs leg part;
  }

  pub lost-runs : new.stopped ≡ old.stopped
  lost-runs = ap (λ (s : StripeState L). s.stopped) r.returns.after

-- a leg that has another put in its place, and returns then, comes back as that
pub returns-lost : {L : Type 0} (model : L → Leg) (old mid new : StripeState L) (leg : ℕ) (part : L) (marks : Marks) → leg < length old.legs → attach_cause old leg ≡ None
    → (is_out (leg_state leg old) ≡ true → LosesPower model old leg part) → CoversLoss model old leg part marks
    → mid ≡ with_part old leg part → new ≡ after_return mid leg (may_lack_each model marks mid leg) → ReturnsLost model old new leg part marks
returns-lost model old mid new leg part marks there none loses covers stands returns = record {
  there = there;
  loses = loses (may_attach old leg none).out;
  covers = covers;
  returns = record {
    no_cause = none;
    after = subst (λ (s : StripeState _). new ≡ after_return s leg (may_lack_each model marks s leg)) stands returns;
  };
}
