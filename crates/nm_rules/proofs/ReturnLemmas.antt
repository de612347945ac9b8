-- A leg that is out joins again, behind in more regions than it was: where it is clear, it was.
use Rattle.std.proofs.Common.{◌≡◌, ◌≢◌, ⊎_elim, ℕ, ◌<◌, zero, suc, Bool, true, false, not, ◌&&◌, ◌||◌, get_or, List, [], ◌∷◌, length, length-set, refl, sym, ap, ◌∙◌, subst, arith}
use Rattle.std.specs.List.{list_any}
use Rattle.nm_choice.specs.declared.leg_state.LegState.{LegState}
use Rattle.nm_choice.specs.declared.leg_state.LegState.TheVariants.{InSync, Joining, Out}
use Rattle.nm_leg.specs.Leg.{LegType}
use Rattle.nm_regions.specs.declared.copy_place.CopyPlace.{CopyPlace}
use Rattle.nm_regions.specs.LegFlags.{LegRegions, no_leg, attached, is_behind}
use Rattle.nm_regions.specs.Table.{leg_at, region_of, place_of, regions_of, has_copied}
use Rattle.nm_rules.specs.Acts.{Acts}
use Rattle.nm_rules.specs.Attach.{after_return, either, fallen}
use Rattle.nm_rules.specs.Invariant.{HasLegs, HasWrites, IsCopy, LegsAgree, Keeps, is_clear}
use Rattle.nm_rules.specs.State.{StripeState, leg_state, is_out, table}
use Rattle.nm_rules.proofs.ActsLemmas.{acts-same}
use Rattle.nm_rules.proofs.AttachLemmas.{set-same, set-other, have-set}
use Rattle.nm_rules.proofs.ChunkLemmas.{chunk-stays}
use Rattle.nm_rules.proofs.MarkLemmas.{clear-less}
use Rattle.nm_rules.proofs.RecordLemmas.{one_or_two}
use Rattle.nm_rules.proofs.RelabelLemmas.{current-attached}

-- as many flags as there were
pub length-either : (flags more : List Bool) → length (either flags more) ≡ length flags
length-either [] more = refl
length-either (b ∷ flags) [] = refl
length-either (b ∷ flags) (m ∷ more) = ap (λ (n : ℕ). suc n) (length-either flags more)

or-first : (a b : Bool) → a ≡ true → (a || b) ≡ true
or-first true b is = refl
or-first false b is = cc

-- what is set stays set
pub either-more : (flags more : List Bool) (i : ℕ) → get_or flags i false ≡ true → get_or (either flags more) i false ≡ true
either-more [] more i is = cc
either-more (b ∷ flags) [] i is = is
either-more (b ∷ flags) (m ∷ more) zero is = or-first b m is
either-more (b ∷ flags) (m ∷ more) (suc i) is = either-more flags more i is

module _ {L : Type 0} (type : LegType L) (old : StripeState L) (leg : ℕ) (more : List Bool) (inside : leg < length old.legs) (k : Keeps type old) (out : is_out (leg_state leg old) ≡ true) where
  abbrev new : StripeState L
  new = after_return old leg more

  -- the regions of the leg
  abbrev back : LegRegions
  back = attached (fallen more (leg_at leg (table old)))

  state-here : leg_state leg new ≡ Joining
  state-here = set-same old.states leg Joining Out (omega (arith, inside, k.legs.states))

  state-other : (j : ℕ) → j ≢ leg → leg_state j new ≡ leg_state j old
  state-other j ne = set-other old.states leg j Joining Out ne

  flags-here : leg_at leg (table new) ≡ back
  flags-here = set-same old.flags leg back no_leg (omega (arith, inside, k.legs.flags))

  flags-other : (j : ℕ) → j ≢ leg → leg_at j (table new) ≡ leg_at j (table old)
  flags-other j ne = set-other old.flags leg j back no_leg ne

  not_this : (j : ℕ) → is_out (leg_state j old) ≡ false → j ≢ leg
  not_this j attached_j e = let same : is_out (leg_state j old) ≡ true = subst (λ (i : ℕ). is_out (leg_state i old) ≡ true) (sym e) out in cc

  back-long : length back.behind ≡ regions_of old.place.blocks old.place.region
  back-long = length-either (leg_at leg (table old)).behind more ∙ k.legs.regions leg no_leg (omega (arith, inside, k.legs.flags))

  return-legs : HasLegs type.model new
  return-legs = record {
    sizes = k.legs.sizes;
    some_chunk = k.legs.some_chunk;
    states = length-set old.states leg Joining ∙ k.legs.states;
    flags = length-set old.flags leg back ∙ k.legs.flags;
    regions = have-set (regions_of old.place.blocks old.place.region) old.flags leg back k.legs.regions back-long;
    lengths = k.legs.lengths;
    master = state-other old.master (not_this old.master (ap (λ (st : LegState). is_out st) k.legs.master)) ∙ k.legs.master;
    outs = λ j. ⊎_elim
        (λ same. subst (λ (i : ℕ). (leg_at i (table new)).out ≡ is_out (leg_state i new)) (sym same)
        (ap (λ (l : LegRegions). l.out) flags-here ∙ sym (ap (λ (st : LegState). is_out st) state-here)))
        (λ ne. ap (λ (l : LegRegions). l.out) (flags-other j ne) ∙ k.legs.outs j ∙ sym (ap (λ (st : LegState). is_out st) (state-other j ne)))
        (one_or_two j leg);
    in_sync = λ j in_sync. ⊎_elim
        (λ same. absurd (let is : leg_state leg new ≡ InSync = subst (λ (i : ℕ). leg_state i new ≡ InSync) same in_sync in let joins = state-here in cc))
        (λ ne. ap (λ (l : LegRegions). list_any (λ behind. behind) l.behind) (flags-other j ne) ∙ k.legs.in_sync j (sym (state-other j ne) ∙ in_sync))
        (one_or_two j leg);
  }

  -- where a leg is clear, it was
  clear-other : (j block : ℕ) → j ≢ leg → is_clear j block new ≡ is_clear j block old
  clear-other j block ne =
      ap (λ (l : LegRegions). not (is_behind (region_of block (table old)) l) || has_copied j (region_of block (table old)) (place_of block (table old)) old.copy) (flags-other j ne)

  clear-here : (block : ℕ) → is_clear leg block new ≡ true → is_clear leg block old ≡ true
  clear-here block clear =
      clear-less (is_behind (region_of block (table old)) (leg_at leg (table old))) (is_behind (region_of block (table old)) back) (has_copied leg (region_of block (table old)) (place_of block (table old)) old.copy)
      (λ is. either-more (leg_at leg (table old)).behind more (region_of block (table old)) is)
      (subst (λ (l : LegRegions). (not (is_behind (region_of block (table old)) l) || has_copied leg (region_of block (table old)) (place_of block (table old)) old.copy) ≡ true) flags-here clear)

  was_clear : (j block : ℕ) → is_clear j block new ≡ true → is_clear j block old ≡ true
  was_clear j block clear =
      ⊎_elim
      (λ same. subst (λ (i : ℕ). is_clear i block old ≡ true) (sym same) (clear-here block (subst (λ (i : ℕ). is_clear i block new ≡ true) same clear)))
      (λ ne. sym (clear-other j block ne) ∙ clear)
      (one_or_two j leg)

  -- the leg of an open copy is another leg
  copied_other : (c : CopyPlace) → IsCopy c old → c.leg ≢ leg
  copied_other c is = not_this c.leg (ap (λ (st : LegState). is_out st) is.joining)

  return-copy : (c : CopyPlace) → IsCopy c old → IsCopy c new
  return-copy c is = record {
    joining = state-other c.leg (copied_other c is) ∙ is.joining;
    behind = ap (λ (l : LegRegions). get_or l.behind c.region false) (flags-other c.leg (copied_other c is)) ∙ is.behind;
    within = is.within;
  }

  return-writes : HasWrites new
  return-writes = record {
    owed = λ t r j at owes_j.
        let was = k.writes.owed t r j at owes_j in
        let other = not_this j (current-attached type old j r.block k.legs k.chunk was) in
        ap (λ (l : LegRegions). (not l.out && not (is_behind (region_of r.block (table old)) l)) || has_copied j (region_of r.block (table old)) (place_of r.block (table old)) old.copy) (flags-other j other) ∙ was;
    apart = k.writes.apart;
    marked = λ t r j at within going out_j. ⊎_elim
        (λ same. absurd (let is : is_out (leg_state leg new) ≡ true = subst (λ (i : ℕ). is_out (leg_state i new) ≡ true) same out_j in let joins : is_out (leg_state leg new) ≡ false = ap (λ (st : LegState). is_out st) state-here in let clash : true ≡ false = sym is ∙ joins in cc))
        (λ ne. clear-other j r.block ne ∙ k.writes.marked t r j at within going (sym (ap (λ (st : LegState). is_out st) (state-other j ne)) ∙ out_j))
        (one_or_two j leg);
  }

  return-agrees : LegsAgree type.model old → LegsAgree type.model new
  return-agrees agree = record {
    reached = λ t r j within at going free clear. agree.reached t r j within at going free (was_clear j r.block clear);
    alike = λ j block within block_in none clear. agree.alike j block within block_in none (was_clear j block clear);
    last = agree.last;
    unlanded = agree.unlanded;
    buffer = λ c chunk is_open is_chunk.
        let held = agree.buffer c chunk is_open is_chunk in
        record { read = held.read; written = held.written };
  }

  pub return-keeps : Keeps type new
  return-keeps = record {
    legs = return-legs;
    records = record { in_order = k.records.in_order; tickets = k.records.tickets; one_writer = k.records.one_writer; inside = k.records.inside; landed = k.records.landed; settling = k.records.settling };
    writes = return-writes;
    chunk = chunk-stays old new old.copy old.chunk return-copy (λ c h is. record { long = is.long; some = is.some; most = is.most; more = is.more; read_first = is.read_first }) k.chunk;
    numbers = record { start = k.numbers.start; starts = k.numbers.starts; numbered = k.numbers.numbered; most = k.numbers.most; asked = k.numbers.asked; given = k.numbers.given; below = k.numbers.below; low = k.numbers.low };
    turn = k.turn;
    consistent = k.consistent;
    agrees = λ is_honest runs. return-agrees (k.agrees is_honest runs);
  }

  -- and no caller sees it
  pub return-acts : Acts type.model old new []
  return-acts = acts-same type.model old new k.numbers.most (record { array = refl; lives = λ t. refl; kept = refl; first = refl; total = refl })
