-- A leg that a step calls is not out, and where its call fails, it changes no more than what is behind
-- for it once it has gone out.
use Rattle.std.proofs.Common.{◌≡◌, ⊎_elim, inl, inr, ℕ, ◌≤◌, ◌+◌, ◌/◌, ◌*◌, ◌<◌, ◌&&◌, ◌||◌, zero, suc, Bool, true, false, not, IsTrue, List, [], ◌∷◌, length, Some, get_or, refl, sym, ap, ◌∙◌, subst, arith, cond, slice_get}
use Rattle.std.proofs.lemmas.Bool.{cases_lt}
use Rattle.std.proofs.lemmas.Nat.{div-mul-add}
use Rattle.std.proofs.lemmas.Option.{same_Some}
use Rattle.nm_replay.specs.declared.block.Block.{Block}
use Rattle.nm_choice.specs.declared.leg_state.LegState.{LegState}
use Rattle.nm_choice.specs.Choice.{place_of}
use Rattle.nm_leg.specs.Leg.{CallsLeg, LegType}
use Rattle.nm_leg.specs.LegCalls.{ChangesLeg, SyncsLegAt}
use Rattle.nm_rules.specs.BlockCalls.{ReadsBlockAt, WritesBlockAt}
use Rattle.nm_regions.specs.declared.copy_place.CopyPlace.{CopyPlace}
use Rattle.nm_regions.specs.LegFlags.{is_behind}
use Rattle.nm_regions.specs.Table.{has_copied, leg_at, region_of, targets}
use Rattle.nm_regions.specs.Table as regions
use Rattle.nm_rules.specs.Copy.{CallsToCopyWrite}
use Rattle.nm_rules.specs.Invariant.{Keeps}
use Rattle.nm_rules.specs.Lost.{dirty_and_out}
use Rattle.nm_rules.specs.RunCalls.{WritesRunAt}
use Rattle.nm_rules.specs.Read.{current_legs, read_leg, true_from}
use Rattle.nm_rules.specs.State.{Chunk, StripeState, copy_start, is_current, is_out, is_quiet, leg_state, table}
use Rattle.nm_rules.proofs.ChunkLemmas.{not_copying}
use Rattle.nm_rules.proofs.CopyLemmas.{Ready}
use Rattle.nm_rules.proofs.DirtyLemmas.{dirty-marks}
use Rattle.nm_rules.proofs.LegLemmas.{calls-after, calls-before, calls-length, calls-lengths, calls-other}
use Rattle.nm_rules.proofs.OutLemmas.{LosesLeg}
use Rattle.nm_rules.proofs.OwedLemmas.{owes_current}
use Rattle.nm_rules.proofs.StateLemmas.{attached_inside}

-- the places that are true
true-at : (i k leg : ℕ) (bs : List Bool) → slice_get (true_from i bs) k ≡ Some leg → (j : ℕ) × (leg ≡ i + j) × (get_or bs j false ≡ true)
true-at i k leg [] at = cc
true-at i zero leg (true ∷ bs) at = (0, omega (arith, same_Some i leg at), refl)
true-at i (suc k) leg (true ∷ bs) at = let later = true-at (i + 1) k leg bs at in (suc later.0, omega (arith, later.1), later.2)
true-at i k leg (false ∷ bs) at = let later = true-at (i + 1) k leg bs at in (suc later.0, omega (arith, later.1), later.2)

module _ {L : Type 0} (type : LegType L) (old : StripeState L) (k : Keeps type old) where
  -- a leg that is current at a block is not out
  pub current_attached : (leg block : ℕ) → is_current leg block old ≡ true → is_out (leg_state leg old) ≡ false
  current_attached leg block is =
      (elim (is_out (leg_state leg old)) as (λ b. is_out (leg_state leg old) ≡ b → b ≡ false) [
        | true ↦ λ out.
            let region : ℕ = block / old.place.region in
            let flag : (leg_at leg (table old)).out ≡ true = k.legs.outs leg ∙ out in
            let none : has_copied leg region (regions.place_of block (table old)) old.copy ≡ false = not_copying type.model old k.legs k.chunk leg region (regions.place_of block (table old)) out in
            let not_current : is_current leg block old ≡ false =
            ap (λ (v : Bool). (not v && not (is_behind region (leg_at leg (table old)))) || has_copied leg region (regions.place_of block (table old)) old.copy) flag ∙ none in
            absurd (let clash : true ≡ false = sym is ∙ not_current in cc)
        | false ↦ λ stays. refl
      ]) refl

  -- the master is not out
  pub master_attached : is_out (leg_state old.master old) ≡ false
  master_attached = ap (λ (s : LegState). is_out s) k.legs.master

  -- nor is the leg that a read takes
  pub read_attached : (block leg : ℕ) → read_leg block old ≡ Some leg → is_out (leg_state leg old) ≡ false
  read_attached block leg is =
      (elim (is_quiet block old) as (λ b. cond b (slice_get (current_legs block old) (place_of old.policy old.turn (region_of block (table old)) (length (current_legs block old)))) (Some old.master) ≡ Some leg → is_out (leg_state leg old) ≡ false) [
        | true ↦ λ taken.
            let at = true-at 0 (place_of old.policy old.turn (region_of block (table old)) (length (current_legs block old))) leg (targets block (table old)) taken in
            let place : at.0 ≡ leg = omega (arith, at.1) in
            current_attached leg block (owes_current (table old) block leg (subst (λ (j : ℕ). get_or (targets block (table old)) j false ≡ true) place at.2))
        | false ↦ λ taken. subst (λ (j : ℕ). is_out (leg_state j old) ≡ false) (same_Some old.master leg taken) master_attached
      ]) is

module _ {L : Type 0} (type : LegType L) (succeeded : Bool) (old : StripeState L) (legs : List L) (leg : ℕ) where
  -- a call that changes an honest leg at no block that is clear
  call-loses : (before after : L) → ChangesLeg type.model leg old.legs legs before after → CallsLeg succeeded (type.model before) (type.model after)
      → (IsTrue type.honest → (b : ℕ) → is_behind (b / old.place.region) (dirty_and_out (table old).writes (leg_at leg (table old))) ≡ false → slice_get (type.model after).contents b ≡ slice_get (type.model before).contents b)
      → LosesLeg type old legs leg
  call-loses before after change calls stays = record {
    count = calls-length type.model old.legs legs leg before after change;
    others = λ j ne. calls-other type.model old.legs legs leg j before after change ne;
    lengths = λ j. calls-lengths type.model succeeded old.legs legs leg j before after change calls;
    stays = λ is_honest b clear.
        ap (λ xs. slice_get xs b) (calls-after type.model old.legs legs leg before after change) ∙ stays is_honest b clear
        ∙ ap (λ xs. slice_get xs b) (sym (calls-before type.model old.legs legs leg before after change));
  }

  -- a read
  pub read-loses : (at : ℕ) (filled : Block) → ReadsBlockAt type succeeded leg at old.legs legs filled → LosesLeg type old legs leg
  read-loses at filled r = call-loses r.before r.after r.change r.reads.calls (λ is_honest b clear. ap (λ xs. slice_get xs b) (r.reads.contents is_honest))

  -- a sync
  pub sync-loses : SyncsLegAt type succeeded leg old.legs legs → LosesLeg type old legs leg
  sync-loses s = call-loses s.before s.after s.change s.syncs.calls (λ is_honest b clear. ap (λ xs. slice_get xs b) (s.syncs.contents is_honest))

  -- and a write, where its block is behind
  pub write-loses : (at : ℕ) (bytes : List ℕ) → is_behind (at / old.place.region) (dirty_and_out (table old).writes (leg_at leg (table old))) ≡ true → WritesBlockAt type succeeded leg at bytes old.legs legs → LosesLeg type old legs leg
  write-loses at bytes behind w =
      call-loses w.before w.after w.change w.writes.calls
      (λ is_honest b clear. w.writes.others is_honest b
      (λ is. let here : is_behind (b / old.place.region) (dirty_and_out (table old).writes (leg_at leg (table old))) ≡ true = subst (λ (n : ℕ). is_behind (n / old.place.region) (dirty_and_out (table old).writes (leg_at leg (table old))) ≡ true) (sym is) behind in
      absurd (let clash : true ≡ false = sym here ∙ clear in cc)))

  -- and a write of a run, where each of its blocks is behind
  pub run-loses : (at : ℕ) (blocks : List Block) → ((b : ℕ) → at ≤ b → b < at + length blocks → is_behind (b / old.place.region) (dirty_and_out (table old).writes (leg_at leg (table old))) ≡ true) → WritesRunAt type succeeded leg at blocks old.legs legs → LosesLeg type old legs leg
  run-loses at blocks behind w =
      call-loses w.before w.after w.change w.writes.calls
      (λ is_honest b clear.
      ⊎_elim
      (λ low. w.writes.others is_honest b (inl low))
      (λ from. ⊎_elim
      (λ inside. let here : is_behind (b / old.place.region) (dirty_and_out (table old).writes (leg_at leg (table old))) ≡ true = behind b from inside in absurd (let clash : true ≡ false = sym here ∙ clear in cc))
      (λ past. w.writes.others is_honest b (inr past))
      (cases_lt b (at + length blocks)))
      (cases_lt b at))

-- and no call at all
pub none-loses : {L : Type 0} (type : LegType L) (old : StripeState L) (leg : ℕ) → LosesLeg type old old.legs leg
none-loses type old leg = record { count = refl; others = λ j ne. refl; lengths = λ j. refl; stays = λ is_honest b clear. refl }

module _ {L : Type 0} (type : LegType L) (old : StripeState L) (legs : List L) (k : Keeps type old) where
  -- a copy's write: its block lies in the region that is copied, which is behind
  pub copy_write-loses : (leg : ℕ) (copy : CopyPlace) (chunk : Chunk) (bytes : Block) (succeeded : Bool) → Ready type old leg copy chunk → CallsToCopyWrite type succeeded old legs copy chunk bytes → LosesLeg type old legs copy.leg
  copy_write-loses leg copy chunk bytes succeeded r c =
      let at : ℕ = copy_start old.place.region copy + chunk.written in
      let attached : is_out (leg_state copy.leg old) ≡ false = ap (λ (s : LegState). is_out s) r.is_copy.joining in
      let marks = dirty-marks type.model old copy.leg k.legs k.records (attached_inside type.model old k.legs copy.leg attached) in
      let in_region : copy.cursor + chunk.written < old.place.region = omega (arith, r.more, r.long) in
      let region_is : at / old.place.region ≡ copy.region =
      ap (λ (n : ℕ). n / old.place.region) (let e : at ≡ copy.region * old.place.region + (copy.cursor + chunk.written) = omega arith in e) ∙ div-mul-add copy.region old.place.region (copy.cursor + chunk.written) in_region in
      let behind : is_behind copy.region (leg_at copy.leg (table old)) ≡ true = r.is_copy.behind in
      write-loses type succeeded old legs copy.leg at bytes.0 (marks.behind (at / old.place.region) (subst (λ (n : ℕ). is_behind n (leg_at copy.leg (table old)) ≡ true) (sym region_is) behind)) c.writes
