-- Of a stripe that opens under one leg, that leg alone is in sync, and its array is what it holds.
use Rattle.std.proofs.Common.{◌≡◌, ◌⊎◌, ⊎_elim, inl, inr, ℕ, zero, suc, ◌+◌, ◌<◌, ◌^◌, ◌==◌, arith, length, Bool, true, false, List, map, refl, sym, ap, ◌∙◌, slice_get, slice_index_or, subst}
use Rattle.std.proofs.lemmas.Bool.Decides.{eqb_tells}
use Rattle.std.proofs.lemmas.Nat.Bits.{bit_at-pow_same, bit_at-pow_other}
use Rattle.nm_replay.specs.declared.block.Block.{Block}
use Rattle.nm_choice.specs.declared.leg_state.LegState.TheVariants.{InSync, Joining, Out}
use Rattle.nm_choice.specs.declared.policy.Policy.{Policy}
use Rattle.nm_leg.specs.Leg.{LegType}
use Rattle.nm_rules.specs.declared.at.At.{At}
use Rattle.nm_rules.specs.Array.{contents_of, stripe_array}
use Rattle.nm_rules.specs.Invariant.{Keeps}
use Rattle.nm_rules.specs.Opening.{bits_from, has_bit, opened, opened_state}
use Rattle.nm_rules.specs.State.{StripeState, leg_state}
use Rattle.nm_stripe.proofs.OpeningLemmas.{laid-none, opening-keeps}
use Rattle.nm_gate.specs.Anew.{GoesOnAnew, OpensAnew, ReopensAreRight}
use Rattle.nm_gate.specs.Durable.{Durable, is_lacking, is_listed}
use Rattle.nm_gate.specs.Saves.{IsCovered}

one-bit : (leg : ℕ) → has_bit (2 ^ leg) leg ≡ true
one-bit leg = ap (λ (b : ℕ). b == 1) (bit_at-pow_same leg)

only-bit : (leg other : ℕ) → has_bit (2 ^ leg) other ≡ true → other ≡ leg
only-bit leg other h = elim (eqb_tells other leg) [
  | inl hit ↦ hit.1
  | inr miss ↦
      let clear : has_bit (2 ^ leg) other ≡ false = ap (λ (b : ℕ). b == 1) (bit_at-pow_other leg other miss.1) in
      cc
]

sync-set : (b : Bool) → opened_state b ≡ InSync → b ≡ true
sync-set true is = refl
sync-set false is = cc

-- a leg that opens in sync is one whose bit is set, and the other way round
sync-bit : (bits n i k : ℕ) → slice_index_or (map opened_state (bits_from bits n i)) k Out ≡ InSync → has_bit bits (i + k) ≡ true
sync-bit bits zero i k is = absurd (cc)
sync-bit bits (suc n) i zero is = ap (λ (j : ℕ). has_bit bits j) (let e : i + 0 ≡ i = omega arith in e) ∙ sync-set (has_bit bits i) is
sync-bit bits (suc n) i (suc k) is = ap (λ (j : ℕ). has_bit bits j) (let e : i + suc k ≡ i + 1 + k = omega arith in e) ∙ sync-bit bits n (i + 1) k is

bit-sync : (bits n i k : ℕ) → k < n → has_bit bits (i + k) ≡ true → slice_index_or (map opened_state (bits_from bits n i)) k Out ≡ InSync
bit-sync bits zero i k inside set = absurd (omega (arith, inside))
bit-sync bits (suc n) i zero inside set = ap opened_state (ap (λ (j : ℕ). has_bit bits j) (let e : i ≡ i + 0 = omega arith in e) ∙ set)
bit-sync bits (suc n) i (suc k) inside set = bit-sync bits n (i + 1) k (omega (arith, inside)) (ap (λ (j : ℕ). has_bit bits j) (let e : i + 1 + k ≡ i + suc k = omega arith in e) ∙ set)

module _ {L : Type 0} (type : LegType L) (place : At) (legs : List L) (d : Durable) (master first : ℕ) (policy : Policy) (o : OpensAnew type.model place legs master d) where
  abbrev new : StripeState L
  new = opened place legs (2 ^ master) first policy

  pub anew-keeps : Keeps type new
  anew-keeps = opening-keeps type place legs (2 ^ master) first policy o.sizes o.chunk o.lengths
      record { leg = master; inside = o.inside; named = one-bit master }
      (λ _ one other inside also here there. ap (λ (l : ℕ). contents_of type.model legs l) (only-bit master one here ∙ sym (only-bit master other there)))

  -- the leg in sync is the master
  pub sync-master : (leg : ℕ) → leg_state leg new ≡ InSync → leg ≡ master
  sync-master leg is = only-bit master leg (ap (λ (j : ℕ). has_bit (2 ^ master) j) (let e : leg ≡ 0 + leg = omega arith in e) ∙ sync-bit (2 ^ master) (length legs) 0 leg is)

  pub master-sync : leg_state master new ≡ InSync
  master-sync = bit-sync (2 ^ master) (length legs) 0 master o.inside (ap (λ (j : ℕ). has_bit (2 ^ master) j) (let e : 0 + master ≡ master = omega arith in e) ∙ one-bit master)

  -- so the array is what it holds
  pub anew-array : stripe_array type.model new ≡ contents_of type.model legs master
  anew-array = laid-none 0 (contents_of type.model legs new.master) ∙ ap (λ (l : ℕ). contents_of type.model legs l) (sync-master new.master anew-keeps.legs.master)

  -- a covered leg is the master, or lacks marked spans
  covered-is : (leg : ℕ) → IsCovered new d leg → (leg ≡ master) ⊎ (is_lacking leg d ≡ true)
  covered-is leg covered = ⊎_elim (λ named. inl (o.alone leg named)) (λ more. ⊎_elim (λ lacking. inr lacking) (λ in_sync. inl (sync-master leg in_sync)) more) covered

  same-at : (block : ℕ) → slice_get (contents_of type.model legs master) block ≡ slice_get (stripe_array type.model new) block
  same-at block = ap (λ (bs : List Block). slice_get bs block) (sym anew-array)

  pub anew-goes : GoesOnAnew type place legs d master first policy
  anew-goes = record {
    stands = record {
      keeps = anew-keeps;
      runs = refl;
      apart = λ leg named joins.
          let state : leg_state leg new ≡ InSync = ap (λ (l : ℕ). leg_state l new) (o.alone leg named) ∙ master-sync in
          let clash : InSync ≡ Joining = sym state ∙ joins in
          absurd (cc);
    };
    named = λ leg block named inside none. ap (λ (l : ℕ). slice_get (contents_of type.model legs l) block) (o.alone leg named) ∙ same-at block;
    listed = λ listed leg in_sync. subst (λ (l : ℕ). is_listed l d ≡ true) (sym (sync-master leg in_sync)) listed;
    equal = λ equal block inside unmarked. record {
      none = tt;
      holds = λ leg covered.
          let both = equal leg block inside unmarked (covered-is leg covered) in
          record { holds = both.0 ∙ same-at block; durable = both.1 };
    };
  }

pub reopens-right : {L : Type 0} (type : LegType L) → ReopensAreRight type
reopens-right type place legs d master first policy o = anew-goes type place legs d master first policy o
