-- What a step leaves of the legs' states and of the records, and blocks that no write is under way on.
use Rattle.std.proofs.Common.{◌≡◌, ◌≢◌, ⊎_elim, inl, inr, ℕ, ◌+◌, ◌==◌, true, false, List, [], ◌∷◌, length, None, Some, refl, sym, ◌∙◌, subst, arith, cond, slice_set, slice_index_or}
use Rattle.std.proofs.lemmas.Bool.{cases_lt}
use Rattle.nm_choice.specs.declared.leg_state.LegState.{LegState}
use Rattle.nm_choice.specs.declared.leg_state.LegState.TheVariants.{InSync, Joining, Out}
use Rattle.nm_fanout.proofs.Owed.{owes-under_way}
use Rattle.nm_fanout.specs.declared.write_record.Record.{Record}
use Rattle.nm_fanout.specs.Records.{busy_on}
use Rattle.nm_leg.specs.Leg.{IsOutside}
use Rattle.nm_rules.specs.Copy.{chunk_copied}
use Rattle.nm_rules.specs.Lost.{failed_over, lost, lost_all, settled, without_leg_of}
use Rattle.nm_rules.specs.RunCopy.{after_copy_write_run}
use Rattle.nm_rules.specs.RunPush.{after_push_run, run_landed, run_lands, run_reached}
use Rattle.nm_rules.specs.Runs.{AreOwed}
use Rattle.nm_rules.specs.State.{Chunk, StripeState, is_joining, table, with_table}
use Rattle.nm_rules.proofs.ElectLemmas.{gone-other, gone-out}
use Rattle.nm_rules.proofs.RecordLemmas.{busy_none, one_or_two}

-- a leg that goes out changes no other state
pub out-keeps : (states : List LegState) (leg j : ℕ) (s : LegState) → s ≢ Out → slice_index_or (slice_set states leg Out) j Out ≡ s → slice_index_or states j Out ≡ s
out-keeps states leg j s other is =
    ⊎_elim
    (λ e. absurd (other (sym (subst (λ (i : ℕ). slice_index_or (slice_set states leg Out) i Out ≡ s) e is) ∙ gone-out states leg)))
    (λ ne. sym (gone-other states leg j ne) ∙ is)
    (one_or_two j leg)

pub in_sync-out : InSync ≢ Out
in_sync-out e = cc

pub joining-out : Joining ≢ Out
joining-out e = cc

pub in_sync-joining : InSync ≢ Joining
in_sync-joining e = cc

-- the states and whether it stopped, once a leg has gone out
pub record LostParts {L : Type 0} (leg : ℕ) (old new : StripeState L) : Type 0 where
  pub states : new.states ≡ slice_set old.states leg Out
  pub stopped : new.stopped ≡ old.stopped

pub lost-parts : {L : Type 0} (leg : ℕ) (old : StripeState L) → LostParts leg old (lost leg old)
lost-parts leg old =
    elim (leg == old.master) as (λ v. LostParts leg old (settled (cond v (failed_over (without_leg_of leg old)) (without_leg_of leg old)))) [
      | true ↦ record { states = refl; stopped = refl }
      | false ↦ record { states = refl; stopped = refl }
    ]

pub lost_all-parts : {L : Type 0} (leg : ℕ) (old : StripeState L) → LostParts leg old (lost_all leg old)
lost_all-parts leg old = let parts = lost-parts leg old in record { states = parts.states; stopped = parts.stopped }

-- and the legs
pub lost-legs : {L : Type 0} (leg : ℕ) (s : StripeState L) → (lost leg s).legs ≡ s.legs
lost-legs leg s = elim (leg == s.master) as (λ v. (settled (cond v (failed_over (without_leg_of leg s)) (without_leg_of leg s))).legs ≡ s.legs) [ true ↦ refl | false ↦ refl ]

-- the states and whether it stopped, after a push
pub record SameParts {L : Type 0} (old new : StripeState L) : Type 0 where
  pub states : new.states ≡ old.states
  pub stopped : new.stopped ≡ old.stopped

pub push-parts : {L : Type 0} (old : StripeState L) (legs : List L) (rs : List Record) (leg : ℕ) → SameParts old (after_push_run old legs rs leg)
push-parts old legs rs leg =
    elim (run_lands leg rs old) as (λ v. SameParts old (cond v (run_landed old legs rs leg) (run_reached old legs rs leg))) [
      | true ↦ record { states = refl; stopped = refl }
      | false ↦ record { states = refl; stopped = refl }
    ]

-- and after a copy's write
pub written-parts : {L : Type 0} (old : StripeState L) (legs : List L) (chunk : Chunk) (count : ℕ) → SameParts old (after_copy_write_run old legs chunk count)
written-parts {L} old legs chunk count =
    elim (chunk.written + count == chunk.length) as (λ b. SameParts old (cond b (let s : StripeState L = record (with_table (chunk_copied chunk.length (table old)) old) { legs = legs; chunk = None } in s)
    (let s : StripeState L = record old { legs = legs; chunk = Some (record chunk { written = chunk.written + count }) } in s))) [
      | true ↦ record { states = refl; stopped = refl }
      | false ↦ record { states = refl; stopped = refl }
    ]

pub joining-is : (s : LegState) → is_joining s ≡ true → s ≡ Joining
joining-is InSync is = absurd (cc)
joining-is Joining is = refl
joining-is Out is = absurd (cc)

-- a block on which no write is under way is none of a run's that owes a leg
pub run-outside : (rs records : List Record) (ticket block leg b : ℕ) → AreOwed ticket block leg rs records → busy_on b records ≡ None → IsOutside block (length rs) b
run-outside [] records ticket block leg b are free = ⊎_elim (λ low. inl low) (λ high. inr (omega (arith, high))) (cases_lt b block)
run-outside (r ∷ rs) records ticket block leg b are free =
    let rest : IsOutside (block + 1) (length rs) b = run-outside rs records (ticket + 1) (block + 1) leg b are.4 free in
    let other : r.block ≢ b = λ is. busy_none b r.ticket records r free are.2 is (owes-under_way leg r are.3) in
    ⊎_elim (λ low. ⊎_elim (λ under. inl under) (λ from. let same : r.block ≡ b = omega (arith, are.1, low, from) in absurd (other same)) (cases_lt b block)) (λ high. inr (omega (arith, high))) rest
