-- A leg that may be called in sync, or is, holds the array durably at a block: each move keeps that,
-- and a sync makes it so.
use Rattle.std.proofs.Common.{◌≡◌, ◌≢◌, ◌⊎◌, ⊎_elim, inl, inr, ℕ, zero, suc, ◌<◌, arith, length, true, false, IsTrue, List, [], ◌∷◌, None, sym, ap, ◌∙◌, subst, slice_get, slice_set, slice_index_or}
use Rattle.nm_choice.specs.declared.leg_state.LegState.{LegState}
use Rattle.nm_choice.specs.declared.leg_state.LegState.TheVariants.{Out}
use Rattle.nm_choice.specs.declared.leg_state.LegState.TheVariants as state
use Rattle.nm_fanout.specs.Records.{busy_on}
use Rattle.nm_leg.specs.Leg.{LegType}
use Rattle.nm_rules.specs.Array.{stripe_array}
use Rattle.nm_rules.specs.Flushed.{DurableAt}
use Rattle.nm_rules.specs.Invariant.{Keeps}
use Rattle.nm_rules.specs.Promote.{Promotes}
use Rattle.nm_rules.specs.State.{StripeState, leg_state}
use Rattle.nm_rules.specs.Sync.{Synchronizes}
use Rattle.nm_rules.proofs.AttachLemmas.{set-same}
use Rattle.nm_rules.proofs.FlushedSyncLemmas.{in_sync-holds, promotes-makes, synchronizes-makes}
use Rattle.nm_rules.proofs.RecordLemmas.{one_or_two}
use Rattle.nm_stripe.specs.declared.answer.Answer.{Answer}
use Rattle.nm_stripe.specs.declared.answer.Answer.TheVariants.{Joining, InSync}
use Rattle.nm_stripe.specs.declared.step.Step.{Step}
use Rattle.nm_stripe.specs.declared.step.Step.TheVariants.{Attach, Return, Replace, Promote}
use Rattle.nm_stripe.specs.Run.{MayBeAsked, StepOf}
use Rattle.nm_gate.specs.Durable.{Durable, is_named}
use Rattle.nm_gate.specs.Gate.{Allows, IsSaved}
use Rattle.nm_gate.specs.Held.{HoldsDurably}
use Rattle.nm_gate.specs.Survive.{Stands}
use Rattle.nm_gate.proofs.LegParts.{in_sync-joining}
use Rattle.nm_gate.proofs.LegsLeft.{LegsLeft, any, but}
use Rattle.nm_gate.proofs.StepsLeft.{other_of}

-- the leg may be called in sync, or is
abbrev pub Counts : {L : Type 0} → StripeState L → Durable → ℕ → Type 0
Counts stripe d leg = (is_named leg d ≡ true) ⊎ (leg_state leg stripe ≡ state.InSync)

-- and then it holds the array at the block, durably
abbrev pub Guards : {L : Type 0} → LegType L → StripeState L → Durable → ℕ → ℕ → Type 0
Guards type stripe d leg block = Counts stripe d leg → HoldsDurably type.model stripe leg block

-- a leg that joins once its state is set so is not in sync
pub joins-not : (states : List LegState) (leg : ℕ) → slice_index_or (slice_set states leg state.Joining) leg Out ≡ state.InSync → ⊥
joins-not [] leg is = cc
joins-not (s ∷ states) zero is = cc
joins-not (s ∷ states) (suc leg) is = joins-not states leg is

-- a leg that may be called in sync is not one that may not
pub named-other : (d : Durable) (leg j : ℕ) → is_named leg d ≡ false → is_named j d ≡ true → j ≢ leg
named-other d leg j unnamed named e = let clash : true ≡ false = sym (subst (λ (i : ℕ). is_named i d ≡ true) e named) ∙ unnamed in cc

-- a leg that a promotion calls in sync, and which legs join
module _ {L : Type 0} (type : LegType L) (old new : StripeState L) (d : Durable) (s : Stands type old d) where
  pub promoted-in_sync : (leg : ℕ) → leg < length old.legs → Promotes type old new leg → leg_state leg new ≡ state.InSync
  promoted-in_sync leg there p =
      ap (λ (x : StripeState L). leg_state leg x) p.after ∙ set-same old.states leg state.InSync Out (omega (arith, there, s.keeps.legs.states))

  -- nor does a leg join that may be called in sync
  other-apart : (b : ℕ) (other free : ℕ → Type 0) → LegsLeft type b other free old new → (j : ℕ) → other j → is_named j d ≡ true → leg_state j new ≢ state.Joining
  other-apart b other free left j o named joins = s.apart j named (left.joins j o joins)

  pub step-apart : (b : ℕ) (free : ℕ → Type 0) (step : Step L) (answer : Answer L) → Allows d old step → MayBeAsked type.model old step → StepOf type step answer old new → LegsLeft type b (other_of step answer) free old new → (j : ℕ) → is_named j d ≡ true → leg_state j new ≢ state.Joining
  step-apart b free (Attach leg) (Joining blocks) allowed asked is left j named = other-apart b (but leg) free left j (named-other d leg j allowed.1 named) named
  step-apart b free (Return leg marks) (Joining blocks) allowed asked is left j named = other-apart b (but leg) free left j (named-other d leg j allowed.1 named) named
  step-apart b free (Replace leg part) (Joining blocks) allowed asked is left j named = other-apart b (but leg) free left j (named-other d leg j allowed.1 named) named
  step-apart b free (Promote leg) InSync allowed asked is left j named =
      ⊎_elim (λ e joins. in_sync-joining (sym (promoted-in_sync leg asked is) ∙ subst (λ (i : ℕ). leg_state i new ≡ state.Joining) e joins)) (λ ne. other-apart b (but leg) free left j ne named) (one_or_two j leg)
  step-apart b free step answer allowed asked is left j named = other-apart b any free left j tt named

module _ {L : Type 0} (type : LegType L) (old new : StripeState L) (d : Durable) (b : ℕ) (is_honest : IsTrue type.honest) (s : Stands type old d) (kn : Keeps type new) (inside : b < old.place.blocks) (within : b < new.place.blocks)
    (was_free : busy_on b old.records ≡ None) (is_free : busy_on b new.records ≡ None) where
  module _ (other free : ℕ → Type 0) (left : LegsLeft type b other free old new) where
    runs : new.stopped ≡ false
    runs = left.stopped ∙ s.runs

    -- the array stays: the new master was in sync, and holds what it held
    pub array-stays : slice_get (stripe_array type.model new) b ≡ slice_get (stripe_array type.model old) b
    array-stays =
        let was : leg_state new.master old ≡ state.InSync = left.in_sync new.master left.master kn.legs.master in
        let apart : leg_state new.master old ≢ state.Joining = λ joins. in_sync-joining (sym was ∙ joins) in
        sym (in_sync-holds type new new.master b kn is_honest runs within is_free kn.legs.master)
        ∙ left.contents new.master left.master (inl apart)
        ∙ in_sync-holds type old new.master b s.keeps is_honest s.runs inside was_free was

    -- a leg that counts now did so before, and was not joining
    counted : (j : ℕ) → other j → Counts new d j → Counts old d j
    counted j o counts = ⊎_elim (λ named. inl named) (λ in_sync. inr (left.in_sync j o in_sync)) counts

    apart : (j : ℕ) → Counts old d j → leg_state j old ≢ state.Joining
    apart j counts joins = ⊎_elim (λ named. s.apart j named joins) (λ in_sync. in_sync-joining (sym in_sync ∙ joins)) counts

    pub guards-other : (j : ℕ) → other j → Guards type old d j b → Guards type new d j b
    guards-other j o guards counts =
        let before = counted j o counts in
        let held = guards before in
        record {
          holds = left.contents j o (inl (apart j before)) ∙ held.holds ∙ sym array-stays;
          durable = left.durable j o (inl (apart j before)) held.durable;
        }

  -- a leg that is in sync, and durable, holds the array so
  in_sync-guards : new.stopped ≡ false → (j : ℕ) → leg_state j new ≡ state.InSync → DurableAt type.model new j b → HoldsDurably type.model new j b
  in_sync-guards goes j in_sync durable =
      let holds = in_sync-holds type new j b kn is_honest goes within is_free in_sync in
      record { holds = holds; durable = durable in_sync ∙ sym holds }

  -- the leg that a promotion calls in sync
  pub promoted-guards : (free : ℕ → Type 0) (leg : ℕ) → leg < length old.legs → LegsLeft type b (but leg) free old new → Promotes type old new leg → Guards type new d leg b
  promoted-guards free leg there left p counts =
      in_sync-guards (left.stopped ∙ s.runs) leg (promoted-in_sync type old new d s leg there p) (promotes-makes type old new b was_free s.keeps is_honest inside leg kn p)

  -- a leg that joins neither may be called in sync nor is
  joined-guards : (leg : ℕ) → is_named leg d ≡ false → new.states ≡ slice_set old.states leg state.Joining → Guards type new d leg b
  joined-guards leg unnamed states counts =
      ⊎_elim
      (λ named. absurd (let clash : true ≡ false = sym named ∙ unnamed in cc))
      (λ in_sync. absurd (joins-not old.states leg (subst (λ (xs : List LegState). slice_index_or xs leg Out ≡ state.InSync) states in_sync)))
      counts

  -- a step that may be done keeps what leg j holds, where it counts
  pub step-guards : (free : ℕ → Type 0) (step : Step L) (answer : Answer L) → Allows d old step → MayBeAsked type.model old step → StepOf type step answer old new → LegsLeft type b (other_of step answer) free old new → (j : ℕ) → Guards type old d j b → Guards type new d j b
  step-guards free (Attach leg) (Joining blocks) allowed asked is left j guards =
      ⊎_elim (λ e. subst (λ (i : ℕ). Guards type new d i b) (sym e) (joined-guards leg allowed.1 (ap (λ (x : StripeState L). x.states) is.0.after))) (λ ne. guards-other (but leg) free left j ne guards) (one_or_two j leg)
  step-guards free (Return leg marks) (Joining blocks) allowed asked is left j guards =
      ⊎_elim (λ e. subst (λ (i : ℕ). Guards type new d i b) (sym e) (joined-guards leg allowed.1 (ap (λ (x : StripeState L). x.states) is.0.after))) (λ ne. guards-other (but leg) free left j ne guards) (one_or_two j leg)
  step-guards free (Replace leg part) (Joining blocks) allowed asked is left j guards =
      ⊎_elim (λ e. subst (λ (i : ℕ). Guards type new d i b) (sym e) (joined-guards leg allowed.1 (ap (λ (x : StripeState L). x.states) is.0.after))) (λ ne. guards-other (but leg) free left j ne guards) (one_or_two j leg)
  step-guards free (Promote leg) InSync allowed asked is left j guards =
      ⊎_elim (λ e. subst (λ (i : ℕ). Guards type new d i b) (sym e) (promoted-guards free leg asked left is)) (λ ne. guards-other (but leg) free left j ne guards) (one_or_two j leg)
  step-guards free step answer allowed asked is left j guards = guards-other any free left j tt guards

  -- whatever the step, the array stays
  pub step-array : (free : ℕ → Type 0) (step : Step L) (answer : Answer L) → LegsLeft type b (other_of step answer) free old new → slice_get (stripe_array type.model new) b ≡ slice_get (stripe_array type.model old) b
  step-array free step answer left = array-stays (other_of step answer) free left

  -- a sync makes it so
  pub synced-guards : (free : ℕ → Type 0) (leg : ℕ) → IsSaved d old → LegsLeft type b any free old new → Synchronizes type old new leg → Guards type new d leg b
  synced-guards free leg saved left is counts =
      let was : leg_state leg old ≡ state.InSync = ⊎_elim (λ named. (saved leg named).1) (λ in_sync. left.in_sync leg tt in_sync) counts in
      let now : leg_state leg new ≡ state.InSync = ap (λ (x : StripeState L). leg_state leg x) is.after ∙ was in
      in_sync-guards (left.stopped ∙ s.runs) leg now (synchronizes-makes type old new b was_free s.keeps is_honest inside leg is)

  -- and a leg that was out does not count
  pub out-guards : (free : ℕ → Type 0) (leg : ℕ) → IsSaved d old → LegsLeft type b any free old new → leg_state leg old ≡ Out → Guards type new d leg b
  out-guards free leg saved left out counts =
      let was : leg_state leg old ≡ state.InSync = ⊎_elim (λ named. (saved leg named).1) (λ in_sync. left.in_sync leg tt in_sync) counts in
      absurd (let clash : state.InSync ≡ Out = sym was ∙ out in cc)
