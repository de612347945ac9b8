-- A leg is not behind at a block only where it opens behind in marked spans alone, and the block's is not one.
use Rattle.std.proofs.Common.{◌≡◌, ◌≢◌, ◌⊎◌, ⊎_elim, inl, inr, ℕ, ◌+◌, ◌<◌, ◌/◌, arith, length, length-set, true, false, List, map, replicate, refl, sym, ap, ◌∙◌, slice_get, get_or}
use Rattle.std.proofs.lemmas.List.{get_or-map, get_or-replicate, length-map}
use Rattle.nm_choice.specs.declared.leg_state.LegState.TheVariants.{InSync}
use Rattle.nm_choice.specs.declared.policy.Policy.{Policy}
use Rattle.nm_leg.specs.Leg.{LegType}
use Rattle.nm_regions.specs.LegFlags.{LegRegions, is_behind, no_leg, opened_leg}
use Rattle.nm_regions.specs.Table.{regions_of}
use Rattle.nm_rules.specs.declared.leg_opening.LegOpening.{LegOpening}
use Rattle.nm_rules.specs.declared.leg_opening.LegOpening.TheVariants.{Missing, Partial, Whole}
use Rattle.nm_rules.specs.Array.{contents_of}
use Rattle.nm_rules.specs.Reopening.{AgreeWhereClear, IsClearAt, MayReopen, OpeningPlan, is_in_marked, planned, reopened_flags, reopened_leg, reopened_state}
use Rattle.nm_rules.specs.State.{StripeState}
use Rattle.nm_rules.proofs.AttachLemmas.{set-other}
use Rattle.nm_rules.proofs.ChunkLemmas.{region_within}
use Rattle.nm_rules.proofs.RecordLemmas.{one_or_two}
use Rattle.nm_rules.proofs.ReopeningLemmas.{marks-at}
use Rattle.nm_gate.specs.Durable.{Durable, is_lacking, is_marked, is_named}
use Rattle.nm_gate.specs.Gate.{is_marked_at}
use Rattle.nm_gate.specs.MarkedStart.{IsPlanBy, MarkedStartsAreRight}
use Rattle.nm_gate.specs.Moves.{Gated}
use Rattle.nm_gate.specs.Restart.{AreLeft, GoesBySuperblock}
use Rattle.nm_gate.specs.Survive.{EqualOutside, Stands}
use Rattle.nm_gate.proofs.Bounded.{off-back}
use Rattle.nm_gate.proofs.Reopened.{left-holds}

-- the block is in no marked span, and the leg may be called in sync, or lacking no more than these
abbrev IsLeftOut : {L : Type 0} → StripeState L → Durable → (leg block : ℕ) → Type 0
IsLeftOut old d leg block = (is_marked_at block old d ≡ false) × ((is_named leg d ≡ true) ⊎ (is_lacking leg d ≡ true))

module _ {L : Type 0} (old : StripeState L) (d : Durable) (plan : OpeningPlan) (by : IsPlanBy d plan) (some_region : 0 < old.place.region) where
  abbrev regions : ℕ
  regions = regions_of old.place.blocks old.place.region

  abbrev region_at : ℕ → ℕ
  region_at block = block / old.place.region

  -- a leg that opens behind everywhere is clear nowhere
  never-clear : (block : ℕ) → block < old.place.blocks → get_or (replicate regions true) (region_at block) false ≡ false → ⊥
  never-clear block inside clear =
      let on = get_or-replicate regions (region_at block) true false (region_within block old.place.blocks old.place.region inside some_region) in
      let clash : true ≡ false = sym on ∙ clear in cc

  clear-as : (leg block : ℕ) (o : LegOpening) → leg ≢ plan.master → get_or plan.others leg Missing ≡ o → block < old.place.blocks
      → is_behind (region_at block) (reopened_leg plan.marks regions o) ≡ false → IsLeftOut old d leg block
  clear-as leg block Partial ne is inside clear =
      let off : is_in_marked plan.marks (region_at block) ≡ false =
      ap (λ (i : ℕ). is_in_marked plan.marks i) (let e : region_at block ≡ 0 + region_at block = omega arith in e)
      ∙ sym (marks-at plan.marks regions 0 (region_at block) (region_within block old.place.blocks old.place.region inside some_region)) ∙ clear in
      (off-back (is_marked (region_at block) d) (is_in_marked plan.marks (region_at block)) (by.marked (region_at block)) off, by.partial leg ne is)
  clear-as leg block Whole ne is inside clear = absurd (never-clear block inside clear)
  clear-as leg block Missing ne is inside clear = absurd (never-clear block inside clear)

  pub clear-left-out : (leg block : ℕ) → leg < length plan.others → block < old.place.blocks → leg ≢ plan.master → IsClearAt old.place (reopened_flags regions plan) leg block → IsLeftOut old d leg block
  clear-left-out leg block within inside ne clear =
      let flags : get_or (reopened_flags regions plan) leg no_leg ≡ reopened_leg plan.marks regions (get_or plan.others leg Missing) =
      set-other (map (reopened_leg plan.marks regions) plan.others) plan.master leg (opened_leg regions true) no_leg ne
      ∙ get_or-map (reopened_leg plan.marks regions) plan.others leg Missing no_leg within in
      clear-as leg block (get_or plan.others leg Missing) ne refl inside (ap (λ (l : LegRegions). is_behind (region_at block) l) (sym flags) ∙ clear)

agree : {L : Type 0} (type : LegType L) (old : Gated L) (legs : List L) (plan : OpeningPlan) (first : ℕ) (policy : Policy)
    → Stands type old.stripe old.durable → EqualOutside type old.stripe old.durable → AreLeft type.model old.stripe legs → IsPlanBy old.durable plan → length plan.others ≡ length legs → plan.master < length legs
    → AgreeWhereClear type.model old.stripe.place (planned old.stripe.place legs plan first policy)
agree type old legs plan first policy s outside left by each inside leg b within in_blocks clear =
    ⊎_elim
    (λ e. ap (λ (i : ℕ). slice_get (contents_of type.model legs i) b) e)
    (λ ne.
    let out = clear-left-out old.stripe old.durable plan by s.keeps.legs.sizes.some_region leg b (omega (arith, within, each)) in_blocks ne clear in
    left-holds type old.stripe old.durable outside legs left leg b in_blocks out.0 (⊎_elim (λ named. inl named) (λ lacking. inr (inl lacking)) out.1)
    ∙ sym (left-holds type old.stripe old.durable outside legs left plan.master b in_blocks out.0 (inl by.named)))
    (one_or_two leg plan.master)

goes : {L : Type 0} (type : LegType L) (old : Gated L) (legs : List L) (plan : OpeningPlan) (first : ℕ) (policy : Policy)
    → AreLeft type.model old.stripe legs → IsPlanBy old.durable plan → MayReopen type.model old.stripe.place (planned old.stripe.place legs plan first policy)
    → GoesBySuperblock type.model old.stripe old.durable (planned old.stripe.place legs plan first policy)
goes type old legs plan first policy left by may =
    let each : length plan.others ≡ length legs = sym (length-set (map reopened_state plan.others) plan.master InSync ∙ length-map plan.others reopened_state) ∙ may.state_each in
    record {
      may = may;
      left = left;
      named = by.named;
      behind = λ leg block within inside ne clear. clear-left-out old.stripe old.durable plan by may.sizes.some_region leg block (omega (arith, within, each)) inside ne clear;
    }

pub marked-starts-right : {L : Type 0} (type : LegType L) → MarkedStartsAreRight type
marked-starts-right type = record { agree = agree type; goes = goes type }
