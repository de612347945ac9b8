-- Which steps may be done by what the durable superblock may say, and why the others may not.
use Rattle.std.specs.Prelude.{◌≡◌, ◌<◌, ℕ, ◌/◌, Bool, true, false, if◌then◌else◌}
use Rattle.std.specs.Prelude.{Option, None, Some, length}
use Rattle.nm_choice.specs.declared.leg_state.LegState.TheVariants.{InSync}
use Rattle.nm_rules.specs.State.{StripeState, leg_state}
use Rattle.nm_stripe.specs.declared.step.Step.{Step}
use Rattle.nm_stripe.specs.declared.step.Step.TheVariants.{Attach, Begin, Claim, Copy, Flush}
use Rattle.nm_stripe.specs.declared.step.Step.TheVariants.{Promote, Replace, Return, Sync}
use Rattle.nm_stripe.specs.Copy.{region_to_copy}
use Rattle.nm_gate.specs.declared.gate_refusal.GateRefusal.{GateRefusal}
use Rattle.nm_gate.specs.declared.gate_refusal.GateRefusal.TheVariants.{SaveFailed, Unmarked}
use Rattle.nm_gate.specs.declared.gate_refusal.GateRefusal.TheVariants.{Unsaved}
use Rattle.nm_gate.specs.Durable.{Durable, is_lacking, is_listed, is_marked, is_named}

-- the leg is one of the stripe's, and in sync
abbrev pub IsInSync : {L : Type 0} → ℕ → StripeState L → Type 0
IsInSync leg stripe = (leg < length stripe.legs) × (leg_state leg stripe ≡ InSync)

-- no leg that went out of sync may still be called in sync
abbrev pub IsSaved : {L : Type 0} → Durable → StripeState L → Type 0
IsSaved d stripe = (leg : ℕ) → is_named leg d ≡ true → IsInSync leg stripe

-- the block's span is surely marked
abbrev pub is_marked_at : {L : Type 0} → ℕ → StripeState L → Durable → Bool
is_marked_at block stripe d = is_marked (block / stripe.place.region) d

-- the region that the copy to a leg goes on with lies in a marked span, where the leg may be said
-- to lack no more than these
abbrev pub AllowsCopy : {L : Type 0} → Durable → StripeState L → (leg from : ℕ) → Type 0
AllowsCopy d stripe leg from =
    is_lacking leg d ≡ true → (region : ℕ) → region_to_copy leg from stripe ≡ Some region
    → is_marked region d ≡ true

-- The step may be done: nothing is answered while a leg that went out of sync may be called in
-- sync, no leg joins while it may be, none is called in sync before it is listed, and what is
-- written lies in a marked span. Once a save could not be done, only what needs none goes on.
abbrev pub Allows : {L : Type 0} → Durable → StripeState L → Step L → Type 0
Allows d stripe (Begin block bytes) = (d.broken ≡ false) × (is_marked_at block stripe d ≡ true)
Allows d stripe (Claim ticket) = (d.broken ≡ false) × IsSaved d stripe
Allows d stripe (Sync leg) = (d.broken ≡ false) × IsSaved d stripe
Allows d stripe (Flush leg) = (d.broken ≡ false) × IsSaved d stripe
Allows d stripe (Attach leg) = (d.broken ≡ false) × (is_named leg d ≡ false)
Allows d stripe (Return leg marks) = (d.broken ≡ false) × (is_named leg d ≡ false)
Allows d stripe (Replace leg part) =
    (d.broken ≡ false) × (is_named leg d ≡ false) × (is_lacking leg d ≡ false)
Allows d stripe (Promote leg) = (d.broken ≡ false) × (is_listed leg d ≡ true)
Allows d stripe (Copy leg most from) = AllowsCopy d stripe leg from
Allows d stripe step = Unit {0}

-- why a step that may not be done is refused: the first condition that it fails
abbrev pub refusal_of : {L : Type 0} → Durable → Step L → GateRefusal
refusal_of d (Begin block bytes) = if d.broken then SaveFailed else Unmarked
refusal_of d (Copy leg most from) = Unsaved
refusal_of d step = if d.broken then SaveFailed else Unsaved

-- the step may not be done, and is refused so
pub record Forbids {L : Type 0} (d : Durable) (stripe : StripeState L) (step : Step L)
    (refusal : GateRefusal) : Type 0 where
  pub not_allowed : Allows d stripe step → ⊥
  pub refused : refusal ≡ refusal_of d step

-- the step may be done where there may be a superblock: with none each may
abbrev pub IsAllowed : {L : Type 0} → Option Durable → StripeState L → Step L → Type 0
IsAllowed None stripe step = Unit {0}
IsAllowed (Some d) stripe step = Allows d stripe step

-- it may not, and is refused so
abbrev pub IsForbidden : {L : Type 0} → Option Durable → StripeState L → Step L → GateRefusal
    → Type 0
IsForbidden None stripe step refusal = ⊥
IsForbidden (Some d) stripe step refusal = Forbids d stripe step refusal
