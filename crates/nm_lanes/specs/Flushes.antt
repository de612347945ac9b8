-- What a flush does, and a sync of the stripes that some bytes lie in.
use Rattle.std.specs.Prelude.{◌≡◌, ◌⊎◌, ℕ, ◌<◌, List, [], ◌∷◌}
use Rattle.nm_geometry.specs.declared.byte_range.ByteRange.{ByteRange}
use Rattle.nm_geometry.specs.Geometry.{Geometry, stripe_of}
use Rattle.nm_geometry.specs.Pieces.{touched, piece_at}
use Rattle.nm_rules.specs.declared.refusal.Refusal.TheVariants.{AlreadyOut}
use Rattle.nm_stripe.specs.declared.answer.Answer.{Answer}
use Rattle.nm_stripe.specs.declared.answer.Answer.TheVariants.{Synced, Refused}
use Rattle.nm_stripe.specs.declared.step.Step.{Step}
use Rattle.nm_stripe.specs.declared.step.Step.TheVariants.{Flush}
use Rattle.nm_lanes.specs.declared.call_error.CallError.{CallError}
use Rattle.nm_lanes.specs.Done.{Done}
use Rattle.nm_lanes.specs.Ends.{HasTried}
use Rattle.nm_lanes.specs.Lists.{MirrorStep, stripe_list, Does}

-- The step flushed this leg, or found it out. A flush that lost its leg is not enough: what is
-- durable of the legs may still call it in sync.
abbrev pub SyncsOrFindsOut : {L : Type 0} → ℕ → Step L → Answer L → Type 0
SyncsOrFindsOut leg (Flush other) Synced = other ≡ leg
SyncsOrFindsOut leg (Flush other) (Refused AlreadyOut handed) = other ≡ leg
SyncsOrFindsOut leg step answer = ⊥

-- one of the steps did
abbrev pub SomeSyncs : {L : Type 0} → ℕ → List (Done L) → Type 0
SomeSyncs leg [] = ⊥
SomeSyncs leg (d ∷ list) = SyncsOrFindsOut leg d.step d.answer ⊎ SomeSyncs leg list

-- the step synced one of so many legs, or found it out
pub record SyncsOne {L : Type 0} (legs : ℕ) (d : Done L) : Type 0 where
  pub leg : ℕ
  pub inside : leg < legs
  pub syncs : SyncsOrFindsOut leg d.step d.answer

-- all steps did, each in one of these stripes
abbrev pub OnlySyncs : {L : Type 0} → ℕ → (ℕ → Type 0) → List (MirrorStep L) → Type 0
OnlySyncs legs In [] = Unit {0}
OnlySyncs legs In (d ∷ own) = In d.stripe × SyncsOne legs d.done × OnlySyncs legs In own

-- the steps of a stripe are a flush: for each of so many legs one of them did
abbrev pub IsStripeFlush : {L : Type 0} → ℕ → List (Done L) → Type 0
IsStripeFlush legs list = (leg : ℕ) → leg < legs → SomeSyncs leg list

-- the stripe is one of the shape's
abbrev pub IsStripeOf : Geometry → ℕ → Type 0
IsStripeOf shape stripe = stripe < shape.stripes

-- some of the bytes lie in the stripe
pub record Touches (shape : Geometry) (range : ByteRange) (stripe : ℕ) : Type 0 where
  pub number : ℕ
  pub inside : number < touched range
  pub stripe_is : stripe_of (piece_at number range).block shape ≡ stripe

-- every leg was synced in each of these stripes, and nothing else was done
pub record HasFlushed {L D : Type 0} (follows : D → List (Done L) → D → Type 0) (legs : ℕ)
    (In : ℕ → Type 0) (lanes : List D × List D) : Type 0 where
  pub own : List (MirrorStep L)
  pub does : Does follows lanes.0 lanes.1 own
  pub only : OnlySyncs legs In own
  pub each : (stripe : ℕ) → In stripe → IsStripeFlush legs (stripe_list stripe does.list)

-- the steps are syncs of so many legs, in one of these stripes
abbrev pub SyncsIn : {L : Type 0} → ℕ → (ℕ → Type 0) → ℕ → List (Done L) → Type 0
SyncsIn legs In stripe [] = Unit {0}
SyncsIn legs In stripe (d ∷ own) = In stripe × SyncsOne legs d × SyncsIn legs In stripe own

-- legs were synced in these stripes, and nothing else was done, until syncs in some of them ended
-- the call
pub record HasFlushedSome {L D : Type 0} (follows : D → List (Done L) → D → Type 0) (legs : ℕ)
    (In : ℕ → Type 0) (lanes : List D × List D) (cause : CallError) : Type 0 where
  pub stripe : In cause.stripe
  pub tried : HasTried follows (SyncsIn legs In) lanes cause
