-- Laws of a mirror's stripes together.
use Rattle.std.specs.Prelude.{◌≡◌, ℕ, ◌<◌, List}
use Rattle.nm_geometry.specs.Geometry.{Geometry, IsGeometry}
use Rattle.nm_leg.specs.Leg.{Leg}
use Rattle.nm_replay.specs.Array.{Array}
use Rattle.nm_replay.specs.Events.{Event}
use Rattle.nm_replay.specs.Explained.{Point}
use Rattle.nm_rules.specs.Array.{point_of}
use Rattle.nm_rules.specs.State.{StripeState}
use Rattle.nm_stripe.specs.declared.answer.Answer.{Answer}
use Rattle.nm_stripe.specs.declared.step.Step.{Step}
use Rattle.nm_stripe.specs.Flush.{IsFlush}
use Rattle.nm_stripe.specs.Run.{ActOnOneArray}
use Rattle.nm_lanes.specs.Events.{MirrorEvent}
use Rattle.nm_lanes.specs.Interleavings.{IsExplainedInterleaving, IsExplainedMirrorInterleaving}
use Rattle.nm_lanes.specs.Interleavings.{mirror_point}
use Rattle.nm_lanes.specs.Flushes.{IsStripeFlush}
use Rattle.nm_lanes.specs.Lists.{MirrorStep, steps_of, answers_of, stripe_list, AreOf}
use Rattle.nm_lanes.specs.Whole.{AreAsLong, IsWhole, HasWhole}

-- arrays that are as long as the shape says make an array of the mirror
abbrev pub ArraysMakeOne : Type 0
ArraysMakeOne =
    (shape : Geometry) (arrays : ℕ → Array) → IsGeometry shape → AreAsLong shape arrays
    → HasWhole shape arrays

-- they make no other
abbrev pub OneArrayAlone : Type 0
OneArrayAlone =
    (shape : Geometry) (arrays : ℕ → Array) (one other : Array)
    → IsWhole shape arrays one → IsWhole shape arrays other → one ≡ other

-- the mirror's steps have an explained interleaving, from its array to the one that the stripes'
-- arrays then make
pub record Joins {L : Type 0} (shape : Geometry) (list : List (MirrorStep L))
    (from to : ℕ → Point) (whole : Array) (own : ℕ → List (List Event)) : Type 0 where
  pub after : Array
  pub after_is : IsWhole shape (λ stripe. (to stripe).array) after
  pub events_of_each : List (List MirrorEvent)
  pub explained :
      IsExplainedMirrorInterleaving shape list (mirror_point shape from whole)
      (mirror_point shape to after) own events_of_each

-- where a stripe's steps act on one array, as `Stripe::run` says, the events that it names for each
-- step are an explained interleaving
abbrev pub ActsInterleave : {L : Type 0} → (L → Leg) → Type 0
ActsInterleave {L} model =
    (steps : List (Step L)) (answers : List (Answer L)) (old new : StripeState L)
    → (acts : ActOnOneArray model steps answers old new)
    → IsExplainedInterleaving steps answers (point_of model old) (point_of model new)
    acts.events_of_each

-- where each stripe's steps have an explained interleaving, so have the mirror's
abbrev pub StripesJoin : Type 0 → Type 0
StripesJoin L =
    (shape : Geometry) (list : List (MirrorStep L)) (from to : ℕ → Point) (whole : Array)
    (own : ℕ → List (List Event))
    → IsGeometry shape → AreOf shape.stripes list
    → IsWhole shape (λ stripe. (from stripe).array) whole
    → ((stripe : ℕ) → stripe < shape.stripes
    → IsExplainedInterleaving (steps_of stripe list) (answers_of stripe list)
    (from stripe) (to stripe) (own stripe))
    → Joins shape list from to whole own

-- the points of the stripes in these states
abbrev pub points_of : {L : Type 0} → (L → Leg) → (ℕ → StripeState L) → ℕ → Point
points_of model stripes stripe = point_of model (stripes stripe)

-- each operation of the mirror's steps acts once, between its begin and its reply, on one array: in
-- each stripe as that stripe's own lists of events say
pub record MirrorActOnOneArray {L : Type 0} (model : L → Leg) (shape : Geometry)
    (list : List (MirrorStep L)) (old new : ℕ → StripeState L) (whole : Array) : Type 0 where
  pub own : ℕ → List (List Event)
  pub each : (stripe : ℕ) → stripe < shape.stripes
      → IsExplainedInterleaving (steps_of stripe list) (answers_of stripe list)
      (point_of model (old stripe)) (point_of model (new stripe)) (own stripe)
  pub joins :
      Joins shape list (points_of model old) (points_of model new)
      whole own

-- where each stripe's steps act on one array, so do the mirror's
abbrev pub MirrorActs : {L : Type 0} → (L → Leg) → Type 0
MirrorActs {L} model =
    (shape : Geometry) (list : List (MirrorStep L)) (old new : ℕ → StripeState L) (whole : Array)
    → IsGeometry shape → AreOf shape.stripes list
    → IsWhole shape (λ stripe. (point_of model (old stripe)).array) whole
    → ((stripe : ℕ) → stripe < shape.stripes
    → ActOnOneArray model (steps_of stripe list) (answers_of stripe list)
    (old stripe) (new stripe))
    → MirrorActOnOneArray model shape list old new whole

-- what a call's flush does in a stripe is a flush as the stripe has it
abbrev pub FlushesAreAStripes : Type 0 → Type 0
FlushesAreAStripes L =
    (legs stripe : ℕ) (list : List (MirrorStep L)) → IsStripeFlush legs (stripe_list stripe list)
    → IsFlush legs (steps_of stripe list) (answers_of stripe list)
