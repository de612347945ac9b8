-- Interleavings of a stripe's steps and of a mirror's steps with the entries of their operations.
use Rattle.std.specs.Prelude.{◌≡◌, ℕ, ◌<◌, ◌==◌, if◌then◌else◌, List, [], ◌∷◌, map}
use Rattle.nm_geometry.specs.Geometry.{Geometry, export_block}
use Rattle.nm_replay.specs.Array.{Array}
use Rattle.nm_replay.specs.Events.{Event, marks_of}
use Rattle.nm_replay.specs.Explained.{Point, Explained}
use Rattle.nm_stripe.specs.declared.answer.Answer.{Answer}
use Rattle.nm_stripe.specs.declared.step.Step.{Step}
use Rattle.nm_stripe.specs.Run.{IsInterleaving, concat, marks}
use Rattle.nm_lanes.specs.Events.{MirrorEvent, events_of, AllOfStripe, all_events}
use Rattle.nm_lanes.specs.Explained.{MirrorPoint, MirrorExplained}
use Rattle.nm_lanes.specs.Moved.{moved_all, moved_write, moved_read}
use Rattle.nm_lanes.specs.Lists.{MirrorStep}

-- where the blocks of a stripe lie in the export
abbrev pub in_export : Geometry → ℕ → ℕ → ℕ
in_export shape stripe block = export_block stripe block shape

-- lists of events for the steps of a stripe, explained from one point of it to another
pub record IsExplainedInterleaving {L : Type 0} (steps : List (Step L)) (answers : List (Answer L))
    (from to : Point) (lists : List (List Event)) : Type 0 where
  pub interleaving : IsInterleaving steps answers lists
  pub explained : Explained from to (concat lists)

-- a list of events for each step of a mirror, in the order of the steps: the begins and replies of
-- the step in order, at their blocks of the export, with entries of its stripe anywhere among them
abbrev pub IsMirrorInterleaving : {L : Type 0} → Geometry → List (MirrorStep L)
    → List (List MirrorEvent) → Type 0
IsMirrorInterleaving shape [] [] = Unit {0}
IsMirrorInterleaving shape (s ∷ list) (events ∷ more) =
    (marks_of (events_of s.stripe events)
    ≡ moved_all (in_export shape s.stripe) (marks s.done.step s.done.answer))
    × AllOfStripe s.stripe events × IsMirrorInterleaving shape list more
IsMirrorInterleaving shape list lists = ⊥

-- the lists of events for the steps of one stripe
abbrev pub lists_of : {L : Type 0} → ℕ → List (MirrorStep L)
    → List (List MirrorEvent) → List (List Event)
lists_of stripe [] lists = []
lists_of stripe (s ∷ list) [] = []
lists_of stripe (s ∷ list) (events ∷ more) =
    if s.stripe == stripe then events_of stripe events ∷ lists_of stripe list more
    else lists_of stripe list more

-- the points of a mirror's stripes, as one point of the mirror with this array
abbrev pub mirror_point : Geometry → (ℕ → Point) → Array → MirrorPoint
mirror_point shape points whole = record {
  array = whole;
  next = λ stripe. (points stripe).next;
  writes = λ stripe ticket. moved_write (in_export shape stripe) ((points stripe).writes ticket);
  reads = λ stripe number. moved_read (in_export shape stripe) ((points stripe).reads number);
}

-- lists of events for the steps of a mirror: explained from the mirror's array to the array that
-- its stripes' arrays then make, and in each stripe what that stripe's own lists are
pub record IsExplainedMirrorInterleaving {L : Type 0} (shape : Geometry)
    (list : List (MirrorStep L)) (from to : MirrorPoint) (own : ℕ → List (List Event))
    (lists : List (List MirrorEvent)) : Type 0 where
  pub interleaving : IsMirrorInterleaving shape list lists
  pub explained : MirrorExplained shape.stripes from to (all_events lists)
  pub filtered : (stripe : ℕ) → stripe < shape.stripes
      → lists_of stripe list lists
      ≡ map (λ events. moved_all (in_export shape stripe) events) (own stripe)
