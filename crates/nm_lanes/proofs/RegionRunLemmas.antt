-- Runs that are written or read after others.
use Rattle.std.proofs.Common.{Bool, ℕ, ◌+◌, List, ◌++◌}
use Rattle.nm_geometry.specs.Geometry.{Geometry}
use Rattle.nm_lanes.specs.declared.run_write.RunWrite.{RunWrite}
use Rattle.nm_lanes.specs.Done.{Done}
use Rattle.nm_lanes.specs.RegionRuns.{HasDone}
use Rattle.nm_lanes.proofs.LiftLemmas.{does-append}
use Rattle.nm_lanes.proofs.RunListLemmas.{each-append}

module _ {L D : Type 0} (follows : D → List (Done L) → D → Type 0)
    (joins : (first mid last : D) (before after : List (Done L)) → follows first before mid → follows mid after last → follows first (before ++ after) last)
    (shape : Geometry) (reads : Bool) where
  -- runs after runs
  pub done-append : (first rest : List RunWrite) (old mid new : List D) (front back : List ℕ) → HasDone follows shape reads first (old, mid) front → HasDone follows shape reads rest (mid, new) back → HasDone follows shape reads (first ++ rest) (old, new) (front ++ back)
  done-append first rest old mid new front back a b = record {
    own = a.own ++ b.own;
    does = does-append follows joins old mid new a.own b.own a.does b.does;
    each = each-append shape reads first rest front back a.own b.own a.each b.each;
  }
