-- Runs that are written or read by rounds: what came of them on some lanes.
use Rattle.std.specs.Prelude.{Result, Ok, Err, ◌≡◌, Bool, true, false, ℕ, ◌<◌, ◌≤◌}
use Rattle.std.specs.Prelude.{List, [], ◌++◌, length, take, drop}
use Rattle.nm_geometry.specs.Geometry.{Geometry}
use Rattle.nm_lanes.specs.declared.call_error.CallError.{CallError}
use Rattle.nm_lanes.specs.declared.call_error_kind.CallErrorKind.{CallErrorKind}
use Rattle.nm_lanes.specs.declared.run.Run.{Run}
use Rattle.nm_lanes.specs.declared.piece_range.PieceRange.{PieceRange}
use Rattle.nm_lanes.specs.declared.run_write.RunWrite.{RunWrite}
use Rattle.nm_lanes.specs.Cuts.{runs_written}
use Rattle.nm_lanes.specs.Done.{Done}
use Rattle.nm_lanes.specs.Ends.{HasTried}
use Rattle.nm_lanes.specs.Fillings.{cuts_after, filling, target_of, IsPieceRange}
use Rattle.nm_lanes.specs.Lane.{LaneStops}
use Rattle.nm_lanes.specs.Lists.{MirrorStep, steps_in, Does}
use Rattle.nm_lanes.specs.Own.{EndsSo}
use Rattle.nm_lanes.specs.PieceRanges.{first_of, rest_of, EndsRegion}
use Rattle.nm_lanes.specs.Reads.{bytes_found, value_bytes, IsValue, ReadsEach, ReadsSome}
use Rattle.nm_lanes.specs.OnLanes.{RunsLanes}
use Rattle.nm_lanes.specs.Runs.{run_blocks}
use Rattle.nm_lanes.specs.Steps.{CompletesRead, LaneWrites, LaneWriteStops, Nobodys}
use Rattle.nm_lanes.specs.Writes.{writes_in, LiesIn, WritesEach, WritesSome}

-- a run was read into this target, or written
abbrev pub DoesOne : {L D : Type 0} → (D → List (Done L) → D → Type 0) → D × D → Bool → ℕ
    → RunWrite → List ℕ → Type 0
DoesOne follows lanes true block write target =
    CompletesRead follows lanes.0 lanes.1 block (run_blocks write.run) (λ told. IsValue told
    × (target ≡ take write.run.len (drop write.run.from (value_bytes told))))
DoesOne follows lanes false block write target =
    LaneWrites follows lanes.0 lanes.1 block write.bytes

-- the call ended in a run's read, or in its write
abbrev pub OneStops : {L D : Type 0} → (D → List (Done L) → D → Type 0) → D × D → Bool → ℕ
    → RunWrite → CallErrorKind → Type 0
OneStops {L} follows lanes true block write kind =
    LaneStops {L = L} follows lanes.0 lanes.1 [] (EndsSo Nobodys kind)
OneStops follows lanes false block write kind =
    LaneWriteStops follows lanes block write.bytes kind

-- one read for each run, in order, and the target holds the bytes that were found
pub record ReadsInto {L : Type 0} (shape : Geometry) (runs : List Run) (target : List ℕ)
    (own : List (MirrorStep L)) : Type 0 where
  pub each : ReadsEach shape runs own
  pub filled : target ≡ bytes_found runs own

-- each run was read into the target, or written, in order
abbrev pub DoesEach : {L : Type 0} → Geometry → Bool → List RunWrite → List ℕ
    → List (MirrorStep L) → Type 0
DoesEach shape true writes target own = ReadsInto shape (runs_written writes) target own
DoesEach shape false writes target own = WritesEach shape writes own

-- the first of the runs were
abbrev pub DoesSome : {L : Type 0} → Geometry → Bool → List RunWrite → List (MirrorStep L)
    → Type 0
DoesSome shape true writes own = ReadsSome shape (runs_written writes) own
DoesSome shape false writes own = WritesSome shape writes own

-- of a stripe's steps these are the first reads or writes of its runs
abbrev pub DoesSomeIn : {L : Type 0} → Geometry → Bool → List RunWrite → ℕ → List (Done L)
    → Type 0
DoesSomeIn shape reads writes stripe own =
    DoesSome shape reads (writes_in shape stripe writes) (steps_in stripe own)

-- each run was read into the target, or written, once, in order
pub record HasDone {L D : Type 0} (follows : D → List (Done L) → D → Type 0)
    (shape : Geometry) (reads : Bool) (writes : List RunWrite) (lanes : List D × List D)
    (target : List ℕ) : Type 0 where
  pub own : List (MirrorStep L)
  pub does : Does follows lanes.0 lanes.1 own
  pub each : DoesEach shape reads writes target own

-- in each stripe the first of its runs were, until steps in some of the stripes ended the call
pub record HasDoneSome {L D : Type 0} (follows : D → List (Done L) → D → Type 0)
    (shape : Geometry) (reads : Bool) (writes : List RunWrite) (lanes : List D × List D)
    (cause : CallError) : Type 0 where
  pub stripe : LiesIn shape writes cause.stripe
  pub tried :
      HasTried follows (λ stripe own. DoesSomeIn shape reads writes stripe own) lanes cause

-- wherever these lanes stand, of which the first is this stripe's, all runs were read or written;
-- or the cause's stripe is one of theirs
abbrev pub EndsRuns : {L D A : Type 0} → (D → List (Done L) → D → Type 0) → Geometry → Bool
    → List RunWrite → ℕ → List D × List D → List ℕ → Result A CallError → Type 0
EndsRuns {L} {D} follows shape reads writes first lanes target (Ok done) =
    (before after : List D) → length before ≡ first
    → HasDone follows shape reads writes
    (before ++ (lanes.0 ++ after), before ++ (lanes.1 ++ after)) target
EndsRuns follows shape reads writes first lanes target (Err cause) =
    LiesIn shape writes cause.stripe

-- what came of these runs on these lanes, of which the first is this stripe's: on each of them, and
-- on all together
pub record DoesLanes {L D A : Type 0} (follows : D → List (Done L) → D → Type 0)
    (shape : Geometry) (reads : Bool) (writes : List RunWrite) (first : ℕ)
    (lanes : List D × List D) (target : List ℕ) (result : Result A CallError) : Type 0 where
  pub each :
      RunsLanes follows (λ stripe own. DoesSomeIn shape reads writes stripe own)
      (λ stripe own. DoesSomeIn shape reads writes stripe own) first lanes result
  pub all : EndsRuns follows shape reads writes first lanes target result

-- the runs of a piece range's first blocks were read into the front of the target, or written, of
-- as many blocks as were told, and the others are left
pub record DoesNext {L D : Type 0} (follows : D → List (Done L) → D → Type 0)
    (shape : Geometry) (pieces : PieceRange) (cuts : List RunWrite × List RunWrite)
    (lanes : List D × List D) (target : List ℕ) (done : ℕ) : Type 0 where
  pub now : List RunWrite
  pub some : 0 < done
  pub most : done ≤ pieces.count
  pub ends : EndsRegion shape pieces done
  pub split :
      filling shape pieces cuts.0
      ≡ now ++ filling shape (rest_of done pieces) (cuts_after shape pieces done cuts.1)
  pub does :
      HasDone follows shape pieces.is_read now lanes
      (take (target_of (first_of done pieces)) target)
  pub rest : IsPieceRange shape (rest_of done pieces) (cuts_after shape pieces done cuts.1)
