-- What a leg remembers of its regions, and what becomes of it.
use Rattle.std.specs.Prelude.{◌≡◌, ℕ, zero, suc, ◌+◌, ◌-◌, ◌*◌, ◌/◌, ◌<◌, ◌≤◌, ◌&&◌, ◌||◌}
use Rattle.std.specs.Prelude.{min}
use Rattle.std.specs.Prelude.{if◌then◌else◌, Bool, IsTrue, IsFalse, nat_le, nat_lt, get_or}
use Rattle.std.specs.Prelude.{◌^◌, List, [], ◌∷◌, length, map, false, true}
use Rattle.nm_geometry.specs.Geometry.{regions_for}

-- The numbers of blocks in a region and in the stripe; whether each region was written since the
-- last sync that succeeded; of each region the first block that was not written again since a sync
-- failed: a block behind its end, where nothing of it is lost; and the period that runs, which ends
-- as a sync begins, with of each region the period of its last write.
pub record Remembered : Type 0 where
  pub region : ℕ
  pub blocks : ℕ
  pub written : List Bool
  pub rewritten_below : List ℕ
  pub running : ℕ
  pub last : List ℕ

-- the period that runs, and the last one that a good sync covers
pub record Periods : Type 0 where
  pub running : ℕ
  pub covered : ℕ

-- whether a region was written since the last sync that succeeded
abbrev pub is_written : (region : ℕ) → Remembered → Bool
is_written region memory = get_or memory.written region false

-- the period of a region's last write
abbrev pub last_in : (region : ℕ) → Remembered → ℕ
last_in region memory = get_or memory.last region 0

-- the first block of a region that was not written again
abbrev pub cursor_in : (region : ℕ) → Remembered → ℕ
cursor_in region memory = get_or memory.rewritten_below region 0

-- how many regions there are
abbrev pub count_regions : Remembered → ℕ
count_regions memory = regions_for memory.region memory.blocks

-- what is kept of the regions stands for this: a region was written since then if its last write is
-- of a later period than a good sync covers
abbrev pub remembered : (region blocks : ℕ) → Periods → (written_in rewritten_below : List ℕ)
    → Remembered
remembered region blocks periods written_in rewritten_below = record {
  region = region;
  blocks = blocks;
  written = map (λ last. nat_lt periods.covered last) written_in;
  rewritten_below = rewritten_below;
  running = periods.running;
  last = written_in;
}

-- the block behind the last one of a region
abbrev pub region_end : ℕ → Remembered → ℕ
region_end region memory = min ((region + 1) * memory.region) memory.blocks

-- nothing of these regions is lost: each was written again whole, or not before the failed sync
abbrev pub AreWhole : (from until : ℕ) → Remembered → Type 0
AreWhole from until memory =
    (region : ℕ) → from ≤ region → region < until
    → region_end region memory ≤ cursor_in region memory

-- none of these regions was written since the last sync that succeeded
abbrev pub WritesNone : (from until : ℕ) → Remembered → Type 0
WritesNone from until memory =
    (region : ℕ) → from ≤ region → region < until → IsFalse (is_written region memory)

-- one of them was
pub record WritesOne (from until : ℕ) (memory : Remembered) : Type 0 where
  pub region : ℕ
  pub above : from ≤ region
  pub below : region < until
  pub written : IsTrue (is_written region memory)

-- a run, of some blocks, lies in the stripe
pub record HasRun (at count : ℕ) (memory : Remembered) : Type 0 where
  pub some : 0 < count
  pub inside : at + count ≤ memory.blocks

-- a run of so many blocks has some in this region
abbrev pub touches : (at count region : ℕ) → Remembered → Bool
touches at count region memory =
    nat_le (at / memory.region) region && nat_le region ((at + count - 1) / memory.region)

-- the first block that was not written again, once a run is written that ends before this block
abbrev pub cursor_moved : (at end cursor : ℕ) → ℕ
cursor_moved at end cursor = if nat_le at cursor && nat_lt cursor end then end else cursor

-- the stripe and its regions are what they were
pub record HaveOneSize (old new : Remembered) : Type 0 where
  pub region : new.region ≡ old.region
  pub blocks : new.blocks ≡ old.blocks

-- As a leg is made: all may have been written before, and nothing is lost.
pub record Begins (region blocks : ℕ) (memory : Remembered) : Type 0 where
  pub region_is : memory.region ≡ region
  pub blocks_is : memory.blocks ≡ blocks
  pub written : (r : ℕ) → r < count_regions memory → IsTrue (is_written r memory)
  pub whole : (r : ℕ) → r < count_regions memory → cursor_in r memory ≡ blocks

-- A write of a run: its regions are written, and where it succeeded, written again as far as it
-- goes on from what was.
pub record NotesWrite (succeeded : Bool) (at count : ℕ) (old new : Remembered) : Type 0 where
  pub sizes : HaveOneSize old new
  pub written : (r : ℕ) → r < count_regions old
      → is_written r new ≡ (touches at count r old || is_written r old)
  pub again : (r : ℕ) → r < count_regions old
      → cursor_in r new ≡ (if touches at count r old
      then cursor_moved at (if succeeded then at + count else at) (cursor_in r old)
      else cursor_in r old)

-- A write is one of the period that runs.
pub record IsInPeriod (at count : ℕ) (old new : Remembered) : Type 0 where
  pub running : new.running ≡ old.running
  pub last : (r : ℕ) → r < count_regions old
      → last_in r new ≡ (if touches at count r old then old.running else last_in r old)

-- A sync begins, and covers what was written up to a period. At the greatest number the periods
-- begin anew, and all counts as written.
pub record BeginsSync (asked : ℕ) (old new : Remembered) : Type 0 where
  pub sizes : HaveOneSize old new
  pub later : asked < new.running
  pub written : (r : ℕ) → r < count_regions old → IsTrue (is_written r old)
      → IsTrue (is_written r new)
  pub again : (r : ℕ) → r < count_regions old → cursor_in r new ≡ cursor_in r old
  pub next : old.running < 2 ^ 32 - 1
      → (asked ≡ old.running) × (new ≡ record old { running = old.running + 1 })

-- A sync that began in a period has succeeded: a region stays written only if it was written since.
pub record EndsSync (asked : ℕ) (old new : Remembered) : Type 0 where
  pub sizes : HaveOneSize old new
  pub written : (r : ℕ) → r < count_regions old
      → is_written r new ≡ (is_written r old && nat_lt asked (last_in r old))
  pub again : (r : ℕ) → r < count_regions old → cursor_in r new ≡ cursor_in r old

-- A write of a run may be lost: its regions are written, and lost from their first blocks on.
pub record LosesWrite (at count : ℕ) (old new : Remembered) : Type 0 where
  pub sizes : HaveOneSize old new
  pub written : (r : ℕ) → r < count_regions old
      → is_written r new ≡ (touches at count r old || is_written r old)
  pub again : (r : ℕ) → r < count_regions old → cursor_in r new
      ≡ (if touches at count r old then r * old.region else cursor_in r old)

-- A sync that succeeded: no region was written since.
pub record NotesSync (old new : Remembered) : Type 0 where
  pub sizes : HaveOneSize old new
  pub written : (r : ℕ) → r < count_regions old → IsFalse (is_written r new)
  pub again : (r : ℕ) → r < count_regions old → cursor_in r new ≡ cursor_in r old

-- A sync that succeeded is noted, unless the medium is in doubt: then what is remembered stays.
abbrev pub EndsPeriod : (doubted : Bool) → (old new : Remembered) → Type 0
EndsPeriod false old new = NotesSync old new
EndsPeriod true old new = new ≡ old

-- where the cursor of a region stands once a sync has failed: a region that was written since the
-- last one that succeeded is lost, from its first block on
abbrev pub cursor_lost : (region : ℕ) → Remembered → ℕ
cursor_lost region memory =
    if is_written region memory then region * memory.region else cursor_in region memory

-- where the cursors of so many regions stand then, from this one on
abbrev pub cursors_lost : Remembered → (many region : ℕ) → List ℕ
cursors_lost memory zero region = []
cursors_lost memory (suc many) region =
    cursor_lost region memory ∷ cursors_lost memory many (region + 1)

-- A sync that failed.
pub record NotesFailure (old new : Remembered) : Type 0 where
  pub sizes : HaveOneSize old new
  pub written : (r : ℕ) → r < count_regions old → is_written r new ≡ is_written r old
  pub again : (r : ℕ) → r < count_regions old → cursor_in r new ≡ cursor_lost r old

-- A loss that is told before a write is noted as a sync that failed; else what is remembered stays.
abbrev pub LearnsLoss : (lost : Bool) → (old new : Remembered) → Type 0
LearnsLoss false old new = new ≡ old
LearnsLoss true old new = NotesFailure old new

-- what is remembered once a loss is told, or is not
abbrev pub learnt : (lost : Bool) → Remembered → Remembered
learnt false memory = memory
learnt true memory = record memory {
  rewritten_below = cursors_lost memory (count_regions memory) 0;
}

-- The numbers are of so many regions, no write is of a period to come, the period that runs is not
-- covered, and while no sync has failed nothing is lost.
pub record IsKept (region blocks : ℕ) (times : Periods) (written_in rewritten_below : List ℕ)
    (has_failed : Bool) : Type 0 where
  pub some : 1 ≤ region
  pub most : region ≤ 65536
  pub few : blocks ≤ 2 ^ 31
  pub periods : length written_in ≡ regions_for region blocks
  pub cursors : length rewritten_below ≡ regions_for region blocks
  pub past : (r : ℕ) → r < regions_for region blocks → get_or written_in r 0 ≤ times.running
  pub uncovered : times.covered < times.running
  pub whole : IsFalse has_failed → AreWhole 0 (regions_for region blocks)
      (remembered region blocks times written_in rewritten_below)

-- numbers are changed from one place up to another, and no others
pub record Changes (change : ℕ → ℕ) (from until : ℕ) (old new : List ℕ) : Type 0 where
  pub length_is : length new ≡ length old
  pub changed : (r : ℕ) → from ≤ r → r < until → get_or new r 0 ≡ change (get_or old r 0)
  pub before : (r : ℕ) → r < from → get_or new r 0 ≡ get_or old r 0
  pub behind : (r : ℕ) → until ≤ r → get_or new r 0 ≡ get_or old r 0
