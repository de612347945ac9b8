-- One leg's regions: whether the leg is out, and in which regions it is behind.
use Rattle.std.specs.Prelude.{ℕ, ◌+◌, Bool, true, false, not, ◌==◌, if◌then◌else◌, Option}
use Rattle.std.specs.Prelude.{List, [], ◌∷◌, drop, length, replicate, position, slice_index_or}
use Rattle.std.specs.Prelude.{slice_set}
use Rattle.std.specs.List.{list_any}
use Rattle.std.specs.Option.{option_map}

-- whether the leg is out, and for each region whether it is behind
pub record LegRegions : Type 0 where
  pub out : Bool
  pub behind : List Bool

-- what stands for a leg that the table does not have: a leg that is out
abbrev pub no_leg : LegRegions
no_leg = record { out = true; behind = [] }

-- a leg as the table opens, with so many regions: all of them are behind where it is not in sync
abbrev pub opened_leg : ℕ → Bool → LegRegions
opened_leg regions in_sync = record { out = false; behind = replicate regions (not in_sync) }

-- whether this region is behind
abbrev pub is_behind : ℕ → LegRegions → Bool
is_behind region leg = slice_index_or leg.behind region false

-- the lowest region behind that is not below this one
abbrev pub next_behind : ℕ → LegRegions → Option ℕ
next_behind from leg =
    option_map (λ k. from + k) (position (λ behind. behind) (drop from leg.behind))

-- whether some region is behind
abbrev pub has_behind : LegRegions → Bool
has_behind leg = list_any (λ behind. behind) leg.behind

-- the flags, each set too where its region has a write under way
abbrev pub dirty_marked : List ℕ → List Bool → List Bool
dirty_marked writes [] = []
dirty_marked [] (behind ∷ flags) = behind ∷ flags
dirty_marked (count ∷ writes) (behind ∷ flags) =
    (if count == 0 then behind else true) ∷ dirty_marked writes flags

-- the leg once it is out, with so many writes under way in each region
abbrev pub gone_out : List ℕ → LegRegions → LegRegions
gone_out writes leg = record { out = true; behind = dirty_marked writes leg.behind }

-- the leg once it is attached: its regions stay as they are
abbrev pub attached : LegRegions → LegRegions
attached leg = record leg { out = false }

-- the leg once this region is behind
abbrev pub marked : ℕ → LegRegions → LegRegions
marked region leg = record leg { behind = slice_set leg.behind region true }

-- the leg once this region is behind, where the leg is out
abbrev pub marked_if_out : ℕ → LegRegions → LegRegions
marked_if_out region leg = if leg.out then marked region leg else leg

-- the leg once all of its regions are behind
abbrev pub all_marked : LegRegions → LegRegions
all_marked leg = record leg { behind = replicate (length leg.behind) true }

-- the leg set aside until it is compared: it is out, and behind nowhere
abbrev pub set_aside : LegRegions → LegRegions
set_aside leg = record { out = true; behind = replicate (length leg.behind) false }

-- the leg once this region is no longer behind
abbrev pub cleared : ℕ → LegRegions → LegRegions
cleared region leg = record leg { behind = slice_set leg.behind region false }
