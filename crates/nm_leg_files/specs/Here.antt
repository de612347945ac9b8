-- Which legs are here: their files were opened as the server started.
use Rattle.std.specs.Prelude.{◌≡◌, ◌<◌, ℕ, Bool, true, false, List, Option, None, Some}
use Rattle.std.specs.Prelude.{is_some, not, slice_get}
use Rattle.std.specs.List.{list_all, list_any}
use Rattle.nm_geometry.specs.LegSets.{has}
use Rattle.nm_leg_files.specs.declared.leg_file.LegFile.{LegFile}
use Rattle.nm_leg_files.specs.declared.leg_files.LegFiles.{LegFiles}

-- the leg's file was opened as the server started
abbrev pub is_here : LegFile → Bool
is_here leg = not (is_some leg.unopened)

-- some leg is here
abbrev pub SomeHere : LegFiles → Type 0
SomeHere files = list_any is_here files.files.items ≡ true

-- each leg is here
abbrev pub AllHere : LegFiles → Type 0
AllHere files = list_all is_here files.files.items ≡ true

-- there is such a leg, and it is here
abbrev pub is_here_in : Option LegFile → Bool
is_here_in None = false
is_here_in (Some leg) = is_here leg

-- the leg of this number is here
abbrev pub is_here_at : ℕ → LegFiles → Bool
is_here_at leg files = is_here_in (slice_get files.files.items leg)

-- of the first legs these are here, and no others
abbrev pub AreHere : ℕ → LegFiles → List Bool → Type 0
AreHere count files here =
    (leg : ℕ) → leg < count → has leg here ≡ is_here_at leg files

-- of the first legs these are among those that are here
abbrev pub AreOfHere : ℕ → LegFiles → List Bool → Type 0
AreOfHere count files legs =
    (leg : ℕ) → leg < count → has leg legs ≡ true → is_here_at leg files ≡ true
