-- The error that is kept of each leg's file: the first one since it was made or read again.
use Rattle.std.specs.Prelude.{◌≡◌, ℕ, Bool, IsTrue, IsFalse, is_some, List, slice_index_or}
use Rattle.std.specs.Prelude.{Option, None, Some}
use Rattle.std.specs.declared.io.Error.{Error}
use Rattle.nm_geometry.specs.LegSets.{has}
use Rattle.nm_saves.specs.FileState.{FileState}
use Rattle.nm_saves.specs.Files.{has_failed_in}

-- the error that is kept of a leg, if there is one
abbrev pub error_of : (leg : ℕ) → List (Option Error) → Option Error
error_of leg errors = slice_index_or errors leg None

-- A save beside a leg keeps its error. Where it had none, it has one then if the save failed.
abbrev pub KeepsFirst : (failed : Bool) → (old new : Option Error) → Type 0
KeepsFirst failed None new = is_some new ≡ failed
KeepsFirst failed (Some error) new = new ≡ Some error

-- so it is of each leg, of which this tells where the save failed
abbrev pub KeepsErrors : (failed : List Bool) → (old new : List (Option Error)) → Type 0
KeepsErrors failed old new =
    (leg : ℕ) → KeepsFirst (has leg failed) (error_of leg old) (error_of leg new)

-- A leg whose file had failed and was read again has an error then if that failed; else it keeps
-- what it had.
abbrev pub TellsReading : (old new : Option FileState) → (error next : Option Error) → Type 0
TellsReading old new error next =
    (IsTrue (has_failed_in old) → is_some next ≡ has_failed_in new)
    × (IsFalse (has_failed_in old) → next ≡ error)
