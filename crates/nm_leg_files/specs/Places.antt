-- What the server keeps of a leg's file, so that it can open the file anew.
use Rattle.std.specs.Prelude.{ℕ, ◌*◌, ◌+◌, ◌-◌, ◌^◌, min, string_bytes}
use Rattle.std.specs.Prelude.{List, [], ◌∷◌, Option, None, Some}
use Rattle.nm_leg_files.specs.declared.identities.RecordedFiles.{RecordedFiles}
use Rattle.nm_leg_files.specs.declared.leg_file.LegFile.{LegFile}
use Rattle.nm_leg_files.specs.declared.leg_files.LegFiles.{LegFiles}
use Rattle.nm_leg_files.specs.declared.leg_opening.LegRules.{LegRules}
use Rattle.nm_leg_files.specs.declared.leg_place.LegPlace.{LegPlace}
use Rattle.nm_leg_files.specs.Files.{name_of}

-- the file's name, how many bytes it has for the export, the rules for its opening, and the leg
-- that it is of, with what superblocks recorded of all legs, if they did
pub record KeptFile : Type 0 where
  pub name : List ℕ
  pub bytes : ℕ
  pub rules : LegRules
  pub recorded : Option (ℕ × RecordedFiles)

-- what a place keeps
abbrev pub kept_in : LegPlace → KeptFile
kept_in place = record {
  name = string_bytes place.name;
  bytes = place.bytes;
  rules = place.rules;
  recorded = place.recorded;
}

-- the leg with what was recorded, if something was
abbrev pub recorded_for : (leg : ℕ) → Option RecordedFiles → Option (ℕ × RecordedFiles)
recorded_for leg None = None
recorded_for leg (Some all) = Some (leg, all)

-- what is to be kept of the file of the leg of this number
abbrev pub kept_of : LegFiles → (leg : ℕ) → LegFile → KeptFile
kept_of files leg file = record {
  name = name_of file;
  bytes = min (512 * files.blocks) (2 ^ 64 - 1);
  rules = files.rules;
  recorded = recorded_for leg files.recorded;
}

-- so of all legs, from the one of this number on
abbrev pub kept_from : LegFiles → (leg : ℕ) → List LegFile → List KeptFile
kept_from files leg [] = []
kept_from files leg (file ∷ rest) = kept_of files leg file ∷ kept_from files (leg + 1) rest
