-- Whether a file fits the leg whose name leads to it.
use Rattle.std.specs.Prelude.{◌≡◌, ◌≤◌, ◌&&◌, ℕ, true, false, Some, IfSome}
use Rattle.nm_leg_files.specs.declared.leg_opening.LegRules.{LegRules}
use Rattle.nm_leg_files.specs.declared.seen_file.SeenFile.{SeenFile}

-- under these rules the file is one for a leg of so many bytes, its superblock's among them: it is
-- not in use, as long as the leg, no longer than files may be that grow, and no block device where
-- superblocks stand beside legs
pub record Fits (file : SeenFile) (rules : LegRules) (bytes : ℕ) : Type 0 where
  pub free : file.is_in_use ≡ false
  pub as_long : file.bytes ≡ Some bytes
  pub within : file.is_regular ≡ true → IfSome rules.file_bytes (λ limit. bytes ≤ limit)
  pub has_place : (file.is_block_device && rules.has_beside) ≡ false
