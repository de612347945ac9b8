-- The names of the files that legs' superblocks are kept in.
use Rattle.std.specs.Prelude.{ℕ, List, ◌++◌, Option, None, Some, codes}
use Rattle.std.specs.Fmt.{decimal}
use Rattle.nm_commands.specs.declared.superblock_place.SuperblockPlace.{SuperblockPlace}
use Rattle.nm_commands.specs.declared.superblock_place.SuperblockPlace.TheVariants.{Beside, Folder}
use Rattle.nm_commands.specs.declared.superblock_place.SuperblockPlace.TheVariants.{Inside, Nowhere}

-- the name of the file for the superblock of this leg, whose own file has that name
abbrev pub superblock_name : SuperblockPlace → (leg : ℕ) → List ℕ → Option (List ℕ)
superblock_name Nowhere leg name = None
superblock_name Beside leg name = Some (name ++ codes ".nbdmirror")
superblock_name Inside leg name = Some name
superblock_name (Folder folder) leg name = Some (folder.now ++ codes "/leg" ++ decimal leg)
