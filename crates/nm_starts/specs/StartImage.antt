-- The image that a start opens the legs by: a mirror's first one, or that of its superblocks.
use Rattle.std.specs.Prelude.{◌≡◌, ◌<◌, ◌+◌, ◌-◌, ◌/◌, ℕ, Bool, true, false, List, length}
use Rattle.std.specs.Prelude.{Option, None, Some, max, min, replicate}
use Rattle.nm_assemble.specs.Image.{IsFirst}
use Rattle.nm_assemble.specs.declared.first.NewMirror.{NewMirror}
use Rattle.nm_assemble.specs.declared.own.LegsHere.{LegsHere}
use Rattle.nm_commands.specs.declared.opening_settings.OpeningSettings.{OpeningSettings}
use Rattle.nm_commands.specs.declared.server_settings.Settings.{Settings}
use Rattle.nm_commands.specs.declared.start.Start.{Start}
use Rattle.nm_commands.specs.declared.start.Start.TheVariants.{Compare, Equal, Full}
use Rattle.nm_geometry.specs.Geometry.{Geometry}
use Rattle.nm_leg_files.specs.Files.{laid_over}
use Rattle.nm_leg_files.specs.declared.leg_files.LegFiles.{LegFiles}
use Rattle.nm_starts.specs.RenewedIds.{AreFirstIds, AreRenewed, AreUnknownHere}
use Rattle.nm_starts.specs.Starting.{master_or_first, named_master}
use Rattle.nm_starts.specs.SuperblockChoice.{Chooses, Takes}
use Rattle.nm_starts.specs.declared.superblock_choice.Choice.TheVariants.{First, Image}
use Rattle.nm_starts.specs.declared.superblock_choice.FoundLegs.{FoundLegs}
use Rattle.nm_superblock.specs.declared.leg_identities.LegIdentities.{LegIdentities}
use Rattle.nm_superblock.specs.declared.superblock.Superblock.{Superblock}

-- the regions of a span, of which the spans of one number have 1,024 in all stripes
abbrev pub span_regions_for : (stripes : ℕ) → ℕ
span_regions_for stripes = (1024 + stripes - 1) / stripes

-- a new mirror of this shape: it and each of its legs has an id, which is not 0
pub record IsNewOf (shape : Geometry) (lineage : ℕ) (files : LegIdentities) (new : NewMirror)
    : Type 0 where
  pub mirror : 0 < new.mirror
  pub blocks : new.blocks ≡ shape.blocks
  pub region_blocks : new.region_blocks ≡ shape.region
  pub span_regions : new.span_regions ≡ span_regions_for shape.stripes
  pub stripes : new.stripes ≡ shape.stripes
  pub legs : new.legs ≡ shape.legs
  pub leg_ids : AreFirstIds 8 shape.legs new.leg_ids
  pub own_lineage : new.lineage ≡ lineage
  pub identities : new.identities ≡ files

-- the legs that are taken to be equal to the master: all that are here, where none was named as the
-- master or the settings say that they are equal
abbrev pub equal_legs : (named : Option ℕ) → Start → (here : List Bool) → List Bool
equal_legs None start here = here
equal_legs (Some leg) Equal here = here
equal_legs (Some leg) Compare here = replicate 8 false
equal_legs (Some leg) Full here = replicate 8 false

-- the first image of a mirror of this shape
pub record IsFirstOf (s : OpeningSettings) (shape : Geometry) (legs : LegsHere) (lineage : ℕ)
    (image : Superblock) : Type 0 where
  pub new : NewMirror
  pub new_of : IsNewOf shape lineage legs.identities new
  pub first : IsFirst new (master_or_first (named_master s))
      (equal_legs (named_master s) s.start legs.here) image

-- The image that superblocks have, as a start goes on from it: the legs that are here and that it
-- knows in no stripe have new ids, and it has all legs that are named.
pub record GoesOnWithAll (named : ℕ) (here : List Bool) (found image : Superblock) : Type 0 where
  pub legs : List Bool
  pub unknown : AreUnknownHere 8 found here legs
  pub ids : AreRenewed 8 legs found.leg_ids image.leg_ids
  pub others : image
      ≡ record found { leg_ids = image.leg_ids; legs = max found.legs (min named 8) }

-- so it goes on, with the legs whose files the start takes
abbrev pub GoesOnWith : Settings → FoundLegs → (found image : Superblock) → Type 0
GoesOnWith s seen found image =
    (taken : List Bool) × Takes s.opening.force_master seen taken
    × GoesOnWithAll (length s.mirror.legs.items) taken found image

-- the mirror's first image, over these files
abbrev pub IsFirstOver : LegFiles → Settings → FoundLegs → (lineage : ℕ) → Superblock → Type 0
IsFirstOver files s seen lineage image =
    IsFirstOf s.opening (laid_over s.mirror.stripes s.mirror.history files) seen.legs lineage image

-- what the legs are opened by: the first image of a mirror, where no superblock was found, else one
-- that goes on from what superblocks decide
abbrev pub OpensBy : LegFiles → Settings → FoundLegs → (lineage : ℕ) → (Superblock × Bool)
    → Type 0
OpensBy files s seen lineage (image, true) =
    Chooses s.opening seen lineage First × IsFirstOver files s seen lineage image
OpensBy files s seen lineage (image, false) =
    (found : Superblock) × Chooses s.opening seen lineage (Image found)
    × GoesOnWith s seen found image
