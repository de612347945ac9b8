-- What a start chose, as a superblock: its image.
use Rattle.std.specs.Prelude.{◌≡◌, ◌≢◌, ◌⊎◌, ◌<◌, ◌≤◌, ◌↔◌, ◌+◌, ℕ, Bool, false, List}
use Rattle.std.specs.Prelude.{IsTrue, Option, None, Some, replicate, slice_index}
use Rattle.std.specs.Int.{bit_at}
use Rattle.nm_geometry.specs.LegSets.{has}
use Rattle.nm_superblock.specs.declared.leg_sets.LegSets.{LegSets}
use Rattle.nm_superblock.specs.declared.superblock.Superblock.{Superblock}
use Rattle.nm_superblock.specs.Spans.{IsUnmarked, candidates_of, in_sync_of, partial_of}
use Rattle.nm_assemble.specs.declared.assembly.Assembly.{Assembly}
use Rattle.nm_assemble.specs.declared.first.NewMirror.{NewMirror}
use Rattle.nm_assemble.specs.Masters.{IsMaster, MayOpenOn}
use Rattle.nm_assemble.specs.Changes.{KeepsTimes}
use Rattle.nm_assemble.specs.Own.{Records}
use Rattle.nm_assemble.specs.declared.own.LegsHere.{LegsHere}
use Rattle.nm_superblock.specs.declared.leg_identities.LegIdentities.{LegIdentities}

-- the set has these of eight legs
abbrev pub IsSetOf : (ℕ → Type 0) → ℕ → Type 0
IsSetOf legs set = (leg : ℕ) → leg < 8 → (bit_at set leg ≡ 1) ↔ legs leg

-- The sets of a stripe: the leg that it opens on, which it names alone; those that are about to be
-- in sync; and those that lack no more than marked spans.
pub record SaysOf (stripe : ℕ) (named next lacking : ℕ → Type 0) (sets : LegSets) : Type 0 where
  pub in_sync : IsSetOf named (in_sync_of stripe sets)
  pub candidates : IsSetOf next (candidates_of stripe sets)
  pub partial : IsSetOf lacking (partial_of stripe sets)

-- the sets say nothing of a stripe
pub record SaysNothing (stripe : ℕ) (sets : LegSets) : Type 0 where
  pub in_sync : in_sync_of stripe sets ≡ 0
  pub candidates : candidates_of stripe sets ≡ 0
  pub partial : partial_of stripe sets ≡ 0

-- each of the mirror's first stripes may open on the leg
abbrev pub OpensFirst : (count leg : ℕ) → Assembly → Type 0
OpensFirst count leg a =
    (stripe : ℕ) → stripe < count → stripe < a.newest.stripes
    → MayOpenOn leg stripe a.newest a.fresh

-- each stripe may open on the leg
abbrev pub OpensAll : (leg : ℕ) → Assembly → Type 0
OpensAll leg a = OpensFirst 64 leg a

-- the stripe is the first that may not
pub record IsClosedTo (leg : ℕ) (a : Assembly) (stripe : ℕ) : Type 0 where
  pub inside : stripe < a.newest.stripes
  pub closed : MayOpenOn leg stripe a.newest a.fresh → ⊥
  pub others : OpensFirst stripe leg a

-- the leg that a stripe opens on: the one that was asked for, or the first that it may open on
abbrev pub OpensOn : Option ℕ → Assembly → (stripe leg : ℕ) → Type 0
OpensOn None a stripe leg = IsMaster leg stripe a.newest a.fresh
OpensOn (Some asked) a stripe leg = leg ≡ asked

-- the newest superblock calls the leg in sync in the stripe, or out of sync in no more than marked
-- spans
abbrev pub IsKnown : Superblock → (stripe leg : ℕ) → Type 0
IsKnown newest stripe leg =
    (bit_at (in_sync_of stripe newest.sets) leg ≡ 1)
    ⊎ (bit_at (partial_of stripe newest.sets) leg ≡ 1)

-- so does the image, of a leg that the stripe does not open on: it is fresh, or not here
pub record IsPartial (asked : Option ℕ) (a : Assembly) (here : List Bool) (stripe leg : ℕ)
    : Type 0 where
  pub other : OpensOn asked a stripe leg → ⊥
  pub known : IsKnown a.newest stripe leg
  pub told : IsTrue (has leg a.fresh) ⊎ (has leg here ≡ false)

-- it lacks nothing, is here, and so about to be in sync
pub record IsCandidate (asked : Option ℕ) (a : Assembly) (here : List Bool) (stripe leg : ℕ)
    : Type 0 where
  pub partial : IsPartial asked a here stripe leg
  pub is_here : IsTrue (has leg here)
  pub unmarked : IsUnmarked 16384 a.newest.marked

-- what the sets of the first stripes say of each that the mirror has, and nothing of the others
pub record AreSets (count stripes : ℕ) (names next lacks : (stripe leg : ℕ) → Type 0)
    (sets : LegSets) : Type 0 where
  pub says : (stripe : ℕ) → stripe < count → stripe < stripes
      → SaysOf stripe (names stripe) (next stripe) (lacks stripe) sets
  pub others : (stripe : ℕ) → stripe < count → stripes ≤ stripe → SaysNothing stripe sets

-- those of the image of a start by the newest superblock
abbrev pub AreSetsOf : (count : ℕ) → Option ℕ → Assembly → (here : List Bool) → LegSets → Type 0
AreSetsOf count asked a here sets =
    AreSets count a.newest.stripes (OpensOn asked a) (IsCandidate asked a here)
    (IsPartial asked a here) sets

-- the leg is another one than the master, and taken to be equal to it
pub record IsEqualTo (master : ℕ) (legs : List Bool) (leg : ℕ) : Type 0 where
  pub other : leg ≢ master
  pub equal : IsTrue (has leg legs)

-- in every stripe this leg is named alone, and these others are said to lack nothing
abbrev pub NamesAlone : (count stripes master : ℕ) → (equal : List Bool) → LegSets → Type 0
NamesAlone count stripes master equal sets =
    AreSets count stripes (λ stripe leg. leg ≡ master) (λ stripe. IsEqualTo master equal)
    (λ stripe. IsEqualTo master equal) sets

-- the image goes on from a superblock: it is of the same mirror, shape, legs and lineages
pub record GoesOn (s image : Superblock) : Type 0 where
  pub generation : image.generation ≡ s.generation
  pub mirror : image.mirror ≡ s.mirror
  pub blocks : image.blocks ≡ s.blocks
  pub region_blocks : image.region_blocks ≡ s.region_blocks
  pub span_regions : image.span_regions ≡ s.span_regions
  pub stripes : image.stripes ≡ s.stripes
  pub legs : image.legs ≡ s.legs
  pub leg_ids : image.leg_ids ≡ s.leg_ids
  pub seen : image.seen ≡ s.seen
  pub unclean : image.clean ≡ false
  pub version : image.version ≡ 3

-- the image of a start by the newest superblock, in which this leg was asked for or none
pub record IsImage (asked : Option ℕ) (a : Assembly) (here : List Bool)
    (files : LegIdentities) (image : Superblock) : Type 0 where
  pub goes_on : GoesOn a.newest image
  pub lineages : image.lineages ≡ a.newest.lineages
  pub forks : image.forks ≡ a.newest.forks
  pub marked : image.marked ≡ a.newest.marked
  pub sets : AreSetsOf 64 asked a here image.sets
  pub identities : Records 8 here files a.newest.identities image.identities
  pub changed : KeepsTimes 8 here a.newest.changed image.changed

-- the lineage is a new one, which descends from that of the newest superblock as it was found
pub record IsFork (lineage : ℕ) (newest image : Superblock) : Type 0 where
  pub own : slice_index image.lineages 0 ≡ lineage
  pub from : slice_index image.forks 0 ≡ newest.generation
  pub lineages : (i : ℕ) → i < 3
      → slice_index image.lineages (i + 1) ≡ slice_index newest.lineages i
  pub forks : (i : ℕ) → i < 3 → slice_index image.forks (i + 1) ≡ slice_index newest.forks i

-- The image of a start that a person forced: it goes on from the newest superblock in a lineage of
-- its own, names this leg alone, marks nothing, and records the files that are here.
pub record IsForced (leg lineage : ℕ) (legs : LegsHere) (newest image : Superblock)
    : Type 0 where
  pub goes_on : GoesOn newest image
  pub forks : IsFork lineage newest image
  pub unmarked : IsUnmarked 16384 image.marked
  pub sets : NamesAlone 64 newest.stripes leg (replicate 8 false) image.sets
  pub identities : Records 8 legs.here legs.identities newest.identities image.identities
  pub changed : image.changed ≡ replicate 8 0

-- The first image of a mirror: it has the mirror's id, shape and legs, is of a lineage that
-- descends from none, names this leg alone, says of the others that are equal to it that they lack
-- nothing, and marks nothing.
pub record IsFirst (new : NewMirror) (master : ℕ) (equal : List Bool) (image : Superblock)
    : Type 0 where
  pub generation : image.generation ≡ 0
  pub mirror : image.mirror ≡ new.mirror
  pub blocks : image.blocks ≡ new.blocks
  pub region_blocks : image.region_blocks ≡ new.region_blocks
  pub span_regions : image.span_regions ≡ new.span_regions
  pub stripes : image.stripes ≡ new.stripes
  pub legs : image.legs ≡ new.legs
  pub leg_ids : image.leg_ids ≡ new.leg_ids
  pub lineage : slice_index image.lineages 0 ≡ new.lineage
  pub older : (i : ℕ) → i < 3 → slice_index image.lineages (i + 1) ≡ 0
  pub seen : image.seen ≡ replicate 8 0
  pub unclean : image.clean ≡ false
  pub unmarked : IsUnmarked 16384 image.marked
  pub sets : NamesAlone 64 new.stripes master equal image.sets
  pub version : image.version ≡ 3
  pub identities : image.identities ≡ new.identities
  pub changed : image.changed ≡ replicate 8 0
