-- What a start by superblocks goes by, and why it is refused: by rows, of which the first that
-- applies decides.
use Rattle.std.specs.Prelude.{◌≡◌, ◌≢◌, ◌⊎◌, ◌≤◌, ℕ, Bool, List, Option, None, Some, min, max}
use Rattle.std.specs.Prelude.{slice_index_or}
use Rattle.nm_assemble.specs.Assembly.{IsAssembly, IsRefused}
use Rattle.nm_assemble.specs.Image.{IsClosedTo, IsFork, IsForced, IsImage, OpensAll}
use Rattle.nm_assemble.specs.Own.{AreOwn}
use Rattle.nm_assemble.specs.Start.{IsEmpty, IsMissing, IsNewest, IsSureStart, beside}
use Rattle.nm_assemble.specs.declared.assembly.AssembleFault.{AssembleFault}
use Rattle.nm_assemble.specs.declared.assembly.AssembleFault.TheVariants as refused
use Rattle.nm_assemble.specs.declared.assembly.Assembly.{Assembly}
use Rattle.nm_assemble.specs.declared.misfit.Misfit.TheVariants.{Apart, OtherLeg, OtherMirror}
use Rattle.nm_commands.specs.declared.opening_settings.OpeningSettings.{OpeningSettings}
use Rattle.nm_commands.specs.declared.start.Start.TheVariants.{Equal, Full}
use Rattle.nm_reports.specs.declared.start_fault.StartFault.{StartFault}
use Rattle.nm_reports.specs.declared.start_fault.StartFault.TheVariants as fault
use Rattle.nm_starts.specs.declared.superblock_choice.Choice.{Choice}
use Rattle.nm_starts.specs.declared.superblock_choice.Choice.TheVariants.{First, Image}
use Rattle.nm_starts.specs.declared.superblock_choice.FoundLegs.{FoundLegs}
use Rattle.nm_superblock.specs.declared.superblock.Superblock.{Superblock}

-- every stripe may open on the leg that was named, if one was
abbrev pub MayBeAsked : Option ℕ → Assembly → Type 0
MayBeAsked None a = Unit {0}
MayBeAsked (Some leg) a = OpensAll leg a

-- the image is that of a sure start; or of one that goes on though it is not sure, and begins a
-- lineage
pub record IsDegraded (lineage : ℕ) (seen : FoundLegs) (newest sure image : Superblock)
    : Type 0 where
  pub missing : (leg : ℕ) × IsMissing leg newest seen.found
  pub fork : IsFork lineage sure image
  pub others : image ≡ record sure { lineages = image.lineages; forks = image.forks }

abbrev pub IsSureOr : (lineage : ℕ) → FoundLegs → (newest sure image : Superblock) → Type 0
IsSureOr lineage seen newest sure image =
    (IsSureStart newest seen.found × (image ≡ sure)) ⊎ IsDegraded lineage seen newest sure image

-- the image of a start that nobody forced
pub record IsAssembled (s : OpeningSettings) (seen : FoundLegs) (lineage : ℕ)
    (newest image : Superblock) : Type 0 where
  pub unequal : s.start ≢ Equal
  pub part : s.start ≢ Full
  pub assembly : Assembly
  pub assembled : IsAssembly assembly seen.found seen.legs s.degraded
  pub asked : MayBeAsked s.master assembly
  pub own : List Bool
  pub are_own : AreOwn 8 assembly.newest seen.legs own
  pub sure : Superblock
  pub says : IsImage s.master assembly own seen.legs.identities sure
  pub goes_on : IsSureOr lineage seen newest sure image

-- the image that a start goes by: a leg that was forced on it is the only one that is named
abbrev pub GoesBy : (forced : Option ℕ) → OpeningSettings → FoundLegs → (lineage : ℕ)
    → (newest image : Superblock) → Type 0
GoesBy (Some leg) s seen lineage newest image = IsForced leg lineage seen.legs newest image
GoesBy None s seen lineage newest image = IsAssembled s seen lineage newest image

-- the legs whose files a start takes: those that are their own by the newest superblock; and all
-- that are here where a leg was forced on it, or where there is no superblock
abbrev pub Takes : (forced : Option ℕ) → FoundLegs → List Bool → Type 0
Takes None seen taken =
    (IsEmpty 8 seen.found × (taken ≡ seen.legs.here))
    ⊎ ((newest : Superblock) × IsNewest 8 newest seen.found × AreOwn 8 newest seen.legs taken)
Takes (Some leg) seen taken = taken ≡ seen.legs.here

-- what a start goes by
abbrev pub Chooses : OpeningSettings → FoundLegs → (lineage : ℕ) → Choice → Type 0
Chooses s seen lineage First = IsEmpty 8 seen.found
Chooses s seen lineage (Image image) =
    (newest : Superblock) × IsNewest 8 newest seen.found
    × GoesBy s.force_master s seen lineage newest image

-- the leg that a superblock says it is of
abbrev pub leg_said : Option Superblock → ℕ
leg_said (Some s) = s.leg
leg_said None = 0

-- what is told where superblocks do not decide
abbrev pub told : AssembleFault → FoundLegs → (newest : Superblock) → StartFault
told refused.NoSuperblock seen newest = fault.Memory
told (refused.Unfit leg OtherMirror) seen newest = fault.OtherMirror leg
told (refused.Unfit leg OtherLeg) seen newest =
    fault.OtherLeg leg (leg_said (beside leg seen.found))
told (refused.Unfit leg Apart) seen newest =
    fault.WentApart (min leg newest.leg) (max leg newest.leg)
told (refused.Mixed leg other) seen newest = fault.WasLeg leg other
told (refused.Another leg) seen newest = fault.AnotherFile leg
told (refused.Changed leg) seen newest =
    fault.WasChanged leg (slice_index_or newest.changed leg 0)
    (slice_index_or seen.legs.changed leg 0)
told (refused.MayBeNewer leg) seen newest = fault.MayBeNewer leg
told (refused.NoneInSync stripe) seen newest = fault.NoneInSync stripe

-- superblocks do not decide
pub record IsTold (s : OpeningSettings) (seen : FoundLegs) (tells : StartFault) : Type 0 where
  pub unforced : s.force_master ≡ None
  pub newest : Superblock
  pub greatest : IsNewest 8 newest seen.found
  pub why : AssembleFault
  pub refused : IsRefused why seen.found seen.legs s.degraded
  pub told : tells ≡ told why seen newest

-- a leg was named that cannot be the master of each stripe
pub record IsNotInSync (s : OpeningSettings) (seen : FoundLegs) (leg : ℕ) : Type 0 where
  pub unforced : s.force_master ≡ None
  pub named : s.master ≡ Some leg
  pub assembly : Assembly
  pub assembled : IsAssembly assembly seen.found seen.legs s.degraded
  pub closed : (stripe : ℕ) × IsClosedTo leg assembly stripe

-- why a start by superblocks is refused
abbrev pub RefusesChoice : OpeningSettings → FoundLegs → StartFault → Type 0
RefusesChoice s seen (fault.NoMaster leg) =
    (8 ≤ leg) × ((s.force_master ≡ Some leg) ⊎ (s.master ≡ Some leg))
RefusesChoice s seen fault.NotFirstStart =
    (s.force_master ≡ None) × (s.start ≡ Equal)
    × ((newest : Superblock) × IsNewest 8 newest seen.found)
RefusesChoice s seen fault.NotWhole =
    (s.force_master ≡ None) × (s.start ≡ Full)
    × ((newest : Superblock) × IsNewest 8 newest seen.found)
RefusesChoice s seen (fault.NotInSync leg) = IsNotInSync s seen leg
RefusesChoice s seen tells = IsTold s seen tells
