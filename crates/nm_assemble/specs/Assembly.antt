-- What a start goes by, and the rows by which it is refused: the first that applies decides.
use Rattle.std.specs.Prelude.{◌≡◌, ◌⊎◌, ℕ, Bool, false, List, IsTrue, Option}
use Rattle.nm_superblock.specs.declared.superblock.Superblock.{Superblock}
use Rattle.nm_assemble.specs.declared.assembly.Assembly.{Assembly}
use Rattle.nm_assemble.specs.declared.assembly.AssembleFault.{AssembleFault}
use Rattle.nm_assemble.specs.declared.assembly.AssembleFault.TheVariants.{Another, Changed}
use Rattle.nm_assemble.specs.declared.assembly.AssembleFault.TheVariants.{Mixed, Unfit}
use Rattle.nm_assemble.specs.declared.assembly.AssembleFault.TheVariants.{MayBeNewer, NoneInSync}
use Rattle.nm_assemble.specs.declared.assembly.AssembleFault.TheVariants.{NoSuperblock}
use Rattle.nm_assemble.specs.Changes.{WasChanged}
use Rattle.nm_assemble.specs.Masters.{AllOpen, IsFirstClosed}
use Rattle.nm_assemble.specs.Start.{AllFit, AreFresh, IsEmpty, IsFirstMisfit, IsMissing, IsNewest}
use Rattle.nm_assemble.specs.Start.{IsSureStart}
use Rattle.nm_assemble.specs.Own.{IsFirstAnother, IsFirstMixed, NoneAnother, NoneMixed}
use Rattle.nm_assemble.specs.declared.own.LegsHere.{LegsHere}

-- the newest superblock, with which each other one goes
pub record IsChosen (newest : Superblock) (found : List (Option Superblock)) : Type 0 where
  pub greatest : IsNewest 8 newest found
  pub fit : AllFit 8 found newest

-- the start is sure, or was told to go on although it is not
abbrev pub MayGoBy : Superblock → List (Option Superblock) → Bool → Type 0
MayGoBy newest found degraded = IsTrue degraded ⊎ IsSureStart newest found

-- it is not sure, and was not told to go on
abbrev pub IsUnsure : ℕ → Superblock → List (Option Superblock) → Bool → Type 0
IsUnsure leg newest found degraded = (degraded ≡ false) × IsMissing leg newest found

-- what a start goes by
pub record IsAssembly (a : Assembly) (found : List (Option Superblock)) (legs : LegsHere)
    (degraded : Bool) : Type 0 where
  pub chosen : IsChosen a.newest found
  pub unmixed : NoneMixed 8 a.newest legs
  pub sure : MayGoBy a.newest found degraded
  pub fresh : AreFresh 8 a.newest found legs a.fresh
  pub masters : AllOpen 64 a.newest a.fresh

-- why a stripe has no leg to open on: the first that is in sync there and here but not its own has
-- another file, or its file was changed; or there is none such
abbrev pub IsClosedBy : (stripe : ℕ) → Superblock → LegsHere → AssembleFault → Type 0
IsClosedBy stripe newest legs (Another leg) =
    IsFirstAnother leg stripe newest legs × (WasChanged newest legs leg → ⊥)
IsClosedBy stripe newest legs (Changed leg) =
    IsFirstAnother leg stripe newest legs × WasChanged newest legs leg
IsClosedBy stripe newest legs (NoneInSync closed) =
    (closed ≡ stripe) × NoneAnother 8 stripe newest legs
IsClosedBy stripe newest legs other = ⊥

-- some stripe has no leg to open on, and no row above applies
pub record IsClosedStart (fault : AssembleFault) (found : List (Option Superblock))
    (legs : LegsHere) (degraded : Bool) : Type 0 where
  pub newest : Superblock
  pub fresh : List Bool
  pub stripe : ℕ
  pub chosen : IsChosen newest found
  pub unmixed : NoneMixed 8 newest legs
  pub sure : MayGoBy newest found degraded
  pub told : AreFresh 8 newest found legs fresh
  pub closed : IsFirstClosed stripe newest fresh
  pub why : IsClosedBy stripe newest legs fault

-- why it cannot
abbrev pub IsRefused : AssembleFault → List (Option Superblock) → LegsHere → Bool → Type 0
IsRefused NoSuperblock found legs degraded = IsEmpty 8 found
IsRefused (Unfit leg why) found legs degraded =
    (newest : Superblock) × IsNewest 8 newest found × IsFirstMisfit leg why found newest
IsRefused (Mixed leg other) found legs degraded =
    (newest : Superblock) × IsChosen newest found × IsFirstMixed leg other newest legs
IsRefused (MayBeNewer leg) found legs degraded =
    (newest : Superblock) × IsChosen newest found × NoneMixed 8 newest legs
    × IsUnsure leg newest found degraded
IsRefused (Another leg) found legs degraded = IsClosedStart (Another leg) found legs degraded
IsRefused (Changed leg) found legs degraded = IsClosedStart (Changed leg) found legs degraded
IsRefused (NoneInSync stripe) found legs degraded =
    IsClosedStart (NoneInSync stripe) found legs degraded
