-- A step of a copy at its place, whichever lowest region was asked for.
use Rattle.std.specs.Prelude.{ℕ}
use Rattle.nm_leg.specs.Leg.{LegType}
use Rattle.nm_regions.specs.declared.copy_place.CopyPlace.{CopyPlace}
use Rattle.nm_rules.specs.Copy.{GoesOn, chunk_of}
use Rattle.nm_rules.specs.State.{StripeState}
use Rattle.nm_store.specs.Copying.{FailsToCopy, ReadsToCopy, WritesToCopy}

-- the copy of its leg goes on at this place
abbrev pub GoesOnAt : {L : Type 0} → CopyPlace → ℕ → StripeState L → Type 0
GoesOnAt copy from stripe = GoesOn stripe copy.leg from copy (chunk_of copy stripe)

-- it does for some lowest region
abbrev pub IsCopyPlace : {L : Type 0} → CopyPlace → StripeState L → Type 0
IsCopyPlace copy stripe = (from : ℕ) × GoesOnAt copy from stripe

-- for each of these, the step read so many blocks
abbrev pub ReadsAt : {L : Type 0} → LegType L → StripeState L → StripeState L → CopyPlace → ℕ → ℕ
    → Type 0
ReadsAt type old new copy most moved =
    (from : ℕ) → GoesOnAt copy from old → ReadsToCopy type old new copy.leg most from moved

-- for each of these, the step wrote so many blocks
abbrev pub WritesAt : {L : Type 0} → LegType L → StripeState L → StripeState L → CopyPlace → ℕ → ℕ
    → Type 0
WritesAt type old new copy most moved =
    (from : ℕ) → GoesOnAt copy from old → WritesToCopy type old new copy.leg most from moved

-- for each of these, the step's call of this leg failed
abbrev pub FailsAt : {L : Type 0} → LegType L → StripeState L → StripeState L → CopyPlace → ℕ → ℕ
    → Type 0
FailsAt type old new copy most gone =
    (from : ℕ) → GoesOnAt copy from old → FailsToCopy type old new copy.leg most from gone
