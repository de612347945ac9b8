-- A stripe that a start opened by the superblock goes on behind its gate: all that is asked of a
-- state in which a list of moves begins.
use Rattle.std.specs.Prelude.{◌≡◌, ◌⊎◌, ℕ, true, false, slice_get, slice_index_or}
use Rattle.nm_choice.specs.declared.leg_state.LegState.TheVariants.{InSync, Out}
use Rattle.nm_leg.specs.Leg.{Leg, LegType}
use Rattle.nm_rules.specs.Array.{contents_of}
use Rattle.nm_rules.specs.Flushed.{durable_of}
use Rattle.nm_rules.specs.Reopening.{Reopening, reopened}
use Rattle.nm_rules.specs.State.{StripeState}
use Rattle.nm_gate.specs.Durable.{Durable, is_lacking, is_listed, is_named}
use Rattle.nm_gate.specs.Gate.{is_marked_at}
use Rattle.nm_gate.specs.Moves.{Gated}
use Rattle.nm_gate.specs.Restart.{GoesBySuperblock}
use Rattle.nm_gate.specs.Saves.{AllListed}
use Rattle.nm_gate.specs.Survive.{EqualOutside, NamedHold, Stands}

-- What the start saved, over what it went by: it names the master alone, and lists it; it says of
-- legs alone that they lack marked spans of which the old one said that or more; and it marks what
-- that marked.
pub record IsImageOver {L : Type 0} (old : StripeState L) (d e : Durable) (master : ℕ)
    : Type 0 where
  pub alone : (leg : ℕ) → is_named leg e ≡ true → leg ≡ master
  pub listed : is_listed master e ≡ true
  pub lacking : (leg : ℕ) → is_lacking leg e ≡ true
      → (is_named leg d ≡ true) ⊎ (is_lacking leg d ≡ true)
  pub marked : (block : ℕ) → is_marked_at block old e ≡ false → is_marked_at block old d ≡ false

-- a start by the superblock that `d` bounds, in which the master alone is in sync, and which saved
-- the one that `e` is
pub record StartsBy {L : Type 0} (type : LegType L) (old : Gated L) (r : Reopening L) (e : Durable)
    : Type 0 where
  pub stands : Stands type old.stripe old.durable
  pub outside : EqualOutside type old.stripe old.durable
  pub goes : GoesBySuperblock type.model old.stripe old.durable r
  pub image : IsImageOver old.stripe old.durable e r.master
  pub only : (leg : ℕ) → slice_index_or r.states leg Out ≡ InSync → leg ≡ r.master

-- what the legs hold is durable, as where each was synced before it was gone by
abbrev pub AreDurable : {L : Type 0} → (L → Leg) → Reopening L → Type 0
AreDurable model r =
    (leg block : ℕ) → slice_get (durable_of model r.legs leg) block
    ≡ slice_get (contents_of model r.legs leg) block

-- The stripe that it opened stands, each leg that the superblock names holds its array, each leg in
-- sync is listed and, where what the legs hold is durable, they are equal outside marked spans.
pub record GoesOn {L : Type 0} (type : LegType L) (old : Gated L) (r : Reopening L) (e : Durable)
    : Type 0 where
  pub stands : Stands type (reopened old.stripe.place r) e
  pub hold : NamedHold type (reopened old.stripe.place r) e
  pub listed : AllListed (reopened old.stripe.place r) e
  pub equal : AreDurable type.model r → EqualOutside type (reopened old.stripe.place r) e

-- So it is of each start by the superblock, after any crash: the laws speak of its next crash too.
abbrev pub StartsGoOn : {L : Type 0} → LegType L → Type 0
StartsGoOn {L} type =
    (old : Gated L) (r : Reopening L) (e : Durable) → StartsBy type old r e → GoesOn type old r e
