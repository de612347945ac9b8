-- One turn of a verification: a look at one leg, and one at another, each in a hold of the stripe.
use Rattle.std.specs.Prelude.{◌≡◌, ℕ, List}
use Rattle.nm_leg.specs.Leg.{LegType}
use Rattle.nm_rules.specs.State.{StripeState}
use Rattle.nm_rules.specs.declared.at.At.{At}
use Rattle.nm_verify.specs.Looks.{Begins, Sees}
use Rattle.nm_verify.specs.declared.cursor.Cursor.{Cursor}
use Rattle.nm_verify.specs.declared.looks.Begun.{Begun}
use Rattle.nm_verify.specs.declared.looks.Begun.TheVariants.{Ends, Held}
use Rattle.nm_verify.specs.declared.looks.Half.{Half}
use Rattle.nm_verify.specs.declared.looks.Seen.{Seen}

-- a look at the first leg, in a hold of the stripe there, which has this place
pub record LooksFirst {L : Type 0} (type : LegType L) (at : Cursor) (held : List ℕ) (place : At)
    (begun : Begun) : Type 0 where
  pub stripes : StripeState L × StripeState L
  pub number : place.stripe ≡ at.stripe
  pub place_is : stripes.0.place ≡ place
  pub begins : Begins type at stripes held begun

-- a look at the second leg, in a later hold of that stripe
pub record LooksSecond {L : Type 0} (type : LegType L) (places : Cursor × Half)
    (held found : List ℕ) (seen : Seen) : Type 0 where
  pub stripes : StripeState L × StripeState L
  pub number : stripes.0.place.stripe ≡ places.0.stripe
  pub sees : Sees type places stripes held found seen

-- the looks of a turn: the first one ends it, or a second one follows
pub data Looks {L : Type 0} (type : LegType L) (at : Cursor) (place : At) : Seen → Type 0 where
  Once : (held : List ℕ) (seen : Seen) → LooksFirst type at held place (Ends seen)
      → Looks type at place seen
  Twice : (held found : List ℕ) (half : Half) (seen : Seen)
      → LooksFirst type at held place (Held half)
      → LooksSecond type (at, half) held found seen → Looks type at place seen
