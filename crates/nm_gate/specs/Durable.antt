-- What the durable superblock may say of a stripe. While a save is under way both the old one and
-- the new one may be the durable one, so these are bounds.
use Rattle.std.specs.Prelude.{ℕ, ◌/◌, Bool, false, List, slice_index_or}

-- the legs that it may call in sync; those that it surely lists, in sync or about to be; those of
-- which it may say that they lack no more than marked spans; the spans that it surely marks, each
-- of so many regions; and whether a save could not be done
pub record Durable : Type 0 where
  pub named : List Bool
  pub listed : List Bool
  pub lacking : List Bool
  pub marked : List Bool
  pub span : ℕ
  pub broken : Bool

-- it may call the leg in sync
abbrev pub is_named : ℕ → Durable → Bool
is_named leg d = slice_index_or d.named leg false

-- it surely lists the leg
abbrev pub is_listed : ℕ → Durable → Bool
is_listed leg d = slice_index_or d.listed leg false

-- it may say that the leg lacks no more than marked spans
abbrev pub is_lacking : ℕ → Durable → Bool
is_lacking leg d = slice_index_or d.lacking leg false

-- it surely marks the region's span
abbrev pub is_marked : ℕ → Durable → Bool
is_marked region d = slice_index_or d.marked (region / d.span) false
