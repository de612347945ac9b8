-- Where a leg may have lost something that comes back.
use Rattle.std.specs.Prelude.{ℕ, ◌^◌, true, [], ◌∷◌, if◌then◌else◌, Option, None, Some}
use Rattle.nm_rules.specs.Reopening.{Marks}
use Rattle.nm_gate.specs.Durable.{Durable, is_lacking}

-- one marked span, which has every region of a stripe
abbrev pub everywhere : Marks
everywhere = record { marked = true ∷ []; span = 2 ^ 31 }

-- Where the superblock may say that the leg lacks no more than the spans that are surely marked,
-- the leg may have lost in these what it has not synced. Otherwise it may have lost that anywhere.
abbrev pub suspects : ℕ → Option Durable → Marks
suspects leg None = everywhere
suspects leg (Some d) =
    if is_lacking leg d then record { marked = d.marked; span = d.span } else everywhere
