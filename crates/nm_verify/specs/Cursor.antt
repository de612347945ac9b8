-- Where a verification is, and how it goes on.
use Rattle.std.specs.Prelude.{ℕ, ◌+◌, ◌-◌, ◌^◌, min, nat_lt, if◌then◌else◌}
use Rattle.nm_rules.specs.declared.at.At.{At}
use Rattle.nm_verify.specs.declared.cursor.Cursor.{Cursor}

-- the beginning of a stripe
abbrev pub at_stripe : ℕ → Cursor
at_stripe stripe = record { stripe = stripe; block = 0; leg = 0; tries = 0 }

-- the place after this leg was compared
abbrev pub after_leg : ℕ → Cursor → Cursor
after_leg leg at = record at { leg = min (leg + 1) (2 ^ 8 - 1); tries = 0 }

-- the place after a write came between
abbrev pub after_write : Cursor → Cursor
after_write at = record at { tries = min (at.tries + 1) (2 ^ 32 - 1) }

-- the place after a run of so many blocks: the next one of the stripe, or the next stripe
abbrev pub after_run : At → ℕ → Cursor → Cursor
after_run place count at =
    if nat_lt (at.block + count) place.blocks
    then record (at_stripe at.stripe) { block = at.block + count }
    else at_stripe (at.stripe + 1)
