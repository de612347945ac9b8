-- The runs of a stripe, one after the other.
use Rattle.std.specs.Prelude.{ℕ, ◌+◌, ◌-◌, ◌%◌, ◌==◌, ◌||◌, Bool, not, min, nat_lt}
use Rattle.std.specs.Prelude.{if◌then◌else◌}
use Rattle.nm_rules.specs.declared.at.At.{At}

-- how many blocks the longest run has that begins at this block: at most 128, in one region; none
-- past the stripe's end
abbrev pub run_length : At → ℕ → ℕ
run_length place block =
    if (place.region == 0) || not (nat_lt block place.blocks) then 0
    else min (min 128 (place.region - block % place.region)) (place.blocks - block)

-- whether a region, or the stripe, ends with so many blocks from this one on
abbrev pub ends_region : At → ℕ → ℕ → Bool
ends_region place block count =
    not (nat_lt (block + count) place.blocks) || ((block + count) % place.region == 0)
