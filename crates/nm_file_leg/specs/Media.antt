-- What the media of this crate hold.
use Rattle.std.specs.Prelude.{ℕ, true, false, List, []}
use Rattle.nm_file_leg.specs.declared.mem_medium.MemMedium.{MemMedium}
use Rattle.nm_file_leg.specs.Medium.{Held}

-- these bytes, all of them the user's own and durable, and none of them lost
abbrev pub steady : List ℕ → Held
steady bytes = record {
  own = λ _. true;
  contents = bytes;
  durable = bytes;
  lost = λ _. false;
}

-- what is in memory
abbrev pub of_mem : MemMedium → Held
of_mem medium = steady medium.bytes.items

-- a medium of which nothing is known
abbrev pub unknown : Held
unknown = steady []
