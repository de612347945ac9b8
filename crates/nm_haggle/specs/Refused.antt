-- The numbers and the texts of the refusals.
use Rattle.std.specs.Prelude.{ℕ, List, codes}
use Rattle.nm_haggle.specs.declared.refused.Refused.{Refused}
use Rattle.nm_haggle.specs.declared.refused.Refused.TheVariants.{Memory, Closed}

-- the number of a refusal
abbrev pub number_of : Refused → ℕ
number_of Memory = 1
number_of Closed = 2

-- the text of a refusal
abbrev pub refused_text : Refused → List ℕ
refused_text Memory = codes "out of memory"
refused_text Closed = codes "the option haggling is over"
