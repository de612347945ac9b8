-- The numbers and the texts of the refusals.
use Rattle.std.specs.Prelude.{ℕ, List, codes}
use Rattle.nm_session.specs.declared.refused.Refused.{Refused}
use Rattle.nm_session.specs.declared.refused.Refused.TheVariants.{UnknownIndex, Twice}
use Rattle.nm_session.specs.declared.refused.Refused.TheVariants.{Closed, Memory}

-- the number of a refusal
abbrev pub number_of : Refused → ℕ
number_of UnknownIndex = 1
number_of Twice = 2
number_of Closed = 3
number_of Memory = 4

-- the text of a refusal
abbrev pub refused_text : Refused → List ℕ
refused_text UnknownIndex = codes "no request of this index was read"
refused_text Twice = codes "the request is not outstanding"
refused_text Closed = codes "the session takes no more bytes"
refused_text Memory = codes "out of memory"
