-- The number of a fault, and what it prints.
use Rattle.std.specs.Prelude.{ℕ, List, codes}
use Rattle.nm_requests.specs.declared.fault.Fault.{Fault}
use Rattle.nm_requests.specs.declared.fault.Fault.TheVariants.{Magic, TooLong, Memory}

-- the fault's number
abbrev pub number_of : Fault → ℕ
number_of Magic = 1
number_of TooLong = 2
number_of Memory = 3

-- the fault's text
abbrev pub text_of : Fault → List ℕ
text_of Magic = codes "a request begins with another magic number"
text_of TooLong = codes "a WRITE is longer than 32 MiB"
text_of Memory = codes "out of memory"
