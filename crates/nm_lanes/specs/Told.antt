-- What a gate is told of a step.
use Rattle.std.specs.Prelude.{ℕ, Option, Some, None, Result, Ok, Err}
use Rattle.nm_rules.specs.declared.refusal.Refusal.{Refusal}
use Rattle.nm_rules.specs.Runs.{EntryNames}
use Rattle.nm_stripe.specs.declared.read.Reading.{Reading}
use Rattle.nm_stripe.specs.declared.read.Reading.TheVariants.{Value}

-- the number of the first entry that a claim was given
abbrev pub number_claimed : Result EntryNames Refusal → Option ℕ
number_claimed (Ok written) = Some written.number
number_claimed (Err refusal) = None

-- the number of the first entry that a read was given
abbrev pub number_read : {L : Type 0} → Result (Reading L) Refusal → Option ℕ
number_read (Ok (Value receipt)) = Some receipt.number
number_read read = None
