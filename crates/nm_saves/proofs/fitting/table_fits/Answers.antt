-- A number of a table is one of 64 bits, and past its end it is 0.
use Rattle.std.proofs.Common.{arith}
use Rattle.nm_saves.proofs.fitting.table_fits.Goals as goal

pub returns : goal.returns
returns c = record { size = omega arith; fit = λ i. let number = c.type_inv.numbers i in omega arith }
