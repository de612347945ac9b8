-- The places so far are found, and the others are still to come.
use Rattle.std.proofs.Common.{◌≡◌, ◌≤◌, ◌++◌, drop}
use Rattle.arrayvec.specs.ArrayVec.{array_vec_len}
use Rattle.nm_rules.specs.Read.{true_from}
use Rattle.nm_store.proofs.reading.add_true_places.Given as goal

abbrev pub invariant-loop-place : goal.invariant-loop-place
invariant-loop-place l =
    (true_from 0 l.places ≡ l.numbers.items ++ true_from l.place (drop l.place l.places)) × (array_vec_len l.numbers ≤ l.place)
