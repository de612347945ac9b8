-- The entries of a run of writes are those that a run from a first ticket has.
use Rattle.std.proofs.Common.{◌≡◌, ℕ, zero, suc, ◌+◌, List, ◌∷◌, take, drop, refl, ap}
use Rattle.nm_replay.specs.declared.entry.Kind.TheVariants.{Write}
use Rattle.nm_replay.specs.Array.{Entire}
use Rattle.nm_replay.specs.Events.{entry_of_write}
use Rattle.nm_replay.specs.Kept.{run_from}
use Rattle.nm_fanout.specs.Runs.{entries_from}

pub writes-run : (n number ticket block : ℕ) (bytes : List ℕ)
    → run_from n number (Write ticket) block bytes ≡ entries_from n number ticket block bytes
writes-run zero number ticket block bytes = refl
writes-run (suc n) number ticket block bytes =
    ap (λ es. entry_of_write number ticket block Entire (record { 0 = take 512 bytes }) ∷ es)
    (writes-run n (number + 1) (ticket + 1) (block + 1) (drop 512 bytes))
