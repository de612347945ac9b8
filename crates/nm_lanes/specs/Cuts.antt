-- What a write puts into the runs of a range.
use Rattle.std.specs.Prelude.{ℕ, ◌/◌, if◌then◌else◌, List, [], ◌∷◌, take, drop, map}
use Rattle.nm_fanout.specs.declared.block_data.Data.{Data}
use Rattle.nm_fanout.specs.declared.block_data.Data.TheVariants.{Cut, Zero, Part, ZeroPart}
use Rattle.nm_lanes.specs.declared.run.Run.{Run}
use Rattle.nm_lanes.specs.declared.run_write.RunWrite.{RunWrite}
use Rattle.nm_lanes.specs.Runs.{is_whole}

-- these bytes: those of whole blocks as a cut, others as a part
abbrev pub cut_for : Run → List ℕ → Data
cut_for run bytes = if is_whole run then Cut bytes else Part run.from bytes

-- zeroes: whole blocks of them, or a part
abbrev pub zero_for : Run → Data
zero_for run = if is_whole run then Zero (run.len / 512) else ZeroPart run.from run.len

-- whole blocks of zeroes, or a part of zeroes
abbrev pub AreZeroes : Data → Type 0
AreZeroes (Zero count) = Unit {0}
AreZeroes (ZeroPart from len) = Unit {0}
AreZeroes bytes = ⊥

-- the payload, cut where the runs end
abbrev pub cuts_for : List Run → List ℕ → List RunWrite
cuts_for [] payload = []
cuts_for (run ∷ runs) payload =
    record { run = run; bytes = cut_for run (take run.len payload) }
    ∷ cuts_for runs (drop run.len payload)

-- zeroes for each run
abbrev pub zeroes_for : List Run → List RunWrite
zeroes_for [] = []
zeroes_for (run ∷ runs) = record { run = run; bytes = zero_for run } ∷ zeroes_for runs

-- the runs of some writes
abbrev pub runs_written : List RunWrite → List Run
runs_written writes = map (λ write. write.run) writes
