-- What the entries of a run that takes effect take for granted.
use Rattle.std.specs.Prelude.{ℕ, ◌+◌, ◌<◌, ◌≤◌, ◌^◌, List, [], ◌∷◌}
use Rattle.nm_fanout.specs.declared.write_record.Record.{Record}
use Rattle.nm_fanout.specs.RecordData.{blocks_in}

-- the run may take effect from this number on, where so many entries were pushed: there are numbers
-- for its blocks, and the tickets and places of its blocks are words
pub record MayLand (r : Record) (number before : ℕ) : Type 0 where
  pub numbers : number + blocks_in r.data ≤ 2 ^ 63
  pub total : before + blocks_in r.data ≤ 2 ^ 63
  pub tickets : r.ticket + blocks_in r.data < 2 ^ 64
  pub blocks : r.block + blocks_in r.data < 2 ^ 64

-- the tickets and places of the blocks of each of these runs are words
abbrev pub AreWords : List Record → Type 0
AreWords [] = Unit {0}
AreWords (r ∷ rs) =
    (r.ticket + blocks_in r.data < 2 ^ 64) × (r.block + blocks_in r.data < 2 ^ 64) × AreWords rs
