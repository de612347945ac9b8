-- What a check of a history asks of each entry, given those before it.
use Rattle.std.specs.Prelude.{◌≡◌, ℕ, zero, suc, ◌+◌, ◌-◌, List, length, slice_get}
use Rattle.std.specs.Prelude.{Option, None, IfSome}
use Rattle.std.specs.Option.{option_map}
use Rattle.nm_replay.specs.declared.block.Block.{Block}
use Rattle.nm_replay.specs.declared.entry.Kind.{Kind}
use Rattle.nm_replay.specs.declared.entry.Kind.TheVariants.{Read, Write, Patch}
use Rattle.nm_replay.specs.declared.entry.Entry.{Entry}
use Rattle.nm_replay.specs.History.{Agrees, last_on}

-- an entry's number is one more than that of the last before it, if there is one
abbrev pub IsNext : List Entry → Entry → Type 0
IsNext before e =
    IfSome (slice_get before (length before - 1)) (λ last. e.seq ≡ last.seq + 1)

-- whether it matters what stood on the block of an entry of this kind before it
abbrev pub LooksBack : Kind → Type 0
LooksBack Read = Unit {0}
LooksBack (Write ticket) = ⊥
LooksBack (Patch ticket from len) = Unit {0}

-- where it matters for an entry, these are the bytes of the last entry before it on its block
abbrev pub IsLastFor : List Entry → Entry → Option Block → Type 0
IsLastFor before e last = LooksBack e.kind → last ≡ last_on e.block before

-- an entry may follow others: it has the next number, and it agrees with them
pub record MayFollow (before : List Entry) (e : Entry) : Type 0 where
  pub number : IsNext before e
  pub agrees : Agrees before e

-- the bytes of the entry at this place, counted from 1; place 0 is that of no entry
abbrev pub bytes_at : ℕ → List Entry → Option Block
bytes_at zero entries = None
bytes_at (suc k) entries = option_map (λ e. e.bytes) (slice_get entries k)
