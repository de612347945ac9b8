-- Histories: lists of numbered entries, each one operation done on an array.
use Rattle.std.specs.Prelude.{◌≡◌, ℕ, ◌+◌, ◌<◌, ◌==◌, if◌then◌else◌}
use Rattle.std.specs.Prelude.{List, [], ◌∷◌, ◌++◌, length, slice_get, Option, None, Some, IfSome}
use Rattle.std.specs.Option.{option_or}
use Rattle.nm_replay.specs.declared.block.Block.{Block}
use Rattle.nm_replay.specs.declared.entry.Kind.{Kind}
use Rattle.nm_replay.specs.declared.entry.Kind.TheVariants.{Read, Write, Patch}
use Rattle.nm_replay.specs.declared.entry.Entry.{Entry}
use Rattle.nm_replay.specs.Array.{Array, Operation, Reads, Writes, after, SameOutside}

-- the operation of an entry of this kind, on this block, with these bytes: a patch writes what its
-- part and the rest of its block come to
abbrev pub operation : Kind → ℕ → Block → Operation
operation Read block bytes = Reads block
operation (Write ticket) block bytes = Writes block bytes
operation (Patch ticket from len) block bytes = Writes block bytes

-- bytes of an entry of this kind may stand where these stood before on its block: a read finds the
-- same, a write any others, and a patch the same outside its part
abbrev pub MayReplace : Kind → Block → Block → Type 0
MayReplace Read old bytes = bytes ≡ old
MayReplace (Write ticket) old bytes = Unit {0}
MayReplace (Patch ticket from len) old bytes = SameOutside from len old bytes

-- an entry of this kind fits an array: a read finds its bytes at its block, a write's block lies
-- in it, and a patch leaves its block as it is outside its part
abbrev pub Fits : Kind → ℕ → Block → Array → Type 0
Fits Read block bytes array = slice_get array block ≡ Some bytes
Fits (Write ticket) block bytes array = block < length array
Fits (Patch ticket from len) block bytes array =
    (old : Block) × (slice_get array block ≡ Some old) × SameOutside from len old bytes

-- an entry fits an array
abbrev pub EntryFits : Entry → Array → Type 0
EntryFits e array = Fits e.kind e.block e.bytes array

-- what an entry's operation leaves of an array
abbrev pub after_entry : Entry → Array → Array
after_entry e array = after (operation e.kind e.block e.bytes) array

-- the entries are legal from one array to another: their numbers rise by one from `next`, and, done
-- in order, each fits the array that it meets, and the last array is what they leave
abbrev pub Legal : ℕ → List Entry → Array → Array → Type 0
Legal next [] from to = to ≡ from
Legal next (e ∷ es) from to =
    (e.seq ≡ next) × EntryFits e from × Legal (next + 1) es (after_entry e from) to

-- the numbers of the entries rise by one, from `next`
abbrev pub NumberedFrom : ℕ → List Entry → Type 0
NumberedFrom next [] = Unit {0}
NumberedFrom next (e ∷ es) = (e.seq ≡ next) × NumberedFrom (next + 1) es

-- the numbers of the entries rise by one, from whatever the first has
abbrev pub IsNumbered : List Entry → Type 0
IsNumbered [] = Unit {0}
IsNumbered (e ∷ es) = NumberedFrom (e.seq + 1) es

-- the bytes of the last entry on a block, if there is one
abbrev pub last_on : ℕ → List Entry → Option Block
last_on block [] = None
last_on block (e ∷ es) =
    option_or (last_on block es) (if e.block == block then Some e.bytes else None)

-- an entry agrees with those before it: its bytes may stand where those of the last entry on its
-- block stood, if there is one
abbrev pub Agrees : List Entry → Entry → Type 0
Agrees before e = IfSome (last_on e.block before) (λ last. MayReplace e.kind last e.bytes)

-- consistent entries: their numbers rise by one, and each agrees with those before it
pub record Consistent (entries : List Entry) : Type 0 where
  pub numbers : IsNumbered entries
  pub agree :
      (before : List Entry) (e : Entry) (later : List Entry)
      → entries ≡ before ++ e ∷ later → Agrees before e

-- the last entry on each block that has one is what the array has there
abbrev pub EndsIn : List Entry → Array → Type 0
EndsIn entries array =
    (block : ℕ) → IfSome (last_on block entries) (λ bytes. slice_get array block ≡ Some bytes)
