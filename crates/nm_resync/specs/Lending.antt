-- How the buffer lends the places that the next blocks are read into.
use Rattle.std.specs.Prelude.{ℕ, List, length}
use Rattle.std.specs.List.{refill}
use Rattle.std.specs.Borrow.{Lends, MutBor, Fml, Array, u8}
use Rattle.nm_resync.specs.contracts.copy.Copy as copy
use Rattle.nm_resync.specs.Chunk.{CopyBuffer}

-- r lends the first of the bytes of c that no block was read into: what is last written through r
-- stays there, and nothing else changes
abbrev pub LendsSlots : MutBor CopyBuffer → MutBor (List ℕ) → Fml
LendsSlots c r = Lends copy.the_row (Array u8 0) c r
    (λ bytes. record c.now { rest = refill (length c.now.rest) c.now.rest bytes })
