-- Entries in two lists: their heads, and the bytes of all of them, 512 for each.
use Rattle.std.specs.Prelude.{ℕ, zero, suc, ◌+◌, List, [], ◌∷◌, take, drop}
use Rattle.nm_replay.specs.declared.entry.Entry.{Entry}
use Rattle.nm_replay.specs.declared.head.Head.{Head}
use Rattle.nm_replay.specs.Kept.{next_kind}

-- an entry but for its bytes
abbrev pub head_of : Entry → Head
head_of e = record { seq = e.seq; kind = e.kind; block = e.block }

-- the entry of this head, with these bytes
abbrev pub entry_of : Head → List ℕ → Entry
entry_of h bytes =
    record { seq = h.seq; kind = h.kind; block = h.block; bytes = record { 0 = bytes } }

-- the entries of these heads, the bytes of each in front of those of the next
abbrev pub joined : List Head → List ℕ → List Entry
joined [] bytes = []
joined (h ∷ hs) bytes = entry_of h (take 512 bytes) ∷ joined hs (drop 512 bytes)

-- the head of the entry of a run's next block
abbrev pub next_head : Head → Head
next_head h = record { seq = h.seq + 1; kind = next_kind h.kind; block = h.block + 1 }

-- the heads of the entries of a run of so many blocks
abbrev pub heads_from : ℕ → Head → List Head
heads_from zero h = []
heads_from (suc n) h = h ∷ heads_from n (next_head h)
