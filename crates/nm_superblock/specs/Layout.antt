-- The bytes of a superblock: eight sectors of 512 bytes, each a header and a piece of the payload.
use Rattle.std.specs.Prelude.{ℕ, zero, suc, ◌+◌, ◌*◌, ◌^◌, ◌%◌, nat_lt, if◌then◌else◌}
use Rattle.std.specs.Prelude.{List, [], ◌∷◌, ◌++◌, take, drop, replicate}
use Rattle.std.specs.List.{flat_map}
use Rattle.std.specs.Int.{bytes_high_first}
use Rattle.sha2.specs.Sha256.{sha256}
use Rattle.nm_superblock.specs.declared.superblock.Superblock.{Superblock}

-- a number as this many bytes, the highest first
unfoldable pub be : ℕ → ℕ → List ℕ
be width number = bytes_high_first width number

-- numbers of 8 bytes, one after the other
abbrev pub table_bytes : List ℕ → List ℕ
table_bytes numbers = flat_map (bytes_high_first 8) numbers

-- so many bytes of zero
unfoldable pub zeroes : ℕ → List ℕ
zeroes count = replicate count 0

-- the payload before its digest, 424 bytes
unfoldable pub head_bytes : Superblock → List ℕ
head_bytes s =
    be 16 s.mirror ++ be 8 s.blocks ++ be 4 s.region_blocks ++ be 4 s.span_regions
    ++ (s.stripes ∷ s.legs ∷ s.leg ∷ (if s.clean then 1 else 0) ∷ 0 ∷ 0 ∷ 0 ∷ 0 ∷ [])
    ++ table_bytes s.leg_ids ++ table_bytes s.seen ++ s.sets.bytes

-- the payload after its digest, 3,536 bytes
unfoldable pub tail_bytes : Superblock → List ℕ
tail_bytes s =
    table_bytes s.lineages ++ table_bytes s.forks ++ s.marked.bytes
    ++ table_bytes s.identities.words ++ table_bytes s.changed ++ zeroes 1104

-- the digest, 8 bytes: the first of the SHA-256 of the payload with zeroes in its place
unfoldable pub digest_bytes : Superblock → List ℕ
digest_bytes s = take 8 (sha256 (head_bytes s ++ zeroes 8 ++ tail_bytes s))

-- the payload, 3,968 bytes
unfoldable pub payload_bytes : Superblock → List ℕ
payload_bytes s = head_bytes s ++ digest_bytes s ++ tail_bytes s

-- what a header's other 14 bytes are as one number
abbrev pub head_number : (version generation number : ℕ) → ℕ
head_number version generation number =
    ((0x4e4d5253 * 256 + version) * 256 + number) * 2 ^ 64 + generation

-- by what a header of version 3 checks itself, which is never 0, as it is in those before
unfoldable pub check_of : (version generation number : ℕ) → ℕ
check_of version generation number =
    if nat_lt version 3 then 0 else 1 + head_number version generation number % 65521

-- a sector's header, 16 bytes: "NMRS", the version, the sector's number, the check, and the stamp
unfoldable pub header_bytes : (version generation number : ℕ) → List ℕ
header_bytes version generation number =
    (0x4e ∷ 0x4d ∷ 0x52 ∷ 0x53 ∷ version ∷ number ∷ [])
    ++ be 2 (check_of version generation number) ++ be 8 generation

-- the piece of the payload that a sector has, 496 bytes
abbrev pub piece_bytes : (number : ℕ) → List ℕ → List ℕ
piece_bytes number payload = take 496 (drop (496 * number) payload)

-- the first sectors of a payload, of a version and under a stamp
unfoldable pub sectors_bytes : (version generation count : ℕ) → List ℕ → List ℕ
sectors_bytes version generation zero payload = []
sectors_bytes version generation (suc number) payload =
    sectors_bytes version generation number payload
    ++ (header_bytes version generation number ++ piece_bytes number payload)

-- the slot of a superblock, 4,096 bytes
unfoldable pub slot_bytes : Superblock → List ℕ
slot_bytes s = sectors_bytes s.version s.generation 8 (payload_bytes s)
