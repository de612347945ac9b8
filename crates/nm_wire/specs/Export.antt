-- The size and the flags that an export announces.
use Rattle.std.specs.Prelude.{ℕ, ◌+◌, ◌*◌, ◌^◌, if◌then◌else◌}
use Rattle.nm_wire.specs.declared.export.Export.{Export}

-- the size in bytes: a block has 512
abbrev pub size_of : Export → ℕ
size_of export = 512 * export.blocks

-- the transmission flags ("Transmission flags"): HAS_FLAGS, SEND_FLUSH and CAN_MULTI_CONN of every
-- export, READ_ONLY of one that takes no writes, and SEND_FUA, SEND_TRIM and SEND_WRITE_ZEROES of
-- one that does
abbrev pub flags_of : Export → ℕ
flags_of export =
    if export.read_only then 2 ^ 0 + 2 ^ 1 + 2 ^ 2 + 2 ^ 8
    else 2 ^ 0 + 2 ^ 2 + 2 ^ 3 + 2 ^ 5 + 2 ^ 6 + 2 ^ 8
