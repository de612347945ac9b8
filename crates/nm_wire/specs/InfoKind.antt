-- The types of information on an export that are sent ("Option reply types", NBD_REP_INFO).
use Rattle.std.specs.Prelude.{ℕ}
use Rattle.nm_wire.specs.declared.info_kind.InfoKind.{InfoKind}
use Rattle.nm_wire.specs.declared.info_kind.InfoKind.TheVariants.{Export, BlockSize}

-- the number of an information type
abbrev pub info_number : InfoKind → ℕ
info_number Export = 0
info_number BlockSize = 3
