-- The options of the fixed newstyle negotiation that are served ("Option types").
use Rattle.std.specs.Prelude.{ℕ}
use Rattle.nm_wire.specs.declared.option_kind.OptionKind.{OptionKind}
use Rattle.nm_wire.specs.declared.option_kind.OptionKind.TheVariants.{ExportName, Abort}
use Rattle.nm_wire.specs.declared.option_kind.OptionKind.TheVariants.{List, Info, Go}

-- the number of an option
abbrev pub option_number : OptionKind → ℕ
option_number ExportName = 1
option_number Abort = 2
option_number List = 3
option_number Info = 6
option_number Go = 7
