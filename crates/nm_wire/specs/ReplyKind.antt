-- The types of replies to options that are sent ("Option reply types").
use Rattle.std.specs.Prelude.{ℕ, ◌+◌, ◌^◌}
use Rattle.nm_wire.specs.declared.reply_kind.ReplyKind.{ReplyKind}
use Rattle.nm_wire.specs.declared.reply_kind.ReplyKind.TheVariants.{Ack, Server, Info}
use Rattle.nm_wire.specs.declared.reply_kind.ReplyKind.TheVariants.{Unsupported, Invalid, Unknown}

-- the number of a reply type, whose bit 31 marks an error
abbrev pub reply_number : ReplyKind → ℕ
reply_number Ack = 1
reply_number Server = 2
reply_number Info = 3
reply_number Unsupported = 2 ^ 31 + 1
reply_number Invalid = 2 ^ 31 + 3
reply_number Unknown = 2 ^ 31 + 6
