-- The numbers that were read follow one another; any header that the bytes begin with is this one.
use Rattle.std.proofs.Common.{take, Ok, refl, sym, ap, ◌∙◌, arith, lit<}
use Rattle.nm_wire.specs.Number.{option_reply_magic}
use Rattle.nm_wire.specs.Layout.{FitsOptionReply, option_reply_bytes}
use Rattle.nm_wire.specs.declared.option_reply.OptionReply.{OptionReply}
use Rattle.nm_wire.proofs.Heads.{no-shorter, other-magic, first-ones, length-option_reply_bytes, option_reply_bytes-magic, option_reply_bytes-unique}
use Rattle.nm_wire.proofs.option_reply.OptionReply.get.Goals as goal

pub returns-then-bytes-lt20-clause-reads_back : goal.returns-then-bytes-lt20-clause-reads_back
returns-then-bytes-lt20-clause-reads_back c reply rest fits same =
    absurd (omega (arith, no-shorter _ (option_reply_bytes reply) rest same, length-option_reply_bytes reply))

pub returns-then-get_u64-ne-OPTION_REPLY_MAGIC-clause-reads_back :
    goal.returns-then-get_u64-ne-OPTION_REPLY_MAGIC-clause-reads_back
returns-then-get_u64-ne-OPTION_REPLY_MAGIC-clause-reads_back c reply rest fits same =
    absurd (other-magic 8 c.get_u64.result option_reply_magic c.args.bytes.now (omega arith) (lit< tt)
    c.get_u64.ensures c.if-get_u64-ne-OPTION_REPLY_MAGIC.true (ap (take 8) same ∙ option_reply_bytes-magic reply rest))

pub returns-then-get_u64-ne-OPTION_REPLY_MAGIC-clause-magic :
    goal.returns-then-get_u64-ne-OPTION_REPLY_MAGIC-clause-magic
returns-then-get_u64-ne-OPTION_REPLY_MAGIC-clause-magic c = (
  (λ refused. (
    c.if-bytes-lt20.false,
    other-magic 8 c.get_u64.result option_reply_magic c.args.bytes.now
        (omega arith) (lit< tt) c.get_u64.ensures c.if-get_u64-ne-OPTION_REPLY_MAGIC.true,
  )),
  (λ cause. refl),
)

pub returns-clause-ok : goal.returns-clause-ok
unfolding option_reply_bytes
returns-clause-ok c = first-ones 20 c.args.bytes.now _
    (rw (c.get_u32-3.ensures, c.get_u32-2.ensures, c.get_u32.ensures, c.get_u64.ensures, c.if-get_u64-ne-OPTION_REPLY_MAGIC.false) refl)

pub returns-clause-reads_back : goal.returns-clause-reads_back
returns-clause-reads_back c reply rest fits same =
    let mine : OptionReply = record { option = c.get_u32.result; kind = c.get_u32-2.result; length = c.get_u32-3.result } in
    let mine_fits : FitsOptionReply mine = record { option = omega arith; kind = omega arith; length = omega arith } in
    ap Ok (option_reply_bytes-unique mine reply _ _ mine_fits fits (sym (returns-clause-ok c) ∙ same)).0
