-- The numbers that were read follow one another; any header that the bytes begin with is this one.
use Rattle.std.proofs.Common.{take, Ok, refl, sym, ap, ◌∙◌, arith, lit<}
use Rattle.nm_wire.specs.Number.{simple_reply_magic}
use Rattle.nm_wire.specs.Layout.{FitsSimpleReply, simple_reply_bytes}
use Rattle.nm_wire.specs.declared.simple_reply.SimpleReply.{SimpleReply}
use Rattle.nm_wire.proofs.Heads.{no-shorter, other-magic, first-ones, length-simple_reply_bytes, simple_reply_bytes-magic, simple_reply_bytes-unique}
use Rattle.nm_wire.proofs.simple_reply.SimpleReply.get.Goals as goal

pub returns-then-bytes-lt16-clause-reads_back : goal.returns-then-bytes-lt16-clause-reads_back
returns-then-bytes-lt16-clause-reads_back c reply rest fits same =
    absurd (omega (arith, no-shorter _ (simple_reply_bytes reply) rest same, length-simple_reply_bytes reply))

pub returns-then-get_u32-ne-SIMPLE_REPLY_MAGIC-clause-reads_back :
    goal.returns-then-get_u32-ne-SIMPLE_REPLY_MAGIC-clause-reads_back
returns-then-get_u32-ne-SIMPLE_REPLY_MAGIC-clause-reads_back c reply rest fits same =
    absurd (other-magic 4 c.get_u32.result simple_reply_magic c.args.bytes.now (omega arith) (lit< tt)
    c.get_u32.ensures c.if-get_u32-ne-SIMPLE_REPLY_MAGIC.true (ap (take 4) same ∙ simple_reply_bytes-magic reply rest))

pub returns-then-get_u32-ne-SIMPLE_REPLY_MAGIC-clause-magic :
    goal.returns-then-get_u32-ne-SIMPLE_REPLY_MAGIC-clause-magic
returns-then-get_u32-ne-SIMPLE_REPLY_MAGIC-clause-magic c = (
  (λ refused. (
    c.if-bytes-lt16.false,
    other-magic 4 c.get_u32.result simple_reply_magic c.args.bytes.now
        (omega arith) (lit< tt) c.get_u32.ensures c.if-get_u32-ne-SIMPLE_REPLY_MAGIC.true,
  )),
  (λ cause. refl),
)

pub returns-clause-ok : goal.returns-clause-ok
unfolding simple_reply_bytes
returns-clause-ok c = first-ones 16 c.args.bytes.now _
    (rw (c.get_u64.ensures, c.get_u32-2.ensures, c.get_u32.ensures, c.if-get_u32-ne-SIMPLE_REPLY_MAGIC.false) refl)

pub returns-clause-reads_back : goal.returns-clause-reads_back
returns-clause-reads_back c reply rest fits same =
    let mine : SimpleReply = record { error = c.get_u32-2.result; cookie = c.get_u64.result } in
    let mine_fits : FitsSimpleReply mine = record { error = omega arith; cookie = omega arith } in
    ap Ok (simple_reply_bytes-unique mine reply _ _ mine_fits fits (sym (returns-clause-ok c) ∙ same)).0
