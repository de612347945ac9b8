-- The numbers that were read follow one another; any header that the bytes begin with is this one.
use Rattle.std.proofs.Common.{take, Ok, refl, sym, ap, ◌∙◌, arith, lit<}
use Rattle.nm_wire.specs.Number.{request_magic}
use Rattle.nm_wire.specs.Layout.{FitsRequestHead, request_head_bytes}
use Rattle.nm_wire.specs.declared.request_head.RequestHead.{RequestHead}
use Rattle.nm_wire.proofs.Heads.{no-shorter, other-magic, first-ones, length-request_head_bytes, request_head_bytes-magic, request_head_bytes-unique}
use Rattle.nm_wire.proofs.request_head.RequestHead.get.Goals as goal

pub returns-then-bytes-lt28-clause-reads_back : goal.returns-then-bytes-lt28-clause-reads_back
returns-then-bytes-lt28-clause-reads_back c head rest fits same =
    absurd (omega (arith, no-shorter _ (request_head_bytes head) rest same, length-request_head_bytes head))

pub returns-then-get_u32-ne-REQUEST_MAGIC-clause-reads_back :
    goal.returns-then-get_u32-ne-REQUEST_MAGIC-clause-reads_back
returns-then-get_u32-ne-REQUEST_MAGIC-clause-reads_back c head rest fits same =
    absurd (other-magic 4 c.get_u32.result request_magic c.args.bytes.now (omega arith) (lit< tt)
    c.get_u32.ensures c.if-get_u32-ne-REQUEST_MAGIC.true (ap (take 4) same ∙ request_head_bytes-magic head rest))

pub returns-then-get_u32-ne-REQUEST_MAGIC-clause-magic :
    goal.returns-then-get_u32-ne-REQUEST_MAGIC-clause-magic
returns-then-get_u32-ne-REQUEST_MAGIC-clause-magic c = (
  (λ refused. (
    c.if-bytes-lt28.false,
    other-magic 4 c.get_u32.result request_magic c.args.bytes.now
        (omega arith) (lit< tt) c.get_u32.ensures c.if-get_u32-ne-REQUEST_MAGIC.true,
  )),
  (λ cause. refl),
)

pub returns-clause-ok : goal.returns-clause-ok
unfolding request_head_bytes
returns-clause-ok c = first-ones 28 c.args.bytes.now _
    (rw (c.get_u32-2.ensures, c.get_u64-2.ensures, c.get_u64.ensures, c.get_u16-2.ensures, c.get_u16.ensures, c.get_u32.ensures, c.if-get_u32-ne-REQUEST_MAGIC.false) refl)

pub returns-clause-reads_back : goal.returns-clause-reads_back
returns-clause-reads_back c head rest fits same =
    let mine : RequestHead = record { flags = record { 0 = c.get_u16.result }; kind = c.get_u16-2.result; cookie = c.get_u64.result; offset = c.get_u64-2.result; length = c.get_u32-2.result } in
    let mine_fits : FitsRequestHead mine = record { flags = omega arith; kind = omega arith; cookie = omega arith; offset = omega arith; length = omega arith } in
    ap Ok (request_head_bytes-unique mine head _ _ mine_fits fits (sym (returns-clause-ok c) ∙ same)).0
