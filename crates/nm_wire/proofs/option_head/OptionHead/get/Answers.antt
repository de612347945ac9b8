-- The numbers that were read follow one another; any header that the bytes begin with is this one.
use Rattle.std.proofs.Common.{take, Ok, refl, sym, ap, ◌∙◌, arith, lit<}
use Rattle.nm_wire.specs.Number.{option_magic}
use Rattle.nm_wire.specs.Layout.{FitsOptionHead, option_head_bytes}
use Rattle.nm_wire.specs.declared.option_head.OptionHead.{OptionHead}
use Rattle.nm_wire.proofs.Heads.{no-shorter, other-magic, first-ones, length-option_head_bytes, option_head_bytes-magic, option_head_bytes-unique}
use Rattle.nm_wire.proofs.option_head.OptionHead.get.Goals as goal

pub returns-then-bytes-lt16-clause-reads_back : goal.returns-then-bytes-lt16-clause-reads_back
returns-then-bytes-lt16-clause-reads_back c head rest fits same =
    absurd (omega (arith, no-shorter _ (option_head_bytes head) rest same, length-option_head_bytes head))

pub returns-then-get_u64-ne-OPTION_MAGIC-clause-reads_back :
    goal.returns-then-get_u64-ne-OPTION_MAGIC-clause-reads_back
returns-then-get_u64-ne-OPTION_MAGIC-clause-reads_back c head rest fits same =
    absurd (other-magic 8 c.get_u64.result option_magic c.args.bytes.now (omega arith) (lit< tt)
    c.get_u64.ensures c.if-get_u64-ne-OPTION_MAGIC.true (ap (take 8) same ∙ option_head_bytes-magic head rest))

pub returns-then-get_u64-ne-OPTION_MAGIC-clause-magic :
    goal.returns-then-get_u64-ne-OPTION_MAGIC-clause-magic
returns-then-get_u64-ne-OPTION_MAGIC-clause-magic c = (
  (λ refused. (
    c.if-bytes-lt16.false,
    other-magic 8 c.get_u64.result option_magic c.args.bytes.now
        (omega arith) (lit< tt) c.get_u64.ensures c.if-get_u64-ne-OPTION_MAGIC.true,
  )),
  (λ cause. refl),
)

pub returns-clause-ok : goal.returns-clause-ok
unfolding option_head_bytes
returns-clause-ok c = first-ones 16 c.args.bytes.now _
    (rw (c.get_u32-2.ensures, c.get_u32.ensures, c.get_u64.ensures, c.if-get_u64-ne-OPTION_MAGIC.false) refl)

pub returns-clause-reads_back : goal.returns-clause-reads_back
returns-clause-reads_back c head rest fits same =
    let mine : OptionHead = record { option = c.get_u32.result; length = c.get_u32-2.result } in
    let mine_fits : FitsOptionHead mine = record { option = omega arith; length = omega arith } in
    ap Ok (option_head_bytes-unique mine head _ _ mine_fits fits (sym (returns-clause-ok c) ∙ same)).0
