-- The numbers were written one after the other, and the last one ends the bytes.
use Rattle.std.proofs.Common.{refl, sym, ◌∙◌, arith}
use Rattle.std.proofs.lemmas.List.{take_all}
use Rattle.nm_wire.specs.Layout.{simple_reply_bytes}
use Rattle.nm_wire.proofs.simple_reply.SimpleReply.put.Goals as goal

pub returns : goal.returns
unfolding simple_reply_bytes
returns c =
    sym (take_all 16 c.put_u64.new.bytes (omega arith))
    ∙ rw (c.put_u64.ensures.written, c.put_u32-2.ensures.written, c.put_u32.ensures.written) refl
