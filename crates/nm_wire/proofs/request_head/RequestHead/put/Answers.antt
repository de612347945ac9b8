-- The numbers were written one after the other, and the last one ends the bytes.
use Rattle.std.proofs.Common.{refl, sym, ◌∙◌, arith}
use Rattle.std.proofs.lemmas.List.{take_all}
use Rattle.nm_wire.specs.Layout.{request_head_bytes}
use Rattle.nm_wire.proofs.request_head.RequestHead.put.Goals as goal

pub returns : goal.returns
unfolding request_head_bytes
returns c =
    sym (take_all 28 c.put_u32-2.new.bytes (omega arith))
    ∙ rw (c.put_u32-2.ensures.written, c.put_u64-2.ensures.written, c.put_u64.ensures.written, c.put_u16-2.ensures.written, c.put_u16.ensures.written, c.put_u32.ensures.written) refl
