use Rattle.std.proofs.Common.{ℕ, ◌*◌, ◌-◌, ◌/◌, ◌%◌, ◌^◌, bit_and, get_or, set, refl, arith}
use Rattle.std.proofs.Math.Nat.{mod-lt}
use Rattle.std.specs.Int.{w8}
use Rattle.std.proofs.lemmas.Nat.Bits.{bit_at_clear_other, bit_at_clear_same}
use Rattle.nm_superblock.specs.declared.span_map.SpanMap.{SpanMap}
use Rattle.nm_superblock.proofs.Marks.{sets-mark}
use Rattle.nm_superblock.proofs.span_map.SpanMap.unmark.Goals as goal

pub returns : goal.returns
returns c =
    let byte : ℕ = get_or c.args.self.now.bytes (c.args.span / 8) 0 in
    let bit : ℕ = c.args.span % 8 in
    let value : ℕ = bit_and byte (255 - 1 * 2 ^ bit % 256) in
    let new : SpanMap = record { bytes = set c.args.self.now.bytes (c.args.span / 8) value } in
    sets-mark c.args.span 0 value c.args.self.now new (omega arith) refl
    (bit_at_clear_same w8 byte bit (mod-lt c.args.span (omega arith)))
    (λ i below differs. bit_at_clear_other w8 byte bit (mod-lt c.args.span (omega arith)) i below differs)
