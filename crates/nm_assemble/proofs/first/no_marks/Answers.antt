-- No bit of 0 is set.
use Rattle.std.proofs.Common.{◌∙◌, ◌/◌, ◌%◌, ℕ, ap, sym, arith}
use Rattle.std.specs.Int.{bit_at}
use Rattle.std.proofs.lemmas.List.{get_or-replicate}
use Rattle.std.proofs.lemmas.Nat.Bits.{bit_at-zero}
use Rattle.nm_assemble.proofs.first.no_marks.Goals as goal

pub returns : goal.returns
returns c span below is =
    let zero = ap (λ (n : ℕ). bit_at n (span % 8))
    (get_or-replicate 2048 (span / 8) 0 0 (omega (arith, below))) ∙ bit_at-zero (span % 8) in
    absurd (omega (arith, sym zero ∙ is))
