use Rattle.std.proofs.Common.{◌≡◌, ◌<◌, ℕ, None, length, slice_index}
use Rattle.nm_assemble.specs.Numbering.{AreApart, AreNumbers, number_of}
use Rattle.nm_assemble.proofs.numbering.leg_numbers.Given as goal

-- the legs so far have their numbers, and those that say none have numbers below the next one
abbrev pub invariant-legs : goal.invariant-legs
invariant-legs l =
    (length l.numbers ≡ 8) × AreApart 8 l.count l.said
    × AreNumbers l.leg l.count l.said l.numbers
    × ((leg : ℕ) → leg < l.leg → number_of leg l.said ≡ None
    → slice_index l.numbers leg < l.next)
