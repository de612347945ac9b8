-- The check is the remainder of the header's other bytes.
use Rattle.std.proofs.Common.{◌≡◌, true, false, nat_lt, refl, arith}
use Rattle.std.proofs.lemmas.Bool.Decides.{nat_tests}
use Rattle.nm_superblock.specs.Layout.{check_of}
use Rattle.nm_superblock.proofs.sectors.check.Goals as goal

pub returns-then-version-lt3 : goal.returns-then-version-lt3
unfolding check_of
returns-then-version-lt3 c =
    let old : nat_lt c.args.version 3 ≡ true = grind (arith, nat_tests) in
    rw old refl

pub returns : goal.returns
unfolding check_of
returns c =
    let old : nat_lt c.args.version 3 ≡ false = grind (arith, nat_tests) in
    rw (old, c.from.ensures, c.from-2.ensures, c.from-3.ensures) refl
