-- The check stands behind the number, and the stamp ends the header.
use Rattle.std.proofs.Common.{ℕ, List, [], ◌∷◌, ◌++◌, sym, ap, ◌∙◌, arith}
use Rattle.std.proofs.lemmas.List.{take_all}
use Rattle.nm_superblock.specs.Layout.{be, header_bytes}
use Rattle.nm_superblock.proofs.sectors.header.Goals as goal

pub returns : goal.returns
unfolding header_bytes
returns c =
    let start : List ℕ = 0x4e ∷ 0x4d ∷ 0x52 ∷ 0x53 ∷ c.args.version ∷ c.args.number ∷ [] in
    sym (take_all 16 c.put_u64.new.bytes (omega arith))
    ∙ c.put_u64.ensures
    ∙ ap (λ (xs : List ℕ). xs ++ be 8 c.args.generation) c.put_u16.ensures
    ∙ ap (λ (n : ℕ). start ++ be 2 n ++ be 8 c.args.generation) c.check.ensures
