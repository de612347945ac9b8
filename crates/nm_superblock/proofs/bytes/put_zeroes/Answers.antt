use Rattle.std.proofs.Common.{ℕ, replicate, ap, ◌∙◌}
use Rattle.std.proofs.lemmas.List.{length-replicate}
use Rattle.nm_superblock.specs.Layout.{zeroes}
use Rattle.nm_superblock.proofs.Writing.{length-part, take-part}
use Rattle.nm_superblock.proofs.bytes.put_zeroes.Goals as goal

pub returns : goal.returns
unfolding zeroes
returns c =
    take-part c.args.count c.args.at c.args.bytes.now c.fill.new.self (replicate c.args.count 0) c.requires
    (length-replicate c.args.count 0)
    (c.fill.ensures.after (λ y is. is) ∙ ap (λ (n : ℕ). replicate n 0) (length-part c.args.count c.args.at c.args.bytes.now c.requires))
