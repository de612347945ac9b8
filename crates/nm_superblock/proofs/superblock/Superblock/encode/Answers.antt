use Rattle.std.proofs.Common.{List, ℕ, ap, ◌∙◌}
use Rattle.nm_superblock.specs.Layout.{sectors_bytes, slot_bytes}
use Rattle.nm_superblock.proofs.superblock.Superblock.encode.Goals as goal

pub returns : goal.returns
unfolding slot_bytes
returns c = c.write_sectors.ensures ∙ ap (λ (payload : List ℕ). sectors_bytes c.args.self.now.version c.args.self.now.generation 8 payload) c.put.ensures
