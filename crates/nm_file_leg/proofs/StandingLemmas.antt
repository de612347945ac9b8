-- A block that a call moved stands in its place, and so does a run of them.
use Rattle.std.proofs.Common.{◌≡◌, ℕ, ◌+◌, ◌-◌, List, length, ap, sym, ◌∙◌, arith}
use Rattle.std.specs.Prelude.{Some}
use Rattle.nm_leg.specs.Leg.{block_of, blocks_in}
use Rattle.nm_leg.proofs.RunLemmas.{holds-cut}
use Rattle.nm_geometry.specs.Geometry.{stripe_blocks}
use Rattle.nm_file_leg.specs.Medium.{window}
use Rattle.nm_file_leg.specs.Blocks.{blocks_from, bytes_at}
use Rattle.nm_file_leg.specs.Called.{MovesBlock}
use Rattle.nm_file_leg.specs.Standing.{Stand, RunsStand}
use Rattle.nm_file_leg.proofs.BlockLemmas.{get-blocks_from}
use Rattle.nm_file_leg.proofs.WindowLemmas.{window-inside}

block-stands : (moved : ℕ → List ℕ → Type 0) (contents : List ℕ) → Stand moved contents → (place : ℕ) (block : List ℕ) → MovesBlock moved place block → window place 512 contents ≡ block
block-stands moved contents stand place block m =
    let e : m.from + (place - m.from) ≡ place = omega (arith, m.above) in
    ap (λ (k : ℕ). window k 512 contents) (sym e)
    ∙ sym (window-inside m.from (length m.all) (place - m.from) 512 contents (omega (arith, m.above, m.below)))
    ∙ ap (λ (ys : List ℕ). window (place - m.from) 512 ys) (stand m.from m.all m.call)
    ∙ m.is

pub runs-stand : {M : Type 0} (moved : M → ℕ → List ℕ → Type 0) → RunsStand moved
runs-stand moved medium contents s p at bytes stand inside moves =
    holds-cut (blocks_in bytes) at bytes (blocks_from s p 0 (stripe_blocks s p) contents) (λ i below.
    let e : 0 + (at + i) ≡ at + i = omega arith in
    get-blocks_from s p 0 (stripe_blocks s p) (at + i) contents (omega (arith, below, inside)) ∙ ap (λ (k : ℕ). Some (block_of (bytes_at s p k contents))) e
    ∙ ap (λ (b : List ℕ). Some (block_of b)) (block-stands (moved medium) contents stand _ _ (moves i below)))
