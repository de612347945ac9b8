-- The regions that the run lies in decide.
use Rattle.std.proofs.Common.{rules, refl, ap, ◌+◌, ◌-◌, ◌/◌, ◌≡◌, ℕ, ◌<◌, ◌≤◌, Bool, true, false, sym, ◌∙◌, subst, arith}
use Rattle.nm_leg.specs.Leg.{is_marked_in}
use Rattle.nm_file_leg.specs.FileLeg.{written_from}
use Rattle.nm_file_leg.specs.Remembered.{Remembered, WritesNone, WritesOne}
use Rattle.nm_file_leg.proofs.MarkLemmas.{marked-none, marked-some}
use Rattle.nm_file_leg.proofs.region_writes.RegionWrites.are_written.Goals as goal

pub returns : goal.returns
returns c =
    let memory = c.args.self.now in
    let some : 1 ≤ memory.region = subst (λ (m : Remembered). 1 ≤ m.region) c.self.view_is c.self.invariant.some in
    let more : 0 < c.args.count = search rules in
    let size : c.self.inside.region ≡ memory.region = ap (λ (m : Remembered). m.region) c.self.view_is in
    let decides : (b : Bool) → c.is_one_written.result ≡ b → b ≡ is_marked_in c.args.at c.args.count (written_from memory memory.blocks 0) =
    λ b. elim b as (λ d. c.is_one_written.result ≡ d → d ≡ is_marked_in c.args.at c.args.count (written_from memory memory.blocks 0)) [
      | true ↦ λ is. sym (marked-some memory some memory.blocks c.args.at c.args.count c.requires.inside more (subst (λ (n : ℕ). WritesOne (c.args.at / n) ((c.args.at + c.args.count - 1) / n + 1) memory) size (c.is_one_written.ensures.some is)))
      | false ↦ λ is. sym (marked-none memory some memory.blocks c.args.at c.args.count c.requires.inside more (subst (λ (n : ℕ). WritesNone (c.args.at / n) ((c.args.at + c.args.count - 1) / n + 1) memory) size (c.is_one_written.ensures.none is)))
    ] in
    decides c.is_one_written.result refl
