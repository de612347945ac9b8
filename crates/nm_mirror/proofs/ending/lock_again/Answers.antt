-- The next lock has the number of its place.
use Rattle.std.proofs.Common.{◌≡◌, ◌++◌, ◌∷◌, [], rules}
use Rattle.nm_mirror.proofs.NumberLemmas.{one-locked}
use Rattle.nm_mirror.proofs.ending.lock_again.Goals as goal

pub loop-one-preserved : goal.loop-one-preserved
loop-one-preserved g c =
    let last : c.loop-one.rest.items ≡ c.pop.new.self.items ++ c.in-Some.one ∷ [] = search rules in (
      search rules,
      search rules,
      one-locked (λ lock. lock.number) (λ one. one.number) c.loop-one.locks.items c.push_reserved.new.self.items c.lock.result c.loop-one.rest.items c.pop.new.self.items c.in-Some.one
          _ c.loop-one.invariant.2 last c.lock.ensures c.push_reserved.ensures.items,
    )
