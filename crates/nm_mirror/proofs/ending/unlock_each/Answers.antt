-- The next lock has the number of its place.
use Rattle.std.proofs.Common.{◌≡◌, ◌++◌, ◌∷◌, [], rules}
use Rattle.nm_mirror.proofs.NumberLemmas.{one-locked}
use Rattle.nm_mirror.proofs.ending.unlock_each.Goals as goal

pub loop-lock-preserved : goal.loop-lock-preserved
loop-lock-preserved g c =
    let last : c.loop-lock.locks.items ≡ c.pop.new.self.items ++ c.in-Some.lock ∷ [] = search rules in (
      search rules,
      search rules,
      search rules,
      one-locked (λ one. one.number) (λ lock. lock.number) c.loop-lock.unlocked.items c.push_reserved.new.self.items c.unlock.result c.loop-lock.locks.items c.pop.new.self.items c.in-Some.lock
          _ c.loop-lock.invariant.3 last c.unlock.ensures c.push_reserved.ensures.items,
    )
