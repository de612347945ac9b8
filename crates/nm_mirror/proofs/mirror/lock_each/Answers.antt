-- The next stripe has the number of its lock's place, which is that of the next keeper.
use Rattle.std.proofs.Common.{◌≡◌, ◌++◌, ◌∷◌, [], length, map, vec_len, sym, ap, ◌∙◌, rules}
use Rattle.nm_mirror.proofs.NumberLemmas.{next-number, one-locked}
use Rattle.nm_mirror.proofs.mirror.lock_each.Goals as goal

pub new-requires-clause-own : goal.new-requires-clause-own
new-requires-clause-own g c =
    let long : length c.loop-gated.locks.items ≡ vec_len c.loop-gated.locks = search rules in
    let last : c.loop-gated.rest.items ≡ c.pop.new.self.items ++ c.in-Some.gated ∷ [] = search rules in
    let number = next-number (λ lock. lock.number) (λ gated. gated.stripe.place.stripe) c.loop-gated.locks.items c.loop-gated.rest.items c.pop.new.self.items c.in-Some.gated
    (map (λ gated. gated.stripe.place.stripe) c.args.stripes.items) c.loop-gated.invariant.3 last c.requires.in_order in
    ap (λ keeper. keeper.shard) c.keeper-keeper.ensures.keeper ∙ c.loop-gated.invariant.4 ∙ sym long ∙ sym number

pub loop-gated-preserved : goal.loop-gated-preserved
loop-gated-preserved g c =
    let last : c.loop-gated.rest.items ≡ c.pop.new.self.items ++ c.in-Some.gated ∷ [] = search rules in (
      search rules,
      search rules,
      search rules,
      one-locked (λ lock. lock.number) (λ gated. gated.stripe.place.stripe) c.loop-gated.locks.items c.push_reserved.new.self.items c.new.result c.loop-gated.rest.items c.pop.new.self.items c.in-Some.gated
          (map (λ gated. gated.stripe.place.stripe) c.args.stripes.items) c.loop-gated.invariant.3 last c.new.ensures c.push_reserved.ensures.items,
      search rules,
    )
