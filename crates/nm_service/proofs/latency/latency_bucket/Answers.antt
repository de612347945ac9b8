-- The number has one bit more than its highest power of two.
use Rattle.std.proofs.Common.{arith, ◌≡◌, ◌+◌, ◌-◌, ◌*◌, ◌<◌, ◌^◌}
use Rattle.std.proofs.lemmas.Grind.{pow_more}
use Rattle.nm_service.proofs.Powers.{power_below}
use Rattle.nm_service.proofs.latency.latency_bucket.Goals as goal

pub returns : goal.returns
returns c =
    let power = c.ilog2.result in
    let low = c.ilog2.ensures.power_le in
    let high = c.ilog2.ensures.next_power_gt in
    let few : power < 24 = power_below c.args.microseconds power low (omega (arith, c.if-microseconds-ge-LAST_FROM.false)) in
    let next : 2 ^ (power + 1) ≡ 2 ^ power * 2 = pow_more 2 power in
    let same : power + 1 - 1 ≡ power = omega arith in
    record {
      bound = omega arith;
      below = λ _. omega (arith, next, high);
      from = λ _. rw same low;
    }
