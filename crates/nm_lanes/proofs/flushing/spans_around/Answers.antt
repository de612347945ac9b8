-- Stripes that follow one another in turn are those of two runs.
use Rattle.std.proofs.Common.{rules, arith, ◌≡◌, ◌+◌, ◌-◌, ◌%◌, min, ap}
use Rattle.nm_lanes.proofs.SpanLemmas.{around-spans, spans-around}
use Rattle.nm_lanes.proofs.flushing.spans_around.Goals as goal

pub returns-clause-some : goal.returns-clause-some
returns-clause-some c =
    let shape = c.args.shape.now in
    let stripes : c.shape.inside.stripes ≡ shape.stripes = search rules in
    let start = c.args.region % c.shape.inside.stripes in
    let start_is : start ≡ c.args.region % shape.stripes = ap (λ n. c.args.region % n) stripes in
    let low : c.saturating_sub.result ≡ start + c.args.count - shape.stripes = search (rules, stripes) in
    let end : c.min.result ≡ min (start + c.args.count) shape.stripes = search (rules, stripes) in
    λ stripe a. around-spans shape c.args.region c.args.count start c.saturating_sub.result c.min.result stripe (omega (arith, c.requires.geometry.some_stripes)) c.requires.few start_is low end a

pub returns-clause-only : goal.returns-clause-only
returns-clause-only c =
    let shape = c.args.shape.now in
    let stripes : c.shape.inside.stripes ≡ shape.stripes = search rules in
    let start = c.args.region % c.shape.inside.stripes in
    let start_is : start ≡ c.args.region % shape.stripes = ap (λ n. c.args.region % n) stripes in
    let low : c.saturating_sub.result ≡ start + c.args.count - shape.stripes = search (rules, stripes) in
    let end : c.min.result ≡ min (start + c.args.count) shape.stripes = search (rules, stripes) in
    λ stripe a. spans-around shape c.args.region c.args.count start c.saturating_sub.result c.min.result stripe (omega (arith, c.requires.geometry.some_stripes)) c.requires.few start_is low end a
