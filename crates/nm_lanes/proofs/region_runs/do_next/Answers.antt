-- The round's runs are the next ones, and its lanes are some of all.
use Rattle.std.proofs.Common.{rules, arith, ◌≡◌, ◌≤◌, ◌++◌, Bool, List, length, take, sym, ap, ◌∙◌, subst}
use Rattle.std.proofs.Math.Seq.{take-append_seam}
use Rattle.std.proofs.lemmas.List.{drop_at}
use Rattle.nm_lanes.specs.declared.piece_range.PieceRange.{PieceRange}
use Rattle.nm_lanes.specs.declared.run_write.RunWrite.{RunWrite}
use Rattle.nm_lanes.specs.Fillings.{cuts_of, filling, target_of, IsPieceRange}
use Rattle.nm_lanes.specs.PieceRanges.{first_of, rest_of}
use Rattle.nm_lanes.specs.RegionRuns.{HasDone}
use Rattle.nm_lanes.proofs.PieceRangeLemmas.{cuts-fit, filling-split, first-piece_range, parts, rest-piece_range, targets-add}
use Rattle.nm_lanes.proofs.RunAllLemmas.{round-ended}
use Rattle.nm_lanes.proofs.region_runs.do_next.Goals as goal

pub split_at_mut-own-requires : goal.split_at_mut-own-requires
split_at_mut-own-requires g c =
    let shape = c.args.call.now.caller.now.shape.now in
    let pieces = c.args.pieces in
    let next = c.next_region-region in
    let done = next.result.pieces.count in
    let part = parts shape pieces done next.ensures.most next.ensures.ends in
    let fits : cuts_of shape (first_of done pieces) ≤ length c.args.cuts.now = cuts-fit shape pieces done c.args.cuts.now part c.requires.pieces in
    let cuts = ap (λ (p : PieceRange). cuts_of shape p) next.ensures.pieces in
    omega (arith, fits, cuts, c.cuts_of.ensures)

pub split_at_mut-near-requires : goal.split_at_mut-near-requires
split_at_mut-near-requires g c =
    let next = c.next_region-region in
    let both = targets-add c.args.pieces next.result.pieces.count next.ensures.most in
    let target = ap (λ (p : PieceRange). target_of p) next.ensures.pieces in
    omega (arith, both, target, c.target_of.ensures, c.requires.target)

pub do_stripe-requires-clause-pieces : goal.do_stripe-requires-clause-pieces
do_stripe-requires-clause-pieces g c =
    let shape = c.args.call.now.caller.now.shape.now in
    let next = c.next_region-region in
    let own = c.split_at_mut-own in
    let part = parts shape c.args.pieces next.result.pieces.count next.ensures.most next.ensures.ends in
    let cuts = ap (λ (p : PieceRange). cuts_of shape p) next.ensures.pieces in
    let all = subst (λ (p : PieceRange). IsPieceRange shape p own.result.0.now) (sym next.ensures.pieces)
    (first-piece_range shape c.args.pieces next.result.pieces.count c.args.cuts.now own.result.0.now own.result.1.now next.ensures.most part own.ensures.value (own.ensures.front_len ∙ c.cuts_of.ensures ∙ cuts) c.requires.pieces) in
    search (rules, all)

pub returns-in-Ok-clause-ok : goal.returns-in-Ok-clause-ok
returns-in-Ok-clause-ok g c =
    let shape = c.args.call.now.caller.now.shape.now in
    let pieces = c.args.pieces in
    let next = c.next_region-region in
    let done = next.result.pieces.count in
    let own = c.split_at_mut-own in
    let near = c.split_at_mut-near in
    let front = c.split_at_mut-rest in
    let lane = c.split_at_mut-lane in
    let new = c.do_stripe.new.into in
    let part = parts shape pieces done next.ensures.most next.ensures.ends in
    let long = own.ensures.front_len ∙ c.cuts_of.ensures ∙ ap (λ (p : PieceRange). cuts_of shape p) next.ensures.pieces in
    let same : length c.do_stripe.new.cuts ≡ length own.result.0.now = search rules in
    let left = drop_at c.do_stripe.new.cuts own.result.1.now (cuts_of shape (first_of done pieces)) (same ∙ long) in
    let split = filling-split shape pieces done c.args.cuts.now own.result.0.now own.result.1.now part own.ensures.value in
    let now : filling shape (first_of done pieces) own.result.0.now ≡ filling shape next.result.pieces own.result.0.now = ap (λ (p : PieceRange). filling shape p own.result.0.now) (sym next.ensures.pieces) in
    let whole = front.ensures.value ∙ ap (λ ls. front.result.0.now ++ ls) lane.ensures.value in
    let lanes = front.result.0.now ++ (lane.result.0.now ++ lane.result.1.now) in
    let after = front.result.0.now ++ (c.do_stripe.new.lanes ++ lane.result.1.now) in
    let writes = filling shape next.result.pieces own.result.0.now in
    let bytes = near.ensures.front_len ∙ c.target_of.ensures ∙ ap (λ (p : PieceRange). target_of p) next.ensures.pieces in
    let filled : length new ≡ length near.result.0.now = search rules in
    let target : take (target_of (first_of done pieces)) (new ++ near.result.1.now) ≡ new = ap (λ n. take n (new ++ near.result.1.now)) (sym (filled ∙ bytes)) ∙ take-append_seam new near.result.1.now in
    let kind = ap (λ (p : PieceRange). p.is_read) next.ensures.pieces in
    let does = subst (λ (r : Bool). HasDone g.D.Lane.follows shape r writes (lanes, after) new) kind (c.in-Ok.ensures.does.all front.result.0.now lane.result.1.now front.ensures.front_len) in
    record {
      now = writes;
      some = next.ensures.region.some;
      most = next.ensures.most;
      ends = next.ensures.ends;
      split = split ∙ ap (λ (ws : List RunWrite). ws ++ filling shape (rest_of done pieces) own.result.1.now) now ∙ ap (λ (ws : List RunWrite). writes ++ filling shape (rest_of done pieces) ws) (sym left);
      does = rw (target, whole) does;
      rest = subst (λ (ws : List RunWrite). IsPieceRange shape (rest_of done pieces) ws) (sym left) (rest-piece_range shape pieces done c.args.cuts.now own.result.0.now own.result.1.now next.ensures.most part own.ensures.value long c.requires.pieces);
    }

pub returns-in-Err-clause-err : goal.returns-in-Err-clause-err
returns-in-Err-clause-err g c =
    let laws = g.met.D.Lane in
    let shape = c.args.call.now.caller.now.shape.now in
    let pieces = c.args.pieces in
    let next = c.next_region-region in
    let done = next.result.pieces.count in
    let own = c.split_at_mut-own in
    let part = parts shape pieces done next.ensures.most next.ensures.ends in
    let front = c.split_at_mut-rest in
    let lane = c.split_at_mut-lane in
    let split = filling-split shape pieces done c.args.cuts.now own.result.0.now own.result.1.now part own.ensures.value in
    let now : filling shape (first_of done pieces) own.result.0.now ≡ filling shape next.result.pieces own.result.0.now = ap (λ (p : PieceRange). filling shape p own.result.0.now) (sym next.ensures.pieces) in
    let all_are = split ∙ ap (λ (ws : List RunWrite). ws ++ filling shape (rest_of done pieces) own.result.1.now) now in
    let whole = front.ensures.value ∙ ap (λ ls. front.result.0.now ++ ls) lane.ensures.value in
    let kind = ap (λ (p : PieceRange). p.is_read) next.ensures.pieces in
    rw (all_are, whole, ← kind) (round-ended g.D.Lane.follows laws.stays shape next.result.pieces.is_read (filling shape next.result.pieces own.result.0.now) (filling shape (rest_of done pieces) own.result.1.now) c.in-Err.cause next.result.stripe front.result.0.now lane.result.0.now c.do_stripe.new.lanes lane.result.1.now
    front.ensures.front_len c.in-Err.ensures.does.all c.in-Err.ensures.does.each)
