-- One round more, or the end in one.
use Rattle.std.proofs.Common.{rules, ◌≡◌, ◌+◌, ◌-◌, ◌≤◌, List, length, take, drop, refl, sym, ap, ◌∙◌, subst, arith}
use borrow.Rule.Slice.PartMut.{put_mid}
use Rattle.std.proofs.lemmas.List.{take_all, take_rest, drop-drop, length-drop}
use Rattle.nm_lanes.specs.declared.piece_range.PieceRange.{PieceRange}
use Rattle.nm_lanes.specs.declared.run_write.RunWrite.{RunWrite}
use Rattle.nm_lanes.specs.Fillings.{cuts_of, filling, target_of}
use Rattle.nm_lanes.specs.PieceRanges.{first_of}
use Rattle.nm_lanes.specs.RegionRuns.{DoesNext, HasDoneSome}
use Rattle.nm_lanes.proofs.PieceRangeLemmas.{cuts-fit, parts, rest-written, target-none, targets-add}
use Rattle.nm_lanes.proofs.RunAllLemmas.{all-begins, all-done, all-more, all-ended, taken-more}
use Rattle.nm_lanes.proofs.region_runs.do_all.Goals as goal

pub loop-left-init : goal.loop-left-init
loop-left-init g c =
    let laws = g.met.D.Lane in
    record {
      far = all-begins g.D.Lane.follows laws.stays c.args.call.now.caller.now.shape.now c.args.pieces c.args.cuts.now c.args.lanes.now c.requires.pieces;
      read = refl;
      taken = omega arith;
      target = omega (arith, c.requires.target);
      long = refl;
      lanes = refl;
    }

pub returns-in_err-done-clause-err : goal.returns-in_err-done-clause-err
returns-in_err-done-clause-err g c =
    let laws = g.met.D.Lane in
    let shape = c.args.call.now.caller.now.shape.now in
    let loop = c.loop-left in
    let slice = take_rest loop.cuts loop.taken in
    let ended = subst (λ (ws : List RunWrite). HasDoneSome g.D.Lane.follows shape loop.left.is_read (filling shape loop.left ws) (loop.lanes, c.do_next.new.lanes) c.in_err-done.field-0.0) slice c.in_err-done.ensures.err in
    let all = all-ended g.D.Lane.follows laws.joins shape c.args.pieces.is_read (filling shape c.args.pieces c.args.cuts.now) loop.left (drop loop.taken loop.cuts) (take loop.from loop.into) c.args.lanes.now loop.lanes c.do_next.new.lanes c.in_err-done.field-0.0 loop.invariant.read loop.invariant.far ended in
    search (rules, all)

pub loop-left-preserved : goal.loop-left-preserved
loop-left-preserved g c =
    let laws = g.met.D.Lane in
    let loop = c.loop-left in
    let shape = c.args.call.now.caller.now.shape.now in
    let done = c.in_ok-done.done in
    let new = c.do_next.new.cuts in
    let count = length loop.cuts - loop.taken in
    let written = put_mid loop.taken count loop.cuts new in
    let room = length loop.into - loop.from in
    let last = c.do_next.new.into in
    let into = put_mid loop.from room loop.into last in
    let ok : DoesNext g.D.Lane.follows shape loop.left (take count (drop loop.taken loop.cuts), new) (loop.lanes, c.do_next.new.lanes) last done = search rules in
    let does = subst (λ (ws : List RunWrite). DoesNext g.D.Lane.follows shape loop.left (ws, new) (loop.lanes, c.do_next.new.lanes) last done) (take_rest loop.cuts loop.taken) ok in
    let long : length new ≡ count = search rules in
    let all : length written ≡ length loop.cuts = search rules in
    let behind : drop loop.taken written ≡ new = rest-written loop.taken loop.cuts new loop.invariant.taken long in
    let cuts : c.cuts_of-taken.result ≡ cuts_of shape (first_of done loop.left) = c.cuts_of-taken.ensures ∙ ap (λ (p : PieceRange). cuts_of shape p) c.first_of-first.ensures in
    let cut : drop (loop.taken + c.cuts_of-taken.result) written ≡ drop (cuts_of shape (first_of done loop.left)) new =
    sym (drop-drop c.cuts_of-taken.result loop.taken written) ∙ ap (λ (ws : List RunWrite). drop c.cuts_of-taken.result ws) behind ∙ ap (λ n. drop n new) cuts in
    let fits = cuts-fit shape loop.left done (drop loop.taken loop.cuts) (parts shape loop.left done does.most does.ends) loop.invariant.far.rest in
    let left = length-drop loop.taken loop.cuts in
    let target : c.target_of-from.result ≡ target_of (first_of done loop.left) = c.target_of-from.ensures ∙ ap (λ (p : PieceRange). target_of p) c.first_of-first.ensures in
    let both = targets-add loop.left done does.most in
    let wide : length last ≡ room = search rules in
    let same : length into ≡ length loop.into = search rules in
    let found = taken-more loop.from (target_of (first_of done loop.left)) loop.into last (omega (arith, loop.invariant.target)) (omega (arith, wide, both, loop.invariant.target)) in
    record {
      far = rw (cut, target, c.rest_of-left.ensures) (all-more g.D.Lane.follows laws.joins shape c.args.pieces.is_read (filling shape c.args.pieces c.args.cuts.now) loop.left (drop loop.taken loop.cuts) new (take loop.from loop.into) last (take (loop.from + target_of (first_of done loop.left)) into) c.args.lanes.now loop.lanes c.do_next.new.lanes done loop.invariant.read found loop.invariant.far does);
      read = rw c.rest_of-left.ensures loop.invariant.read;
      taken = omega (arith, all, fits, left, cuts, loop.invariant.taken);
      target = rw c.rest_of-left.ensures (omega (arith, same, target, both, loop.invariant.target));
      long = same ∙ loop.invariant.long;
      lanes = search rules;
    }

pub overflow_add-taken : goal.overflow_add-taken
overflow_add-taken g c =
    let loop = c.loop-left in
    let shape = c.args.call.now.caller.now.shape.now in
    let done = c.in_ok-done.done in
    let ok : DoesNext g.D.Lane.follows shape loop.left (take (length loop.cuts - loop.taken) (drop loop.taken loop.cuts), c.do_next.new.cuts) (loop.lanes, c.do_next.new.lanes) c.do_next.new.into done = search rules in
    let fits = cuts-fit shape loop.left done (drop loop.taken loop.cuts) (parts shape loop.left done ok.most ok.ends) loop.invariant.far.rest in
    let cuts = c.cuts_of-taken.ensures ∙ ap (λ (p : PieceRange). cuts_of shape p) c.first_of-first.ensures in
    let left = length-drop loop.taken loop.cuts in
    let sum : loop.taken + c.cuts_of-taken.result ≤ length loop.cuts = omega (arith, fits, cuts, left, loop.invariant.taken) in
    search (rules, sum)

pub returns-clause-ok : goal.returns-clause-ok
returns-clause-ok g c =
    let shape = c.args.call.now.caller.now.shape.now in
    let loop = c.loop-left in
    let none : loop.left.count ≡ 0 = search rules in
    let over : length loop.into ≤ loop.from = target-none loop.left none loop.from (length loop.into) loop.invariant.target in
    let all = all-done g.D.Lane.follows shape c.args.pieces.is_read (filling shape c.args.pieces c.args.cuts.now) loop.left (drop loop.taken loop.cuts) (take loop.from loop.into) loop.into c.args.lanes.now loop.lanes none (sym (take_all loop.from loop.into over)) loop.invariant.far in
    search (rules, all)

pub cuts_of-taken-requires-clause-end : goal.cuts_of-taken-requires-clause-end
cuts_of-taken-requires-clause-end g c = rw c.first_of-first.ensures c.loop-left.invariant.far.rest.end

pub cuts_of-taken-requires-clause-inside : goal.cuts_of-taken-requires-clause-inside
cuts_of-taken-requires-clause-inside g c =
    let loop = c.loop-left in
    let shape = c.args.call.now.caller.now.shape.now in
    let ok : DoesNext g.D.Lane.follows shape loop.left (take (length loop.cuts - loop.taken) (drop loop.taken loop.cuts), c.do_next.new.cuts) (loop.lanes, c.do_next.new.lanes) c.do_next.new.into c.in_ok-done.done = search rules in
    rw c.first_of-first.ensures (omega (arith, ok.most, loop.invariant.far.rest.inside))

pub target_of-from-requires-clause-end : goal.target_of-from-requires-clause-end
target_of-from-requires-clause-end g c = rw c.first_of-first.ensures c.loop-left.invariant.far.rest.end

pub target_of-from-requires-clause-blocks : goal.target_of-from-requires-clause-blocks
target_of-from-requires-clause-blocks g c =
    let loop = c.loop-left in
    let shape = c.args.call.now.caller.now.shape.now in
    let ok : DoesNext g.D.Lane.follows shape loop.left (take (length loop.cuts - loop.taken) (drop loop.taken loop.cuts), c.do_next.new.cuts) (loop.lanes, c.do_next.new.lanes) c.do_next.new.into c.in_ok-done.done = search rules in
    rw c.first_of-first.ensures (omega (arith, ok.most, loop.invariant.far.rest.blocks))

pub overflow_add-from : goal.overflow_add-from
overflow_add-from g c =
    let loop = c.loop-left in
    let shape = c.args.call.now.caller.now.shape.now in
    let done = c.in_ok-done.done in
    let ok : DoesNext g.D.Lane.follows shape loop.left (take (length loop.cuts - loop.taken) (drop loop.taken loop.cuts), c.do_next.new.cuts) (loop.lanes, c.do_next.new.lanes) c.do_next.new.into done = search rules in
    let target : c.target_of-from.result ≡ target_of (first_of done loop.left) = c.target_of-from.ensures ∙ ap (λ (p : PieceRange). target_of p) c.first_of-first.ensures in
    let both = targets-add loop.left done ok.most in
    let sum : loop.from + c.target_of-from.result ≤ length loop.into = omega (arith, target, both, loop.invariant.target) in
    search (rules, sum)
