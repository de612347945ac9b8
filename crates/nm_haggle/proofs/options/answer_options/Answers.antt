use Rattle.std.proofs.Common.{◌≡◌, ◌+◌, ◌-◌, ℕ, List, length, take, drop, ap, arith, rules}
use Rattle.nm_haggle.proofs.Passings.{slice_is_rest, passes_none, passes_more, waits, breaks, settles, begins_too, ends_not_more}
use Rattle.nm_haggle.proofs.options.answer_options.Goals as goal

-- the first option's data, as the code cuts them
payload_is : (rest : List ℕ) (n : ℕ) → take (16 + n - 16) (drop 16 rest) ≡ take n (drop 16 rest)
payload_is rest n = let e : 16 + n - 16 ≡ n = omega arith in ap (λ m. take m (drop 16 rest)) e

pub loop-head-init : goal.loop-head-init
loop-head-init c = passes_none c.args.export.now c.args.no_zeroes c.args.text.now c.args.out.now.items

pub loop-head-preserved : goal.loop-head-preserved
loop-head-preserved c =
    let text = c.args.text.now in
    let used = c.loop-head.used in
    let rest = take (length text - used) (drop used text) in
    passes_more c.args.export.now c.args.no_zeroes text used c.args.out.now.items c.loop-head.out.items c.answer.new.out.items
    rest _ c.in-Whole.head c.in_ok-next-in-Whole.next c.loop-head.invariant (slice_is_rest text used) c.in-Whole.ensures
    (payload_is rest c.in-Whole.head.length) c.in_ok-next-in-Whole.ensures.ok c.in-More.is

pub returns-in-Unfinished-clause-ok : goal.returns-in-Unfinished-clause-ok
returns-in-Unfinished-clause-ok c =
    let text = c.args.text.now in
    let used = c.loop-head.used in
    waits c.args.export.now c.args.no_zeroes text used c.args.out.now.items c.loop-head.out.items
    (take (length text - used) (drop used text)) c.loop-head.invariant (slice_is_rest text used) c.in-Unfinished.ensures

pub returns-in-Refused-clause-ok : goal.returns-in-Refused-clause-ok
returns-in-Refused-clause-ok c =
    let text = c.args.text.now in
    let used = c.loop-head.used in
    breaks c.args.export.now c.args.no_zeroes text used c.args.out.now.items c.loop-head.out.items
    (take (length text - used) (drop used text)) c.loop-head.invariant (slice_is_rest text used) c.in-Refused.ensures

pub returns-in-Transmit-clause-ok : goal.returns-in-Transmit-clause-ok
returns-in-Transmit-clause-ok c =
    let text = c.args.text.now in
    let used = c.loop-head.used in
    let rest = take (length text - used) (drop used text) in
    settles c.args.export.now c.args.no_zeroes text used c.args.out.now.items c.loop-head.out.items c.answer.new.out.items
    rest _ c.in-Whole.head c.in_ok-next-in-Whole.next c.loop-head.invariant (slice_is_rest text used) c.in-Whole.ensures
    (payload_is rest c.in-Whole.head.length) c.in_ok-next-in-Whole.ensures.ok
    (ends_not_more c.in_ok-next-in-Whole.next c.in-Transmit.is)

pub returns-in_err-next-in-Whole-clause-err : goal.returns-in_err-next-in-Whole-clause-err
returns-in_err-next-in-Whole-clause-err c =
    let kept : take (length c.args.out.now.items) c.answer.new.out.items ≡ c.args.out.now.items =
    begins_too c.args.out.now.items c.loop-head.out.items c.answer.new.out.items c.loop-head.invariant.bytes
    c.loop-head.invariant.appended c.in_err-next-in-Whole.ensures.err in
    search (rules, kept)
