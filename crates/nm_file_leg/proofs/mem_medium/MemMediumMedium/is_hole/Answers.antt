-- The bytes that are looked at are the window.
use Rattle.std.proofs.Common.{◌≡◌, ℕ, ◌+◌, ◌-◌, ◌≤◌, ◌∙◌, ap, sym, arith, length, take, drop, replicate, List}
use Rattle.std.proofs.lemmas.List.{length-take-le, length-drop}
use Rattle.nm_file_leg.specs.Medium.{window}
use Rattle.nm_file_leg.proofs.mem_medium.MemMediumMedium.is_hole.Goals as goal

pub returns-then-many-len-clause-finds : goal.returns-then-many-len-clause-finds
unfolding window
returns-then-many-len-clause-finds c =
    let at = c.args.at in
    let n = c.args.many in
    let held = c.args.self.now.bytes.items in
    let span : at + n - at ≡ n = omega arith in
    let inside : at + n ≤ length held = omega (arith, c.if-at-len.false, c.if-many-len.true, c.len.ensures, c.len-2.ensures) in
    let size : length (take n (drop at held)) ≡ n = length-take-le n (drop at held) (omega (arith, inside, length-drop at held)) in
    let looked = rw c.deref.ensures.value at c.are_zeroes.ensures in
    let whole = rw span at looked in
    λ _ found _. whole.0 found ∙ ap (λ (m : ℕ). replicate m 0) size

pub returns-then-many-len-clause-all : goal.returns-then-many-len-clause-all
unfolding window
returns-then-many-len-clause-all c =
    let at = c.args.at in
    let n = c.args.many in
    let held = c.args.self.now.bytes.items in
    let span : at + n - at ≡ n = omega arith in
    let looked = rw c.deref.ensures.value at c.are_zeroes.ensures in
    let whole = rw span at looked in
    λ inside is.
    let size : length (take n (drop at held)) ≡ n = length-take-le n (drop at held) (omega (arith, inside, length-drop at held)) in
    whole.1 (is ∙ ap (λ (m : ℕ). replicate m 0) (sym size))
