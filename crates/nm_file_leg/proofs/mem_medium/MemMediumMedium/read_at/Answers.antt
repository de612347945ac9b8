use Rattle.std.proofs.Common.{◌≡◌, ℕ, ◌+◌, ◌-◌, ◌≤◌, ◌∙◌, ap, arith, refl, length, take, drop, length-append, List}
use Rattle.std.proofs.lemmas.List.{take_at, length-take-le}
use Rattle.nm_file_leg.specs.Medium.{window}
use Rattle.nm_file_leg.proofs.MediaLemmas.{reads-none}
use Rattle.nm_file_leg.proofs.mem_medium.MemMediumMedium.read_at.Goals as goal

pub returns-then-at-len-clause-reads : goal.returns-then-at-len-clause-reads
returns-then-at-len-clause-reads c = reads-none _ _ _

pub returns-clause-reads : goal.returns-clause-reads
unfolding window
returns-clause-reads c =
    let n = c.min-many.result in
    let short : n ≤ length c.args.into.now = omega (arith, c.min-many.ensures) in
    let got : length c.copy_from_slice.new.self ≡ n = c.copy_from_slice.ensures.len ∙ length-take-le n c.args.into.now short in
    let span : c.args.at + n - c.args.at ≡ n = omega arith in
    record {
      bound = omega (arith, got, length-append c.copy_from_slice.new.self (drop n c.args.into.now));
      found = λ _ _. take_at c.copy_from_slice.new.self (drop n c.args.into.now) n got ∙ c.copy_from_slice.ensures.after
          ∙ ap (λ (m : ℕ). take m (drop c.args.at c.deref.result.now)) span ∙ ap (λ (xs : List ℕ). take n (drop c.args.at xs)) c.deref.ensures.value;
      same = λ _. refl;
    }
