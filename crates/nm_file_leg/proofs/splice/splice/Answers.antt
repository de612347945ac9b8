use Rattle.std.proofs.Common.{◌≡◌, ℕ, ◌+◌, ◌-◌, List, ◌∙◌, ap, arith, rules, length, take, drop, ◌++◌}
use Rattle.std.proofs.lemmas.List.{drop-drop}
use Rattle.nm_file_leg.specs.Medium.{spliced}
use Rattle.nm_file_leg.proofs.splice.splice.Goals as goal

pub returns : goal.returns
unfolding spliced
returns c =
    let at = c.args.at in
    let xs = c.args.bytes.now in
    let part = c.args.part.now in
    let n = length part in
    let span : at + n - at ≡ n = omega arith in
    let put : c.copy_from_slice.new.self ≡ part = search rules in
    ap (λ (ys : List ℕ). take at xs ++ (ys ++ drop (at + n - at) (drop at xs))) put
    ∙ ap (λ (m : ℕ). take at xs ++ (part ++ drop m (drop at xs))) span
    ∙ ap (λ (ys : List ℕ). take at xs ++ (part ++ ys)) (drop-drop n at xs)
