use Rattle.std.proofs.Common.{◌≡◌, ℕ, ◌*◌, replicate, ap, ◌∙◌, arith}
use Rattle.std.proofs.lemmas.List.{take-replicate}
use Rattle.nm_leg.proofs.zeroes.zero_run.Goals as goal

pub returns : goal.returns
returns c =
    let e : c.args.count * 512 ≡ 512 * c.args.count = omega arith in
    take-replicate (c.args.count * 512) 65536 0 (omega (arith, c.requires))
    ∙ ap (λ (n : ℕ). replicate n 0) e
