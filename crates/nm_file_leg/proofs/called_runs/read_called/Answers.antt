-- One call more reads on to the end of its region.
use Rattle.std.proofs.Common.{◌≡◌, ℕ, ◌+◌, ◌-◌, ◌*◌, ◌/◌, List, ◌++◌, length, length-append, take, drop, ap, ◌∙◌, subst, arith, Ok}
use Rattle.std.proofs.lemmas.List.{length-take, length-take-le, length-drop, take_all}
use Rattle.nm_file_leg.specs.Blocks.{first_byte}
use Rattle.nm_file_leg.proofs.StepLemmas.{one-call}
use Rattle.nm_file_leg.proofs.CalledLemmas.{finds-step}
use Rattle.nm_file_leg.proofs.called_runs.read_called.Goals as goal

pub loop-done-preserved : goal.loop-done-preserved
loop-done-preserved g c =
    let p = c.args.shape.now in
    let done = c.loop-done.done in
    let many = c.bytes_in_region-many.result in
    let xs = c.loop-done.into in
    let part = c.read_at.new.into in
    let rest : List ℕ = drop (done + many - done) (drop done xs) in
    let so_far = c.loop-done.invariant in
    let run : length xs ≡ 512 * (length xs / 512) = omega (arith, so_far.long, c.requires.run.whole) in
    let call = one-call c.args.at done many p.region xs c.requires.shape.some_region c.loop-done-test.true so_far.whole run c.bytes_in_region-many.ensures in
    let front : length (take done xs) ≡ done = length-take-le done xs so_far.most in
    let behind : length rest ≡ length xs - (done + many) = omega (arith, length-drop (done + many - done) (drop done xs), length-drop done xs, call.fits) in
    let size : length part ≡ many = omega (arith, c.read_at.auto.into, length-take (done + many - done) (drop done xs), length-drop done xs, call.fits) in
    let is = c.in-Ok.is ∙ ap (λ (n : ℕ). Ok n) c.if-found-many.true in
    let placed = rw c.first_byte-first.ensures at c.read_at.ensures.found in
    let first : ℕ = first_byte c.args.stripe p (c.args.at + done / 512) in
    let found : g.M.CalledMedium.found c.args.medium.now first (take many part) = rw is at placed in
    let all : take many part ≡ part = take_all many part (omega (arith, size)) in
    let whole : g.M.CalledMedium.found c.args.medium.now first part = subst (λ (ys : List ℕ). g.M.CalledMedium.found c.args.medium.now first ys) all found in
    let long : length (take done xs ++ (part ++ rest)) ≡ length xs = omega (arith, length-append (take done xs) (part ++ rest), length-append part rest, front, size, behind, call.fits) in
    record {
      long = long ∙ so_far.long;
      most = omega (arith, long, call.fits);
      whole = omega (arith, call.blocks, so_far.whole);
      finds = finds-step _ c.args.stripe p c.args.at done many so_far.whole call.blocks call.short xs part rest so_far.most size so_far.finds whole;
    }
