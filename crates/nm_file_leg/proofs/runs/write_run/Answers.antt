-- One call more writes on to the end of its region.
use Rattle.std.proofs.Common.{◌≡◌, false, ℕ, ◌+◌, ◌-◌, length, take, drop, ap, sym, ◌∙◌, subst, arith, Ok}
use Rattle.std.proofs.lemmas.List.{length-take-le, length-drop}
use Rattle.nm_file_leg.specs.Medium.{Kept}
use Rattle.nm_file_leg.specs.Runs.{WritesRun, run_places}
use Rattle.nm_file_leg.proofs.StepLemmas.{one-call, keeps-step, writes-step, writes-ends}
use Rattle.nm_file_leg.proofs.runs.write_run.Goals as goal
use Rattle.nm_file_leg.proofs.runs.write_run.Goals.{After-write_stretch}

pub write_stretch-requires : goal.write_stretch-requires
write_stretch-requires g c =
    let p = c.args.shape.now in
    let done = c.loop-done.done in
    let many = c.bytes_in_region-many.result in
    let xs = c.args.bytes.now in
    let so_far = c.loop-done.invariant in
    let call = one-call c.args.at done many p.region xs c.requires.shape.some_region c.loop-done-test.true so_far.whole c.requires.run.whole c.bytes_in_region-many.ensures in
    let span : done + many - done ≡ many = omega arith in
    let size : length (take (done + many - done) (drop done xs)) ≡ many =
    ap (λ (n : ℕ). length (take n (drop done xs))) span ∙ length-take-le many (drop done xs) (omega (arith, call.fits, length-drop done xs)) in
    λ is_honest keeps.
    subst (λ (n : ℕ). Kept (g.M.Medium.held c.loop-done.medium) c.first_byte-first.result n) (sym size)
    (subst (λ (k : ℕ). Kept (g.M.Medium.held c.loop-done.medium) k many) (sym c.first_byte-first.ensures)
    (keeps-step _ c.args.stripe p c.args.at done many so_far.whole call.blocks call.short _ _ xs call.fits so_far.writes is_honest (c.requires.kept is_honest keeps)))

pub loop-done-preserved : goal.loop-done-preserved
loop-done-preserved g c =
    let p = c.args.shape.now in
    let done = c.loop-done.done in
    let many = c.bytes_in_region-many.result in
    let xs = c.args.bytes.now in
    let so_far = c.loop-done.invariant in
    let call = one-call c.args.at done many p.region xs c.requires.shape.some_region c.loop-done-test.true so_far.whole c.requires.run.whole c.bytes_in_region-many.ensures in
    let is = c.in-Ok.is ∙ ap (λ (n : ℕ). Ok n) c.if-written-many.true in
    let span : done + many - done ≡ many = omega arith in
    let placed = rw c.first_byte-first.ensures at c.write_stretch.ensures in
    let writes = rw span at placed in
    record {
      most = call.fits;
      whole = omega (arith, call.blocks, so_far.whole);
      writes = writes-step _ c.args.stripe p c.args.at done many so_far.whole call.blocks call.short _ _ _ _ xs c.requires.shape c.requires.stripe call.some call.fits is so_far.writes writes;
    }

-- the call that wrote less, or failed, ends the run
ends : (g : _) (c : After-write_stretch g) → WritesRun g.M.Medium.honest false (run_places c.args.stripe c.args.shape.now c.args.at) c.args.bytes.now
    (g.M.Medium.held c.args.medium.now) (g.M.Medium.held c.write_stretch.new.medium)
ends g c =
    let p = c.args.shape.now in
    let done = c.loop-done.done in
    let many = c.bytes_in_region-many.result in
    let xs = c.args.bytes.now in
    let so_far = c.loop-done.invariant in
    let call = one-call c.args.at done many p.region xs c.requires.shape.some_region c.loop-done-test.true so_far.whole c.requires.run.whole c.bytes_in_region-many.ensures in
    let span : done + many - done ≡ many = omega arith in
    let placed = rw c.first_byte-first.ensures at c.write_stretch.ensures in
    let writes = rw span at placed in
    writes-ends _ c.args.stripe p c.args.at done many so_far.whole call.blocks call.short _ _ _ _ xs c.requires.shape c.requires.stripe call.some call.fits so_far.writes writes

pub returns-in_default : goal.returns-in_default
returns-in_default g c = ends g (goal.at.returns-in_default g c).After-write_stretch

pub returns-in_default-2 : goal.returns-in_default-2
returns-in_default-2 g c = ends g (goal.at.returns-in_default-2 g c).After-write_stretch
