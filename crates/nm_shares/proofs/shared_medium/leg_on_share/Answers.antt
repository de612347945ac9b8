-- The medium is the share, and all of it is marked.
use Rattle.std.proofs.Common.{◌≡◌, ◌∙◌, ℕ, Bool, true, List, IsTrue, replicate, ap, sym, subst, arith}
use Rattle.nm_leg.specs.Leg.{Leg}
use Rattle.nm_geometry.specs.Geometry.{Geometry, stripe_blocks}
use Rattle.nm_file_leg.specs.Blocks.{leg_on}
use Rattle.nm_file_leg.specs.FileLeg.{written_from}
use Rattle.nm_file_leg.specs.Medium.{Held}
use Rattle.nm_shares.specs.SharedMedium.{settled, share_of}
use Rattle.nm_shares.proofs.NewLegLemmas.{all-marked}
use Rattle.nm_shares.proofs.SharedLemmas.{owns-share}
use Rattle.nm_shares.proofs.shared_medium.leg_on_share.Goals as goal

pub new-requires-2-clause-owns : goal.new-requires-2-clause-owns
new-requires-2-clause-owns c = λ _ block below at above short.
    subst (λ (o : ℕ → Bool). IsTrue (o at)) (sym (ap (λ (h : Held). h.own) c.in_ok-medium.ensures))
    (owns-share c.args.stripe c.args.shape.now (settled c.args.bytes.now) c.regions-regions.ensures.shape c.requires block below at above short)

pub returns : goal.returns
returns c =
    let leg = c.in_ok-new.field-0 in
    let shape = c.args.shape.now in
    let stripe = c.args.stripe in
    let n : ℕ = stripe_blocks stripe shape in
    let share : Held = share_of stripe shape (settled c.args.bytes.now) in
    let laid = c.in_ok-new.ensures.laid in
    let count : stripe_blocks leg.stripe leg.shape ≡ n = ap (λ (s : Geometry). stripe_blocks leg.stripe s) laid.0 ∙ ap (λ (i : ℕ). stripe_blocks i shape) laid.1 in
    let marks : written_from leg.writes n 0 ≡ replicate n true = all-marked leg.writes shape.region n c.regions-regions.ensures.shape.some_region c.in_ok-new.ensures.synced.1 n 0 (omega arith) in
    let held = c.in_ok-new.ensures.leg ∙ ap (λ (h : Held). leg_on h stripe shape 0) c.in_ok-medium.ensures in
    ap (λ (l : Leg). let x : Leg = record l { unsynced = written_from leg.writes (stripe_blocks leg.stripe leg.shape) 0 } in x) held
    ∙ ap (λ (us : List Bool). let x : Leg = record (leg_on share stripe shape 0) { unsynced = us } in x) (ap (λ (k : ℕ). written_from leg.writes k 0) count ∙ marks)
