-- Each byte is written both to what reads find and to what is pending, or to neither.
use Rattle.std.proofs.Common.{◌≡◌, ℕ, ◌-◌, length, min, ap, ◌∙◌, refl, Ok}
use Rattle.nm_file_leg.specs.Media.{of_mem}
use Rattle.nm_shares.specs.SharedMedium.{bytes_of}
use Rattle.nm_shares.proofs.SharedLemmas.{array-written, writes-share}
use Rattle.nm_shares.proofs.shared_medium.SharedMediumMedium.write_at.Goals as goal

pub invariant_of-self-2 : goal.invariant_of-self-2
invariant_of-self-2 c =
    let medium = c.args.self.now in
    let old = bytes_of medium.contents medium.pending medium.durable in
    let n : ℕ = min (length c.args.bytes.now) (length old.contents - c.args.at) in
    let one = rw c.write_at.ensures.all at c.write_at.ensures.writes in
    let done : c.write_at-2.result ≡ Ok n = c.write_at-2.ensures.all ∙ ap (λ (k : ℕ). Ok (min (length c.args.bytes.now) (k - c.args.at))) medium.array.pending_length in
    let two = rw done at c.write_at-2.ensures.writes in
    record { array = array-written c.args.at n c.args.bytes.now old (of_mem c.write_at.new.self).contents (of_mem c.write_at-2.new.self).contents medium.array refl c.write_at.ensures.long c.write_at-2.ensures.long one two }

pub returns : goal.returns
returns c =
    let medium = c.args.self.now in
    let old = bytes_of medium.contents medium.pending medium.durable in
    let n : ℕ = min (length c.args.bytes.now) (length old.contents - c.args.at) in
    let one = rw c.write_at.ensures.all at c.write_at.ensures.writes in
    let done : c.write_at-2.result ≡ Ok n = c.write_at-2.ensures.all ∙ ap (λ (k : ℕ). Ok (min (length c.args.bytes.now) (k - c.args.at))) medium.array.pending_length in
    let two = rw done at c.write_at-2.ensures.writes in
    writes-share c.args.at n c.args.bytes.now old (of_mem c.write_at.new.self).contents (of_mem c.write_at-2.new.self).contents medium.array refl c.write_at.ensures.long c.write_at-2.ensures.long one two c.write_at-2.result medium.stripe medium.shape done
