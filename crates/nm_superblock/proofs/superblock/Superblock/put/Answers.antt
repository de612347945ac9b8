-- The digest takes the place of the zeroes.
use Rattle.std.proofs.Common.{◌≡◌, ◌++◌, List, ℕ, take, ap, ◌∙◌, arith, length}
use Rattle.sha2.specs.Sha256.{sha256}
use Rattle.nm_superblock.specs.Layout.{digest_bytes, head_bytes, payload_bytes, tail_bytes, zeroes}
use Rattle.nm_superblock.proofs.Fields.{digest-in, length-digest, length-head, length-zeroes}
use Rattle.nm_superblock.proofs.superblock.Superblock.put.Goals as goal

pub returns : goal.returns
unfolding payload_bytes digest_bytes
returns c =
    let s = c.args.self.now in
    let ids : length s.leg_ids ≡ 8 = omega arith in
    let seen : length s.seen ≡ 8 = omega arith in
    let digest : c.digest-digest.result ≡ digest_bytes s = c.digest-digest.ensures ∙ ap (λ (xs : List ℕ). take 8 (sha256 xs)) c.put_fields.ensures.written in
    digest-in (head_bytes s) (zeroes 8) (tail_bytes s) c.put_fields.new.payload c.put_bytes.new.bytes c.digest-digest.result
    (length-head s ids seen c.put_fields.ensures.sets) (length-zeroes 8) (ap length digest ∙ length-digest s)
    c.put_fields.ensures.written c.put_bytes.ensures.written c.put_bytes.ensures.rest
    ∙ ap (λ (xs : List ℕ). head_bytes s ++ xs ++ tail_bytes s) digest
