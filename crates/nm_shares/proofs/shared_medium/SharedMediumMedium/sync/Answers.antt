-- A sync that succeeds makes durable what is pending, and one that fails loses it.
use Rattle.std.proofs.Common.{◌≡◌, ℕ, List, length, ap, sym, ◌∙◌, subst, true, Ok, Err}
use Rattle.nm_file_leg.specs.Media.{of_mem}
use Rattle.nm_file_leg.specs.Medium.{Held, SyncsMedium}
use Rattle.nm_shares.specs.SharedMedium.{IsArray, bytes_of, share_of}
use Rattle.nm_shares.proofs.SharedLemmas.{copied, array-lost, array-synced, fails-share, syncs-share}
use Rattle.nm_shares.proofs.shared_medium.SharedMediumMedium.sync.Goals as goal

pub invariant_of-self : goal.invariant_of-self
invariant_of-self c =
    let medium = c.args.self.now in
    let part : (of_mem medium.durable).contents ≡ c.bytes.result.now = ap (λ (h : Held). h.contents) c.bytes.ensures in
    let long : length c.bytes.result.now ≡ length (of_mem medium.pending).contents = ap (λ (xs : List ℕ). length xs) (sym part) ∙ medium.array.durable_length ∙ sym medium.array.pending_length in
    let new = copied _ c.bytes.result.now (of_mem medium.pending).contents (of_mem c.write_at.new.self).contents long c.write_at.ensures.long c.write_at.ensures.all c.write_at.ensures.writes ∙ sym part in
    record { array = subst (λ (xs : List ℕ). IsArray (record { contents = (of_mem medium.contents).contents; pending = xs; durable = (of_mem medium.durable).contents })) (sym new) (array-lost (bytes_of medium.contents medium.pending medium.durable) medium.array) }

pub invariant_of-self-2 : goal.invariant_of-self-2
invariant_of-self-2 c =
    let medium = c.args.self.now in
    let part : (of_mem medium.pending).contents ≡ c.bytes-2.result.now = ap (λ (h : Held). h.contents) c.bytes-2.ensures in
    let long : length c.bytes-2.result.now ≡ length (of_mem medium.durable).contents = ap (λ (xs : List ℕ). length xs) (sym part) ∙ medium.array.pending_length ∙ sym medium.array.durable_length in
    let new = copied _ c.bytes-2.result.now (of_mem medium.durable).contents (of_mem c.write_at-2.new.self).contents long c.write_at-2.ensures.long c.write_at-2.ensures.all c.write_at-2.ensures.writes ∙ sym part in
    record { array = subst (λ (xs : List ℕ). IsArray (record { contents = (of_mem medium.contents).contents; pending = (of_mem medium.pending).contents; durable = xs })) (sym new) (array-synced (bytes_of medium.contents medium.pending medium.durable) medium.array) }

pub returns : goal.returns
returns c =
    let medium = c.args.self.now in
    let old = bytes_of medium.contents medium.pending medium.durable in
    let part : (of_mem medium.pending).contents ≡ c.bytes-2.result.now = ap (λ (h : Held). h.contents) c.bytes-2.ensures in
    let long : length c.bytes-2.result.now ≡ length (of_mem medium.durable).contents = ap (λ (xs : List ℕ). length xs) (sym part) ∙ medium.array.pending_length ∙ sym medium.array.durable_length in
    let new = copied _ c.bytes-2.result.now (of_mem medium.durable).contents (of_mem c.write_at-2.new.self).contents long c.write_at-2.ensures.long c.write_at-2.ensures.all c.write_at-2.ensures.writes ∙ sym part in
    subst (λ (xs : List ℕ). SyncsMedium true (Ok tt) (share_of medium.stripe medium.shape old) (share_of medium.stripe medium.shape (record { contents = old.contents; pending = old.pending; durable = xs }))) (sym new)
    (syncs-share medium.stripe medium.shape old medium.array)

pub returns-then-not-try_sync : goal.returns-then-not-try_sync
returns-then-not-try_sync c =
    let medium = c.args.self.now in
    let old = bytes_of medium.contents medium.pending medium.durable in
    let part : (of_mem medium.durable).contents ≡ c.bytes.result.now = ap (λ (h : Held). h.contents) c.bytes.ensures in
    let long : length c.bytes.result.now ≡ length (of_mem medium.pending).contents = ap (λ (xs : List ℕ). length xs) (sym part) ∙ medium.array.durable_length ∙ sym medium.array.pending_length in
    let new = copied _ c.bytes.result.now (of_mem medium.pending).contents (of_mem c.write_at.new.self).contents long c.write_at.ensures.long c.write_at.ensures.all c.write_at.ensures.writes ∙ sym part in
    subst (λ (xs : List ℕ). SyncsMedium true (Err c.from.result) (share_of medium.stripe medium.shape old) (share_of medium.stripe medium.shape (record { contents = old.contents; pending = xs; durable = old.durable }))) (sym new)
    (fails-share medium.stripe medium.shape old c.from.result)
