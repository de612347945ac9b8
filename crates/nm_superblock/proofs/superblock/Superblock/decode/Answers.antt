-- A slot that has a superblock's bytes is read as that one, which is written again as those bytes.
use Rattle.std.proofs.Common.{List, ℕ, Some, get_or, sym, ap, ◌∙◌, subst, arith}
use Rattle.nm_superblock.specs.declared.superblock.Superblock.{Superblock}
use Rattle.nm_superblock.specs.Bounds.{IsInBounds}
use Rattle.nm_superblock.specs.Layout.{slot_bytes}
use Rattle.nm_superblock.specs.Sectors.{pieces_of, stamp_of}
use Rattle.nm_superblock.proofs.Unique.{slot-pieces, slot-stamp, slot-version}
use Rattle.nm_superblock.proofs.superblock.Superblock.decode.Goals as goal

pub returns-then-not-is_in_bounds-clause-reads_back :
    goal.returns-then-not-is_in_bounds-clause-reads_back
returns-then-not-is_in_bounds-clause-reads_back c s is at =
    let version = sym (c.read_version.ensures ∙ ap (λ (xs : List ℕ). get_or xs 4 0) at ∙ slot-version s is) in
    let stamp = sym (c.read_stamp-stamp.ensures ∙ ap (stamp_of 0) at ∙ slot-stamp s 0 is (omega arith)) in
    let payload = c.read_pieces.ensures ∙ ap (pieces_of 8) at ∙ slot-pieces s is in
    let read = c.read_payload-superblock.ensures.reads_back s is.fits version stamp payload in
    let never = c.if-not-is_in_bounds.ensures.1 (subst (λ (x : Superblock). IsInBounds x) (sym read) is.bounds) in
    absurd (cc)

pub returns-then-not-is_same-clause-reads_back :
    goal.returns-then-not-is_same-clause-reads_back
returns-then-not-is_same-clause-reads_back c s is at =
    let version = sym (c.read_version.ensures ∙ ap (λ (xs : List ℕ). get_or xs 4 0) at ∙ slot-version s is) in
    let stamp = sym (c.read_stamp-stamp.ensures ∙ ap (stamp_of 0) at ∙ slot-stamp s 0 is (omega arith)) in
    let payload = c.read_pieces.ensures ∙ ap (pieces_of 8) at ∙ slot-pieces s is in
    let read = c.read_payload-superblock.ensures.reads_back s is.fits version stamp payload in
    let never = c.if-not-is_same.ensures.1 (c.encode.ensures ∙ ap (λ (x : Superblock). slot_bytes x) read ∙ sym at) in
    absurd (cc)

pub returns-clause-reads_back : goal.returns-clause-reads_back
returns-clause-reads_back c s is at =
    let version = sym (c.read_version.ensures ∙ ap (λ (xs : List ℕ). get_or xs 4 0) at ∙ slot-version s is) in
    let stamp = sym (c.read_stamp-stamp.ensures ∙ ap (stamp_of 0) at ∙ slot-stamp s 0 is (omega arith)) in
    let payload = c.read_pieces.ensures ∙ ap (pieces_of 8) at ∙ slot-pieces s is in
    ap (λ (x : Superblock). Some x) (c.read_payload-superblock.ensures.reads_back s is.fits version stamp payload)
