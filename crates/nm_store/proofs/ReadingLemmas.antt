-- A read of a run: its call, and the entries that are kept.
use Rattle.std.proofs.Common.{Vec, Bool, subst, ◌≡◌, ℕ, zero, suc, ◌+◌, List, ◌∷◌, length, take, drop, ap, ◌∙◌, refl}
use Rattle.std.specs.Vec.{with_items}
use Rattle.std.proofs.lemmas.List.{length-set}
use Rattle.nm_replay.specs.declared.entry.Entry.{Entry}
use Rattle.nm_replay.specs.Events.{entry_of_read}
use Rattle.nm_replay.specs.declared.entry.Kind.TheVariants.{Read}
use Rattle.nm_replay.specs.Kept.{run_from}
use Rattle.nm_leg.specs.Leg.{LegType, blocks_of, cut_into}
use Rattle.nm_leg.specs.LegCalls.{ReadsLegAt}
use Rattle.nm_rules.specs.RunCalls.{ReadsRunAt}
use Rattle.nm_rules.specs.RunRead.{read_entries}
use Rattle.nm_rules.proofs.RunCallLemmas.{run-reads_at}
use Rattle.nm_store.proofs.CopyLemmas.{stored}

-- a read of the bytes of a run, in the words of the state
pub read-done : {L Z : Type 0} (type : LegType L) (legs : Vec L Z) (lent new : List L) (ok : Bool)
    (leg at : ℕ) (bytes : List ℕ) → ReadsLegAt type ok leg at lent new bytes → lent ≡ legs.items
    → ReadsRunAt type ok leg at (blocks_of bytes) legs.items (with_items legs new).items
read-done {L} type legs lent new ok leg at bytes r whole =
    let same : length new ≡ length legs.items =
    ap (λ (xs : List L). length xs) r.change.others ∙ length-set lent leg r.after
    ∙ ap (λ (xs : List L). length xs) whole in
    let one = run-reads_at type ok leg at bytes lent new r in
    let two = subst (λ (xs : List L). ReadsRunAt type ok leg at (blocks_of bytes) xs new) whole one in
    subst (λ (xs : List L). ReadsRunAt type ok leg at (blocks_of bytes) legs.items xs)
    (stored legs new same) two

-- the entries of a read's blocks are those of a run that is read
pub reads-run : (n number block : ℕ) (bytes : List ℕ)
    → run_from n number Read block bytes ≡ read_entries number block (cut_into n bytes)
reads-run zero number block bytes = refl
reads-run (suc n) number block bytes =
    ap (λ (es : List Entry). entry_of_read number block (record { 0 = take 512 bytes }) ∷ es)
    (reads-run n (number + 1) (block + 1) (drop 512 bytes))
