-- The entries of a run's blocks, and what the blocks hold, told from the run's bytes.
use Rattle.std.proofs.Common.{◌≡◌, ℕ, zero, suc, ◌+◌, ◌-◌, ◌*◌, ◌/◌, Bool, List, [], ◌∷◌, length, take, drop, replicate, Option, refl, sym, ap, ◌∙◌, arith}
use Rattle.std.proofs.lemmas.List.{drop-replicate, take_all, take-replicate}
use Rattle.nm_replay.specs.declared.block.Block.{Block}
use Rattle.nm_replay.specs.declared.entry.Entry.{Entry}
use Rattle.nm_replay.specs.Array.{Entire}
use Rattle.nm_replay.specs.Events.{entry_of_write}
use Rattle.nm_fanout.specs.declared.record_data.RecordData.{RecordData}
use Rattle.nm_fanout.specs.declared.record_data.RecordData.TheVariants.{Cut, Zero, Merged}
use Rattle.nm_fanout.specs.declared.write_record.Record.{Record}
use Rattle.nm_fanout.specs.Record.{without_leg}
use Rattle.nm_fanout.specs.RecordData.{FillsBlocks, bytes_of, span_of, zero_bytes}
use Rattle.nm_fanout.specs.Runs.{cuts_of, each_block, entries_from, laid_from, laid_out, next_entry}
use Rattle.nm_fanout.proofs.DataLemmas.{length-zero_bytes}
use Rattle.nm_leg.specs.Leg.{block_of, blocks_of, cut_into}
use Rattle.nm_rules.specs.RunPush.{run_entries, written_by}

-- the first of so many zero blocks, and the others
take-zero : (n : ℕ) → take 512 (zero_bytes (512 * suc n)) ≡ zero_bytes (512 * 1)
unfolding zero_bytes
take-zero n = take-replicate 512 (512 * suc n) 0 (omega arith)

drop-zero : (n : ℕ) → drop 512 (zero_bytes (512 * suc n)) ≡ zero_bytes (512 * n)
unfolding zero_bytes
drop-zero n =
    let rest : 512 * suc n - 512 ≡ 512 * n = omega arith in
    drop-replicate 512 (512 * suc n) 0 ∙ ap (λ (k : ℕ). replicate k 0) rest

entries-cuts : (n number run ticket block : ℕ) (owed : List Bool) (entry : Option ℕ)
    (bytes : List ℕ)
    → run_entries number (laid_from run ticket block owed entry (cuts_of n bytes))
    ≡ entries_from n number ticket block bytes
entries-cuts zero number run ticket block owed entry bytes = refl
entries-cuts (suc n) number run ticket block owed entry bytes =
    ap (λ (es : List Entry). entry_of_write number ticket block Entire (block_of (take 512 bytes)) ∷ es)
    (entries-cuts n (number + 1) run (ticket + 1) (block + 1) owed (next_entry entry)
    (drop 512 bytes))

entries-zeroes : (n number run ticket block : ℕ) (owed : List Bool) (entry : Option ℕ)
    → run_entries number (laid_from run ticket block owed entry (replicate n (Zero 1)))
    ≡ entries_from n number ticket block (zero_bytes (512 * n))
entries-zeroes zero number run ticket block owed entry = refl
entries-zeroes (suc n) number run ticket block owed entry =
    let rest : List ℕ = drop 512 (zero_bytes (512 * suc n)) in
    ap (λ (es : List Entry). entry_of_write number ticket block Entire (block_of (zero_bytes (512 * 1))) ∷ es)
    (entries-zeroes n (number + 1) run (ticket + 1) (block + 1) owed (next_entry entry)
    ∙ ap (λ (bs : List ℕ). entries_from n (number + 1) (ticket + 1) (block + 1) bs) (sym (drop-zero n)))
    ∙ ap (λ (bs : List ℕ). entry_of_write number ticket block Entire (block_of bs)
    ∷ entries_from n (number + 1) (ticket + 1) (block + 1) rest) (sym (take-zero n))

entries-data : (d : RecordData) (number run ticket block : ℕ) (owed : List Bool)
    (entry : Option ℕ) → span_of d ≡ Entire
    → run_entries number (laid_from run ticket block owed entry (each_block d))
    ≡ entries_from (length (bytes_of d) / 512) number ticket block (bytes_of d)
entries-data (Cut cut) number run ticket block owed entry whole =
    entries-cuts (length cut / 512) number run ticket block owed entry cut
entries-data (Zero count) number run ticket block owed entry whole =
    let all : count ≡ length (zero_bytes (512 * count)) / 512 = omega
    (arith, length-zero_bytes (512 * count)) in
    entries-zeroes count number run ticket block owed entry
    ∙ ap (λ (n : ℕ). entries_from n number ticket block (zero_bytes (512 * count))) all
entries-data (Merged from len block) number run ticket at owed entry whole = absurd cc

-- the entries of a run of whole blocks are those of its bytes
pub entries-whole : (number : ℕ) (r : Record) → span_of r.data ≡ Entire
    → run_entries number (laid_out r)
    ≡ entries_from (length (bytes_of r.data) / 512) number r.ticket r.block (bytes_of r.data)
entries-whole number r whole =
    entries-data r.data number r.run r.ticket r.block r.owed r.entry whole

-- what is no part of a block changes whole blocks
pub no-part : (d : RecordData)
    → ((from len : ℕ) (block : Block) → d ≡ Merged from len block → ⊥) → span_of d ≡ Entire
no-part (Cut cut) other = refl
no-part (Zero count) other = refl
no-part (Merged from len block) other = absurd (other from len block refl)

-- they do not depend on what the run owes
entries-laid : (number run ticket block : ℕ) (owed other : List Bool) (entry : Option ℕ)
    (ds : List RecordData)
    → run_entries number (laid_from run ticket block owed entry ds)
    ≡ run_entries number (laid_from run ticket block other entry ds)
entries-laid number run ticket block owed other entry [] = refl
entries-laid number run ticket block owed other entry (d ∷ ds) =
    ap (λ (es : List Entry). entry_of_write number ticket block (span_of d) (block_of (bytes_of d)) ∷ es)
    (entries-laid (number + 1) run (ticket + 1) (block + 1) owed other (next_entry entry) ds)

pub entries-reached : (number leg : ℕ) (r : Record)
    → run_entries number (laid_out (without_leg leg r)) ≡ run_entries number (laid_out r)
entries-reached number leg r = entries-laid number r.run r.ticket r.block
    (without_leg leg r).owed r.owed r.entry (each_block r.data)

-- what the blocks hold is cut out of the run's bytes
written-cuts : (n run ticket block : ℕ) (owed : List Bool) (entry : Option ℕ) (bytes : List ℕ)
    → written_by (laid_from run ticket block owed entry (cuts_of n bytes)) ≡ cut_into n bytes
written-cuts zero run ticket block owed entry bytes = refl
written-cuts (suc n) run ticket block owed entry bytes =
    ap (λ (bs : List Block). block_of (take 512 bytes) ∷ bs)
    (written-cuts n run (ticket + 1) (block + 1) owed (next_entry entry) (drop 512 bytes))

written-zeroes : (n run ticket block : ℕ) (owed : List Bool) (entry : Option ℕ)
    → written_by (laid_from run ticket block owed entry (replicate n (Zero 1)))
    ≡ cut_into n (zero_bytes (512 * n))
written-zeroes zero run ticket block owed entry = refl
written-zeroes (suc n) run ticket block owed entry =
    let rest : List ℕ = drop 512 (zero_bytes (512 * suc n)) in
    ap (λ (bs : List Block). block_of (zero_bytes (512 * 1)) ∷ bs)
    (written-zeroes n run (ticket + 1) (block + 1) owed (next_entry entry)
    ∙ ap (λ (bs : List ℕ). cut_into n bs) (sym (drop-zero n)))
    ∙ ap (λ (bs : List ℕ). block_of bs ∷ cut_into n rest) (sym (take-zero n))

written-data : (d : RecordData) (run ticket block : ℕ) (owed : List Bool) (entry : Option ℕ)
    → FillsBlocks d
    → written_by (laid_from run ticket block owed entry (each_block d)) ≡ blocks_of (bytes_of d)
written-data (Cut cut) run ticket block owed entry fills =
    written-cuts (length cut / 512) run ticket block owed entry cut
written-data (Zero count) run ticket block owed entry fills =
    let all : count ≡ length (zero_bytes (512 * count)) / 512 = omega
    (arith, length-zero_bytes (512 * count)) in
    written-zeroes count run ticket block owed entry
    ∙ ap (λ (n : ℕ). cut_into n (zero_bytes (512 * count))) all
written-data (Merged from len block) run ticket at owed entry fills =
    let one : 1 ≡ length block.0 / 512 = omega (arith, fills.whole) in
    ap (λ (bs : List ℕ). block_of bs ∷ []) (sym (take_all 512 block.0 (omega (arith, fills.whole))))
    ∙ ap (λ (n : ℕ). cut_into n block.0) one

pub written-run : (r : Record) → FillsBlocks r.data
    → written_by (laid_out r) ≡ blocks_of (bytes_of r.data)
written-run r fills = written-data r.data r.run r.ticket r.block r.owed r.entry fills
