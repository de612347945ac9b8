-- The records of a run's blocks: their tickets follow one another, and each is one whole record.
use Rattle.std.proofs.Common.{◌≡◌, ℕ, zero, suc, ◌+◌, ◌/◌, ◌<◌, ◌≤◌, ◌==◌, Bool, false, cond, List, [], ◌∷◌, length, drop, Option, refl, ap, ◌∙◌, arith, eq-eqb, ne_eqb}
use Rattle.std.proofs.lemmas.List.{length-replicate}
use Rattle.nm_fanout.specs.declared.record_data.RecordData.{RecordData}
use Rattle.nm_fanout.specs.declared.record_data.RecordData.TheVariants.{Cut, Zero, Merged}
use Rattle.nm_fanout.specs.declared.write_record.Record.{Record}
use Rattle.nm_fanout.specs.Record.{IsRun}
use Rattle.nm_fanout.specs.RecordData.{blocks_in}
use Rattle.nm_fanout.specs.Records.{AllAbove, AllBelow, Ascends, runs_in}
use Rattle.nm_fanout.specs.Runs.{AllFrom, cuts_of, each_block, laid_from, laid_out, next_entry}

-- the tickets follow one another from this one on
abbrev pub TicketsFollow : ℕ → List Record → Type 0
TicketsFollow ticket [] = Unit {0}
TicketsFollow ticket (o ∷ os) = (o.ticket ≡ ticket) × TicketsFollow (ticket + 1) os

pub laid-follow : (run ticket block : ℕ) (owed : List Bool) (entry : Option ℕ)
    (ds : List RecordData) → TicketsFollow ticket (laid_from run ticket block owed entry ds)
laid-follow run ticket block owed entry [] = tt
laid-follow run ticket block owed entry (d ∷ ds) =
    (refl, laid-follow run (ticket + 1) (block + 1) owed (next_entry entry) ds)

pub run-follows : (r : Record) → TicketsFollow r.ticket (laid_out r)
run-follows r = laid-follow r.run r.ticket r.block r.owed r.entry (each_block r.data)

-- there are as many as data
pub length-laid : (run ticket block : ℕ) (owed : List Bool) (entry : Option ℕ)
    (ds : List RecordData) → length (laid_from run ticket block owed entry ds) ≡ length ds
length-laid run ticket block owed entry [] = refl
length-laid run ticket block owed entry (d ∷ ds) =
    ap (λ n. suc n) (length-laid run (ticket + 1) (block + 1) owed (next_entry entry) ds)

length-cuts : (n : ℕ) (bytes : List ℕ) → length (cuts_of n bytes) ≡ n
length-cuts zero bytes = refl
length-cuts (suc n) bytes = ap (λ m. suc m) (length-cuts n (drop 512 bytes))

pub length-each : (d : RecordData) → length (each_block d) ≡ blocks_in d
length-each (Cut cut) = length-cuts (length cut / 512) cut
length-each (Zero count) = length-replicate {A = RecordData} count (Zero 1)
length-each (Merged from len block) = refl

pub length-run : (r : Record) → length (laid_out r) ≡ blocks_in r.data
length-run r = length-laid r.run r.ticket r.block r.owed r.entry (each_block r.data)
    ∙ length-each r.data

-- tickets that follow one another are above every one below the first
pub above-follow : (low from : ℕ) (os : List Record) → low < from → TicketsFollow from os
    → AllAbove low os
above-follow low from [] lt h = tt
above-follow low from (o ∷ os) lt h =
    (omega (arith, lt, h.0), above-follow low (from + 1) os (omega (arith, lt)) h.1)

-- and below every one after the last
pub below-follow : (from high : ℕ) (os : List Record) → TicketsFollow from os
    → from + length os ≤ high → AllBelow high os
below-follow from high [] h le = tt
below-follow from high (o ∷ os) h le =
    (omega (arith, le, h.0), below-follow (from + 1) high os h.1 (omega (arith, le)))

pub from-follow : (low from : ℕ) (os : List Record) → low ≤ from → TicketsFollow from os
    → AllFrom low os
from-follow low from [] le h = tt
from-follow low from (o ∷ os) le h =
    (omega (arith, le, h.0), from-follow low (from + 1) os (omega (arith, le)) h.1)

pub ascends-follow : (from : ℕ) (os : List Record) → TicketsFollow from os → Ascends os
ascends-follow from [] h = tt
ascends-follow from (o ∷ os) h = (
  above-follow o.ticket (from + 1) os (omega (arith, h.0)) h.1,
  ascends-follow (from + 1) os h.1,
)

-- no later block begins a run
none-begins : (run ticket block : ℕ) (owed : List Bool) (entry : Option ℕ) (ds : List RecordData)
    → run < ticket → runs_in (laid_from run ticket block owed entry ds) ≡ 0
none-begins run ticket block owed entry [] past = refl
none-begins run ticket block owed entry (d ∷ ds) past =
    let other : (run == ticket) ≡ false = ne_eqb run ticket (λ e. omega (arith, past, e)) in
    omega (
      arith,
      ap (λ (b : Bool). cond {A = ℕ} b 1 0) other,
      none-begins run (ticket + 1) (block + 1) owed (next_entry entry) ds (omega (arith, past)),
    )

one-begins : (run ticket block : ℕ) (owed : List Bool) (entry : Option ℕ) (ds : List RecordData)
    → run ≡ ticket → 0 < length ds → runs_in (laid_from run ticket block owed entry ds) ≡ 1
one-begins run ticket block owed entry [] named some = absurd (omega (arith, some))
one-begins run ticket block owed entry (d ∷ ds) named some =
    omega (
      arith,
      ap (λ (b : Bool). cond {A = ℕ} b 1 0) (eq-eqb run ticket named),
      none-begins run (ticket + 1) (block + 1) owed (next_entry entry) ds (omega (arith, named)),
    )

-- the blocks of a run are one run
pub run-one : (r : Record) → IsRun r → runs_in (laid_out r) ≡ 1
run-one r h =
    let some = h.filled.some in
    one-begins r.run r.ticket r.block r.owed r.entry (each_block r.data) h.named
    (omega (arith, some, length-each r.data))
