-- Entries of explained events have the numbers of their places, so a later one has a higher number;
-- and a read's entry has the last bytes before it on its block, a patch's the rest of them.
use Rattle.std.proofs.Common.{◌≡◌, ℕ, ◌+◌, ◌<◌, ◌==◌, inl, inr, List, [], ◌∷◌, ◌++◌, length, sym, ap, ◌∙◌, subst, arith, eq-eqb, append_assoc, length-append, slice_get}
use Rattle.std.specs.Prelude.{None, Some, if◌then◌else◌}
use Rattle.std.specs.Option.{option_or}
use Rattle.std.proofs.lemmas.Bool.{cases_eq, ne_eqb, cond-true, cond-false}
use Rattle.nm_replay.specs.declared.block.Block.{Block}
use Rattle.nm_replay.specs.declared.entry.Entry.{Entry}
use Rattle.nm_replay.specs.Array.{Array, Piece, SameOutside}
use Rattle.nm_replay.specs.History.{NumberedFrom, Legal, last_on, after_entry}
use Rattle.nm_replay.specs.Events.{Event, Lands, entry_of_read, entry_of_write, entries_of}
use Rattle.nm_replay.specs.Explained.{Point, Explained}
use Rattle.nm_replay.proofs.Endings.{after-same, after-other}
use Rattle.nm_replay.proofs.LastOn.{option_or_assoc}
use Rattle.nm_replay.proofs.Legality.{legal-numbered, legal-split}
use Rattle.nm_replay.proofs.Lives.{entries_of-append}
use Rattle.nm_replay.proofs.Numbering.{numbered-rest}

-- the number of an entry follows from how many entries stand before it
pub lands-number : (from to : Point) (earlier later : List Event) (e : Entry) → Explained from to (earlier ++ Lands e ∷ later) → e.seq ≡ from.next + length (entries_of earlier)
lands-number from to earlier later e explained =
    let split : entries_of (earlier ++ Lands e ∷ later) ≡ entries_of earlier ++ e ∷ entries_of later = entries_of-append earlier (Lands e ∷ later) in
    let all = legal-numbered (entries_of (earlier ++ Lands e ∷ later)) from.next from.array to.array explained.legal in
    (numbered-rest from.next (entries_of earlier) (e ∷ entries_of later) (subst (λ es. NumberedFrom from.next es) split all)).0

-- of two entries the later has the higher number
pub lands-higher : (from to : Point) (before between later : List Event) (low high : Entry) → Explained from to (before ++ Lands low ∷ (between ++ Lands high ∷ later)) → low.seq < high.seq
lands-higher from to before between later low high explained =
    let first = lands-number from to before (between ++ Lands high ∷ later) low explained in
    let moved : before ++ Lands low ∷ (between ++ Lands high ∷ later) ≡ (before ++ Lands low ∷ between) ++ Lands high ∷ later = sym (append_assoc before (Lands low ∷ between) (Lands high ∷ later)) in
    let second = lands-number from to (before ++ Lands low ∷ between) later high (subst (λ es. Explained from to es) moved explained) in
    omega (arith, first, second, ap (λ es. length es) (entries_of-append before (Lands low ∷ between)), length-append (entries_of before) (low ∷ entries_of between))

-- so has any that lands after events that one is among
pub lands-after : (from to : Point) (earlier before following between later : List Event) (low high : Entry) → earlier ≡ before ++ Lands low ∷ following → Explained from to (earlier ++ (between ++ Lands high ∷ later)) → low.seq < high.seq
lands-after from to earlier before following between later low high split explained =
    let whole : earlier ++ (between ++ Lands high ∷ later) ≡ before ++ Lands low ∷ (following ++ between ++ Lands high ∷ later) =
    ap (λ es. es ++ (between ++ Lands high ∷ later)) split ∙ append_assoc before (Lands low ∷ following) (between ++ Lands high ∷ later) ∙ ap (λ es. before ++ Lands low ∷ es) (sym (append_assoc following between (Lands high ∷ later))) in
    lands-higher from to before (following ++ between) later low high (subst (λ es. Explained from to es) whole explained)

-- the last bytes on a block: those of the last entry there, else what the array had
pub legal-reads_last : (es : List Entry) (next block : ℕ) (from to : Array) → Legal next es from to → slice_get to block ≡ option_or (last_on block es) (slice_get from block)
legal-reads_last [] next block from to legal = ap (λ array. slice_get array block) legal
legal-reads_last (e ∷ es) next block from to legal =
    let rest : slice_get to block ≡ option_or (last_on block es) (slice_get (after_entry e from) block) = legal-reads_last es (next + 1) block (after_entry e from) to legal.2 in
    rest ∙ ap (λ o. option_or (last_on block es) o) one ∙ sym (option_or_assoc (last_on block es) (if e.block == block then Some e.bytes else None) (slice_get from block))
  where
    one : slice_get (after_entry e from) block ≡ option_or (if e.block == block then Some e.bytes else None) (slice_get from block)
    one = elim (cases_eq e.block block) [
      | inl here ↦ ap (slice_get (after_entry e from)) (sym here) ∙ after-same e.kind e.block e.bytes from legal.1 ∙ sym (ap (λ o. option_or o (slice_get from block)) (cond-true (e.block == block) (Some e.bytes) None (eq-eqb e.block block here)))
      | inr other ↦ after-other e.kind e.block e.bytes from block other ∙ sym (ap (λ o. option_or o (slice_get from block)) (cond-false (e.block == block) (Some e.bytes) None (ne_eqb e.block block other)))
    ]

-- and a read's entry has them
pub read-finds_last : (from to : Point) (number block : ℕ) (bytes : Block) (earlier later : List Event) → Explained from to (earlier ++ Lands (entry_of_read number block bytes) ∷ later) → option_or (last_on block (entries_of earlier)) (slice_get from.array block) ≡ Some bytes
read-finds_last from to number block bytes earlier later explained =
    let e : Entry = entry_of_read number block bytes in
    let split : entries_of (earlier ++ Lands e ∷ later) ≡ entries_of earlier ++ e ∷ entries_of later = entries_of-append earlier (Lands e ∷ later) in
    let cut = legal-split (entries_of earlier) (e ∷ entries_of later) from.next from.array to.array (subst (λ es. Legal from.next es from.array to.array) split explained.legal) in
    sym (legal-reads_last (entries_of earlier) from.next block from.array cut.0 cut.1) ∙ (cut.2).1

-- and a patch's entry has them outside its part
pub patch-keeps_rest : (from to : Point) (number ticket block start len : ℕ) (bytes : Block) (earlier later : List Event) → Explained from to (earlier ++ Lands (entry_of_write number ticket block (Piece start len) bytes) ∷ later) → (old : Block) × (option_or (last_on block (entries_of earlier)) (slice_get from.array block) ≡ Some old) × SameOutside start len old bytes
patch-keeps_rest from to number ticket block start len bytes earlier later explained =
    let e : Entry = entry_of_write number ticket block (Piece start len) bytes in
    let split : entries_of (earlier ++ Lands e ∷ later) ≡ entries_of earlier ++ e ∷ entries_of later = entries_of-append earlier (Lands e ∷ later) in
    let cut = legal-split (entries_of earlier) (e ∷ entries_of later) from.next from.array to.array (subst (λ es. Legal from.next es from.array to.array) split explained.legal) in
    let fits = (cut.2).1 in
    (fits.0, sym (legal-reads_last (entries_of earlier) from.next block from.array cut.0 cut.1) ∙ fits.1, fits.2)
