-- Lives go on: what holds of two runs of events holds of one run after the other.
use Rattle.std.proofs.Common.{◌≡◌, ℕ, ◌+◌, List, [], ◌∷◌, ◌++◌, length, refl, sym, ap, subst, arith, length-append}
use Rattle.nm_replay.specs.declared.entry.Entry.{Entry}
use Rattle.nm_replay.specs.History.{Legal}
use Rattle.nm_replay.specs.Events.{Event, BeginsRead, BeginsWrite, Lands, RepliesRead, RepliesWrite, entries_of}
use Rattle.nm_replay.specs.WriteLives.{WriteLife, WriteLives}
use Rattle.nm_replay.specs.ReadLives.{ReadLife, ReadLives}
use Rattle.nm_replay.specs.Explained.{Point, Explained}
use Rattle.nm_replay.proofs.Legality.{legal-append}

pub entries_of-append : (es fs : List Event) → entries_of (es ++ fs) ≡ entries_of es ++ entries_of fs
entries_of-append [] fs = refl
entries_of-append (BeginsRead n b ∷ es) fs = entries_of-append es fs
entries_of-append (BeginsWrite t b v ∷ es) fs = entries_of-append es fs
entries_of-append (Lands e ∷ es) fs = ap (λ (xs : List Entry). e ∷ xs) (entries_of-append es fs)
entries_of-append (RepliesRead n v ∷ es) fs = entries_of-append es fs
entries_of-append (RepliesWrite t n ∷ es) fs = entries_of-append es fs

pub WriteLives-append : (t : ℕ) (old mid new : WriteLife) (es fs : List Event) → WriteLives t old es mid → WriteLives t mid fs new → WriteLives t old (es ++ fs) new
WriteLives-append t old mid new [] fs p q = subst (λ w. WriteLives t w fs new) p q
WriteLives-append t old mid new (e ∷ es) fs p q = (p.0, p.1, WriteLives-append t p.0 mid new es fs p.2 q)

pub ReadLives-append : (n : ℕ) (old mid new : ReadLife) (es fs : List Event) → ReadLives n old es mid → ReadLives n mid fs new → ReadLives n old (es ++ fs) new
ReadLives-append n old mid new [] fs p q = subst (λ w. ReadLives n w fs new) p q
ReadLives-append n old mid new (e ∷ es) fs p q = (p.0, p.1, ReadLives-append n p.0 mid new es fs p.2 q)

-- no events lead from a point to itself
pub explained-none : (point : Point) → Explained point point []
explained-none point = record { legal = refl; next = omega arith; each_write = λ t. refl; each_read = λ n. refl }

-- explained events followed by explained events are explained
pub explained-append : (from mid to : Point) (es fs : List Event) → Explained from mid es → Explained mid to fs → Explained from to (es ++ fs)
explained-append from mid to es fs a b =
    let entries = entries_of-append es fs in
    let later : Legal (from.next + length (entries_of es)) (entries_of fs) mid.array to.array =
    subst (λ (n : ℕ). Legal n (entries_of fs) mid.array to.array) a.next b.legal in
    let legal = legal-append (entries_of es) (entries_of fs) from.next from.array mid.array to.array a.legal later in
    record {
      legal = subst (λ (xs : List Entry). Legal from.next xs from.array to.array) (sym entries) legal;
      next = omega (arith, a.next, b.next, length-append (entries_of es) (entries_of fs), ap (λ xs. length xs) entries);
      each_write = λ t. WriteLives-append t (from.writes t) (mid.writes t) (to.writes t) es fs (a.each_write t) (b.each_write t);
      each_read = λ n. ReadLives-append n (from.reads n) (mid.reads n) (to.reads n) es fs (a.each_read n) (b.each_read n);
    }
