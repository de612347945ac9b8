-- The records of the blocks of all runs, through every change of the runs.
use Rattle.std.proofs.Common.{◌≡◌, inl, inr, ℕ, zero, suc, ◌+◌, ◌<◌, ◌≤◌, ◌==◌, Bool, true, false, cond, List, [], ◌∷◌, ◌++◌, length, set, Option, Some, refl, sym, ap, ◌∙◌, subst, arith, eq-eqb, ne_eqb, append_assoc, append-nil}
use Rattle.std.specs.List.{slice_get}
use Rattle.std.proofs.lemmas.Option.{same_Some}
use Rattle.nm_fanout.specs.declared.record_data.RecordData.{RecordData}
use Rattle.nm_fanout.specs.declared.write_record.Record.{Record}
use Rattle.nm_fanout.specs.Record.{without_leg, with_entry}
use Rattle.nm_fanout.specs.RecordData.{blocks_in}
use Rattle.nm_fanout.specs.Records.{AllAbove, AllBelow, Ascends, changed, reached, with_new}
use Rattle.nm_fanout.specs.Runs.{AllFound, AllFrom, RunsRise, each_block, each_changed, flat, laid_from, laid_out, next_entry}
use Rattle.nm_fanout.proofs.InOrder.{AllBelow-rise}
use Rattle.nm_fanout.proofs.Laying.{TicketsFollow, above-follow, ascends-follow, below-follow, from-follow, length-run, run-follows}
use Rattle.nm_fanout.proofs.Members.{Member, Member-find_record}
use Rattle.nm_fanout.proofs.Tickets.{changed-above}

-- one run more
pub flat-push : (rs : List Record) (r : Record) → flat (with_new r rs) ≡ flat rs ++ laid_out r
flat-push [] r = append-nil (laid_out r)
flat-push (q ∷ rs) r = ap (λ (xs : List Record). laid_out q ++ xs) (flat-push rs r)
    ∙ sym (append_assoc (laid_out q) (flat rs) (laid_out r))

-- two lists of rising tickets, the second after the first
pub above-append : (low : ℕ) (xs ys : List Record) → AllAbove low xs → AllAbove low ys
    → AllAbove low (xs ++ ys)
above-append low [] ys front back = back
above-append low (x ∷ xs) ys front back = (front.0, above-append low xs ys front.1 back)

pub above-from : (low from : ℕ) (ys : List Record) → low < from → AllFrom from ys
    → AllAbove low ys
above-from low from [] lt h = tt
above-from low from (y ∷ ys) lt h = (omega (arith, lt, h.0), above-from low from ys lt h.1)

from-append : (low : ℕ) (xs ys : List Record) → AllFrom low xs → AllFrom low ys
    → AllFrom low (xs ++ ys)
from-append low [] ys front back = back
from-append low (x ∷ xs) ys front back = (front.0, from-append low xs ys front.1 back)

ascends-append : (high : ℕ) (xs ys : List Record) → Ascends xs → AllBelow high xs → Ascends ys
    → AllFrom high ys → Ascends (xs ++ ys)
ascends-append high [] ys up below later from = later
ascends-append high (x ∷ xs) ys up below later from = (
  above-append x.ticket xs ys up.0 (above-from x.ticket high ys below.0 from),
  ascends-append high xs ys up.1 below.1 later from,
)

-- the records of later runs have later tickets
pub flat-from : (low : ℕ) (rs : List Record) → AllFrom low rs → AllFrom low (flat rs)
flat-from low [] h = tt
flat-from low (r ∷ rs) h = from-append low (laid_out r) (flat rs)
    (from-follow low r.ticket (laid_out r) h.0 (run-follows r)) (flat-from low rs h.1)

pub run-below : (r : Record) → AllBelow (r.ticket + blocks_in r.data) (laid_out r)
run-below r = below-follow r.ticket (r.ticket + blocks_in r.data) (laid_out r) (run-follows r)
    (omega (arith, length-run r))

pub flat-ascends : (rs : List Record) → RunsRise rs → Ascends (flat rs)
flat-ascends [] h = tt
flat-ascends (r ∷ rs) h = ascends-append (r.ticket + blocks_in r.data) (laid_out r) (flat rs)
    (ascends-follow r.ticket (laid_out r) (run-follows r)) (run-below r) (flat-ascends rs h.1)
    (flat-from (r.ticket + blocks_in r.data) rs h.0)

-- each block's record is among them
member-front : (x : Record) (xs ys : List Record) → Member x xs → Member x (xs ++ ys)
member-front x [] ys m = absurd m
member-front x (y ∷ xs) ys m = elim m [ inl e ↦ inl e | inr k ↦ inr (member-front x xs ys k) ]

member-back : (x : Record) (xs ys : List Record) → Member x ys → Member x (xs ++ ys)
member-back x [] ys m = m
member-back x (y ∷ xs) ys m = inr (member-back x xs ys m)

member-flat : (place : ℕ) (rs : List Record) (r x : Record) → slice_get rs place ≡ Some r
    → Member x (laid_out r) → Member x (flat rs)
member-flat place [] r x there m = absurd cc
member-flat zero (q ∷ rs) r x there m =
    let e : q ≡ r = cc in
    member-front x (laid_out q) (flat rs)
    (subst (λ (z : Record). Member x (laid_out z)) (sym e) m)
member-flat (suc place) (q ∷ rs) r x there m =
    member-back x (laid_out q) (flat rs) (member-flat place rs r x there m)

found-each : (os list : List Record) → Ascends list
    → ((x : Record) → Member x os → Member x list) → AllFound os list
found-each [] list up among = tt
found-each (o ∷ os) list up among = (
  Member-find_record list o up (among o (inl refl)),
  found-each os list up (λ x m. among x (inr m)),
)

-- each block of a run is found by its ticket
pub found-run : (place : ℕ) (rs : List Record) (r : Record) → slice_get rs place ≡ Some r
    → RunsRise rs → AllFound (laid_out r) (flat rs)
found-run place rs r there rise = found-each (laid_out r) (flat rs) (flat-ascends rs rise)
    (λ x m. member-flat place rs r x there m)

-- records with lower tickets stay as later ones change
changed-append : (f : Record → Record) (t : ℕ) (xs ys : List Record)
    → changed f t (xs ++ ys) ≡ changed f t xs ++ changed f t ys
changed-append f t [] ys = refl
changed-append f t (x ∷ xs) ys =
    ap (λ (zs : List Record). cond (x.ticket == t) (f x) x ∷ zs) (changed-append f t xs ys)

changed-below : (f : Record → Record) (t : ℕ) (xs : List Record) → AllBelow t xs
    → changed f t xs ≡ xs
changed-below f t [] h = refl
changed-below f t (x ∷ xs) h =
    let other : (x.ticket == t) ≡ false = ne_eqb x.ticket t (λ e. omega (arith, h.0, e)) in
    rw other (ap (λ (zs : List Record). x ∷ zs) (changed-below f t xs h.1))

each-skip : (f : ℕ → Record → Record) (n t : ℕ) (xs os ys : List Record) → AllBelow t xs
    → TicketsFollow t os → each_changed f n os (xs ++ ys) ≡ xs ++ each_changed f n os ys
each-skip f n t xs [] ys below follow = refl
each-skip f n t xs (o ∷ os) ys below follow =
    let here : changed (f n) o.ticket (xs ++ ys) ≡ xs ++ changed (f n) o.ticket ys =
    changed-append (f n) o.ticket xs ys
    ∙ ap (λ (zs : List Record). zs ++ changed (f n) o.ticket ys) (changed-below (f n) o.ticket xs
    (subst (λ (k : ℕ). AllBelow k xs) (sym follow.0) below)) in
    ap (λ (zs : List Record). each_changed f (n + 1) os zs) here
    ∙ each-skip f (n + 1) (t + 1) xs os (changed (f n) o.ticket ys)
    (AllBelow-rise t (t + 1) xs (omega arith) below) follow.1

-- the records with each of them changed by its number
abbrev pub each_mapped : (ℕ → Record → Record) → ℕ → List Record → List Record
each_mapped f n [] = []
each_mapped f n (o ∷ os) = f n o ∷ each_mapped f (n + 1) os

-- a run's own records all change
each-own : (f : ℕ → Record → Record) (keeps : (n : ℕ) (o : Record) → (f n o).ticket ≡ o.ticket)
    (n t : ℕ) (os ys : List Record) → TicketsFollow t os → AllFrom (t + length os) ys
    → each_changed f n os (os ++ ys) ≡ each_mapped f n os ++ ys
each-own f keeps n t [] ys follow later = refl
each-own f keeps n t (o ∷ os) ys follow later =
    let same : (o.ticket == o.ticket) ≡ true = eq-eqb o.ticket o.ticket refl in
    let above : AllAbove o.ticket (os ++ ys) = above-append o.ticket os ys
    (above-follow o.ticket (t + 1) os (omega (arith, follow.0)) follow.1)
    (above-from o.ticket (t + length (o ∷ os)) ys (omega (arith, follow.0)) later) in
    let stays : changed (f n) o.ticket (os ++ ys) ≡ os ++ ys = changed-above (f n) o.ticket
    (os ++ ys) above in
    let low : (f n o).ticket < t + 1 = omega (arith, keeps n o, follow.0) in
    let end : t + length (o ∷ os) ≡ t + 1 + length os = omega arith in
    ap (λ (b : Bool). each_changed f (n + 1) os (cond b (f n o) o ∷ changed (f n) o.ticket (os ++ ys)))
    same
    ∙ ap (λ (zs : List Record). each_changed f (n + 1) os (f n o ∷ zs)) stays
    ∙ each-skip f (n + 1) (t + 1) (f n o ∷ []) os (os ++ ys) (low, tt) follow.1
    ∙ ap (λ (zs : List Record). f n o ∷ zs) (each-own f keeps (n + 1) (t + 1) os ys follow.1
    (subst (λ (k : ℕ). AllFrom k ys) end later))

pub from-place : (t place : ℕ) (rs : List Record) (r : Record) → AllFrom t rs
    → slice_get rs place ≡ Some r → t ≤ r.ticket
from-place t place [] r all there = absurd cc
from-place t zero (q ∷ rs) r all there =
    subst (λ (x : Record). t ≤ x.ticket) (same_Some q r there) all.0
from-place t (suc place) (q ∷ rs) r all there = from-place t place rs r all.1 there

-- a change at a run's place is a change of each of its blocks, one after the other
pub each-set : (f : ℕ → Record → Record)
    (keeps : (n : ℕ) (o : Record) → (f n o).ticket ≡ o.ticket) (F : Record → Record)
    (n place : ℕ) (rs : List Record) (r : Record) → slice_get rs place ≡ Some r
    → laid_out (F r) ≡ each_mapped f n (laid_out r) → RunsRise rs
    → each_changed f n (laid_out r) (flat rs) ≡ flat (set rs place (F r))
each-set f keeps F n place [] r there does rise = absurd cc
each-set f keeps F n zero (q ∷ rs) r there does rise =
    let is : q ≡ r = same_Some q r there in
    let later : AllFrom (r.ticket + length (laid_out r)) (flat rs) =
    subst (λ (k : ℕ). AllFrom (r.ticket + k) (flat rs)) (sym (length-run r))
    (flat-from (r.ticket + blocks_in r.data) rs
    (subst (λ (x : Record). AllFrom (x.ticket + blocks_in x.data) rs) is rise.0)) in
    ap (λ (x : Record). each_changed f n (laid_out r) (laid_out x ++ flat rs)) is
    ∙ each-own f keeps n r.ticket (laid_out r) (flat rs) (run-follows r) later
    ∙ ap (λ (zs : List Record). zs ++ flat rs) (sym does)
each-set f keeps F n (suc place) (q ∷ rs) r there does rise =
    let past = from-place (q.ticket + blocks_in q.data) place rs r rise.0 there in
    each-skip f n r.ticket (laid_out q) (laid_out r) (flat rs)
    (AllBelow-rise (q.ticket + blocks_in q.data) r.ticket (laid_out q) past (run-below q))
    (run-follows r)
    ∙ ap (λ (zs : List Record). laid_out q ++ zs) (each-set f keeps F n place rs r there does rise.1)

-- a leg is reached by each block
laid-without : (leg run n ticket block : ℕ) (owed : List Bool) (entry : Option ℕ)
    (ds : List RecordData)
    → laid_from run ticket block (set owed leg false) entry ds
    ≡ each_mapped (λ k. without_leg leg) n (laid_from run ticket block owed entry ds)
laid-without leg run n ticket block owed entry [] = refl
laid-without leg run n ticket block owed entry (d ∷ ds) =
    ap (λ (xs : List Record). first ∷ xs)
    (laid-without leg run (n + 1) (ticket + 1) (block + 1) owed (next_entry entry) ds)
  where
    first : Record
    first = record {
      run = run;
      ticket = ticket;
      block = block;
      «data» = d;
      owed = set owed leg false;
      entry = entry;
    }

pub run-without : (leg n : ℕ) (r : Record)
    → laid_out (without_leg leg r) ≡ each_mapped (λ k. without_leg leg) n (laid_out r)
run-without leg n r = laid-without leg r.run n r.ticket r.block r.owed r.entry (each_block r.data)

-- and each gets its entry
laid-entry : (run number ticket block : ℕ) (owed : List Bool) (entry : Option ℕ)
    (ds : List RecordData)
    → laid_from run ticket block owed (Some number) ds
    ≡ each_mapped with_entry number (laid_from run ticket block owed entry ds)
laid-entry run number ticket block owed entry [] = refl
laid-entry run number ticket block owed entry (d ∷ ds) =
    ap (λ (xs : List Record). first ∷ xs)
    (laid-entry run (number + 1) (ticket + 1) (block + 1) owed (next_entry entry) ds)
  where
    first : Record
    first = record {
      run = run;
      ticket = ticket;
      block = block;
      «data» = d;
      owed = owed;
      entry = Some number;
    }

pub run-entry : (number : ℕ) (r : Record)
    → laid_out (with_entry number r) ≡ each_mapped with_entry number (laid_out r)
run-entry number r = laid-entry r.run number r.ticket r.block r.owed r.entry (each_block r.data)
