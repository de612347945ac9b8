-- Lists of reads: those of one stripe, and one list after the other.
use Rattle.std.proofs.Common.{◌≡◌, inl, inr, ℕ, List, [], ◌∷◌, ◌++◌, refl, sym, ap, ◌∙◌, append_assoc}
use Rattle.std.proofs.lemmas.Bool.Decides.{eqb_tells}
use Rattle.nm_lanes.specs.declared.run.Run.{Run}
use Rattle.nm_geometry.specs.Geometry.{Geometry, stripe_of}
use Rattle.nm_lanes.specs.Lists.{MirrorStep, stripe_list, steps_in}
use Rattle.nm_lanes.specs.Reads.{ReadsRun, ReadsEach, ReadsSome, bytes_found, run_bytes, runs_in}

-- some of the first are some of all
pub some-right : {L : Type 0} (shape : Geometry) (xs ys : List Run) (own : List (MirrorStep L)) → ReadsSome shape xs own → ReadsSome shape (xs ++ ys) own
some-right shape xs ys [] a = tt
some-right shape (x ∷ xs) ys (d ∷ own) a = (a.0, some-right shape xs ys own a.1)
some-right shape [] ys (d ∷ own) a = absurd a

pub each-some : {L : Type 0} (shape : Geometry) (xs : List Run) (own : List (MirrorStep L)) → ReadsEach shape xs own → ReadsSome shape xs own
each-some shape [] [] a = tt
each-some shape (x ∷ xs) (d ∷ own) a = (a.0, each-some shape xs own a.1)
each-some shape [] (d ∷ own) a = absurd a
each-some shape (x ∷ xs) [] a = absurd a

pub each-append : {L : Type 0} (shape : Geometry) (xs ys : List Run) (own more : List (MirrorStep L)) → ReadsEach shape xs own → ReadsEach shape ys more → ReadsEach shape (xs ++ ys) (own ++ more)
each-append shape [] ys [] more a b = b
each-append shape (x ∷ xs) ys (d ∷ own) more a b = (a.0, each-append shape xs ys own more a.1 b)
each-append shape [] ys (d ∷ own) more a b = absurd a
each-append shape (x ∷ xs) ys [] more a b = absurd a

pub some-append : {L : Type 0} (shape : Geometry) (xs ys : List Run) (own more : List (MirrorStep L)) → ReadsEach shape xs own → ReadsSome shape ys more → ReadsSome shape (xs ++ ys) (own ++ more)
some-append shape [] ys [] more a b = b
some-append shape (x ∷ xs) ys (d ∷ own) more a b = (a.0, some-append shape xs ys own more a.1 b)
some-append shape [] ys (d ∷ own) more a b = absurd a
some-append shape (x ∷ xs) ys [] more a b = absurd a

-- what was found at the first runs, and then at the others
pub found-append : {L : Type 0} (shape : Geometry) (xs ys : List Run) (own more : List (MirrorStep L)) → ReadsEach shape xs own → bytes_found (xs ++ ys) (own ++ more) ≡ bytes_found xs own ++ bytes_found ys more
found-append shape [] ys [] more a = refl
found-append shape (x ∷ xs) ys (d ∷ own) more a =
    ap (λ bs. run_bytes x d.done.answer ++ bs) (found-append shape xs ys own more a.1) ∙ sym (append_assoc (run_bytes x d.done.answer) (bytes_found xs own) (bytes_found ys more))
found-append shape [] ys (d ∷ own) more a = absurd a
found-append shape (x ∷ xs) ys [] more a = absurd a

-- a stripe's steps of a list of reads are the reads of the stripe's runs
each-here : {L : Type 0} (shape : Geometry) (stripe : ℕ) (x : Run) (xs : List Run) (d : MirrorStep L) (own : List (MirrorStep L))
    → stripe_of x.block shape ≡ stripe → ReadsRun shape x d → ReadsEach shape xs (steps_in stripe (stripe_list stripe own))
    → ReadsEach shape (x ∷ xs) (steps_in stripe (d.done ∷ stripe_list stripe own))
each-here shape stripe x xs d own hit a b = (record { stripe = sym hit; room = a.room; long = a.long; step = a.step; value = a.value }, b)

pub each-in : {L : Type 0} (shape : Geometry) (stripe : ℕ) (runs : List Run) (own : List (MirrorStep L)) → ReadsEach shape runs own → ReadsEach shape (runs_in shape stripe runs) (steps_in stripe (stripe_list stripe own))
each-in shape stripe [] [] a = tt
each-in shape stripe (x ∷ xs) (d ∷ own) a = elim (eqb_tells (stripe_of x.block shape) stripe) [
  | inl hit ↦ rw (a.0.stripe, hit.0) (each-here shape stripe x (runs_in shape stripe xs) d own hit.1 a.0 (each-in shape stripe xs own a.1))
  | inr miss ↦ rw (a.0.stripe, miss.0) (each-in shape stripe xs own a.1)
]
each-in shape stripe [] (d ∷ own) a = absurd a
each-in shape stripe (x ∷ xs) [] a = absurd a
