-- Lists of writes: those of one stripe, and one list after the other.
use Rattle.std.proofs.Common.{◌≡◌, inl, inr, ℕ, ◌<◌, ◌≤◌, ◌==◌, Bool, true, false, List, [], ◌∷◌, ◌++◌, length, refl, sym, ap, ◌∙◌, append_assoc, if◌then◌else◌, arith}
use Rattle.std.proofs.lemmas.Bool.Decides.{eqb_tells}
use Rattle.nm_geometry.specs.Geometry.{Geometry, stripe_of}
use Rattle.nm_lanes.specs.declared.run_write.RunWrite.{RunWrite}
use Rattle.nm_lanes.specs.Cuts.{runs_written}
use Rattle.nm_lanes.specs.Lists.{MirrorStep, stripe_list, steps_in}
use Rattle.nm_lanes.specs.Writes.{WritesRun, WritesEach, WritesSome, writes_in, LiesIn}
use Rattle.nm_lanes.proofs.RunLemmas.{AllWithin}

kept-append : {A : Type 0} (b : Bool) (x : A) (all xs ys : List A) → all ≡ xs ++ ys → (if b then x ∷ all else all) ≡ (if b then x ∷ xs else xs) ++ ys
kept-append false x all xs ys is = is
kept-append true x all xs ys is = ap (λ zs. x ∷ zs) is

pub writes_in-append : (shape : Geometry) (stripe : ℕ) (xs ys : List RunWrite) → writes_in shape stripe (xs ++ ys) ≡ writes_in shape stripe xs ++ writes_in shape stripe ys
writes_in-append shape stripe [] ys = refl
writes_in-append shape stripe (x ∷ xs) ys =
    kept-append (stripe_of x.run.block shape == stripe) x (writes_in shape stripe (xs ++ ys)) (writes_in shape stripe xs) (writes_in shape stripe ys) (writes_in-append shape stripe xs ys)

-- some of the first are some of all
pub some-right : {L : Type 0} (shape : Geometry) (xs ys : List RunWrite) (own : List (MirrorStep L)) → WritesSome shape xs own → WritesSome shape (xs ++ ys) own
some-right shape xs ys [] a = tt
some-right shape (x ∷ xs) ys (b ∷ []) a = a
some-right shape (x ∷ xs) ys (b ∷ (e ∷ own)) a = (a.0, some-right shape xs ys own a.1)
some-right shape [] ys (b ∷ []) a = absurd a
some-right shape [] ys (b ∷ (e ∷ own)) a = absurd a

pub each-some : {L : Type 0} (shape : Geometry) (xs : List RunWrite) (own : List (MirrorStep L)) → WritesEach shape xs own → WritesSome shape xs own
each-some shape [] [] a = tt
each-some shape (x ∷ xs) (b ∷ (e ∷ own)) a = (a.0, each-some shape xs own a.1)
each-some shape [] (b ∷ own) a = absurd a
each-some shape (x ∷ xs) [] a = absurd a
each-some shape (x ∷ xs) (b ∷ []) a = absurd a

pub each-append : {L : Type 0} (shape : Geometry) (xs ys : List RunWrite) (own more : List (MirrorStep L)) → WritesEach shape xs own → WritesEach shape ys more → WritesEach shape (xs ++ ys) (own ++ more)
each-append shape [] ys [] more a b = b
each-append shape (x ∷ xs) ys (begun ∷ (claimed ∷ own)) more a b = (a.0, each-append shape xs ys own more a.1 b)
each-append shape [] ys (begun ∷ own) more a b = absurd a
each-append shape (x ∷ xs) ys [] more a b = absurd a
each-append shape (x ∷ xs) ys (begun ∷ []) more a b = absurd a

pub some-append : {L : Type 0} (shape : Geometry) (xs ys : List RunWrite) (own more : List (MirrorStep L)) → WritesEach shape xs own → WritesSome shape ys more → WritesSome shape (xs ++ ys) (own ++ more)
some-append shape [] ys [] more a b = b
some-append shape (x ∷ xs) ys (begun ∷ (claimed ∷ own)) more a b = (a.0, some-append shape xs ys own more a.1 b)
some-append shape [] ys (begun ∷ own) more a b = absurd a
some-append shape (x ∷ xs) ys [] more a b = absurd a
some-append shape (x ∷ xs) ys (begun ∷ []) more a b = absurd a

-- each run lies in a stripe of this kind
abbrev pub AllLie : (ℕ → Type 0) → Geometry → List RunWrite → Type 0
AllLie In shape [] = Unit {0}
AllLie In shape (write ∷ writes) = In (stripe_of write.run.block shape) × AllLie In shape writes

pub all-in : (shape : Geometry) (stripe : ℕ) (writes : List RunWrite) → AllLie (λ n. n ≡ stripe) shape writes → writes_in shape stripe writes ≡ writes
all-in shape stripe [] a = refl
all-in shape stripe (x ∷ xs) a = elim (eqb_tells (stripe_of x.run.block shape) stripe) [
  | inl hit ↦ rw hit.0 (ap (λ (ws : List RunWrite). x ∷ ws) (all-in shape stripe xs a.1))
  | inr miss ↦ absurd (miss.1 a.0)
]

-- writes lie where the first blocks of their runs do
pub within-lie : (In : ℕ → Type 0) (shape : Geometry) (low high : ℕ) (writes : List RunWrite) → ((b : ℕ) → low ≤ b → b < high → In (stripe_of b shape)) → AllWithin low high (runs_written writes) → AllLie In shape writes
within-lie In shape low high [] are a = tt
within-lie In shape low high (x ∷ xs) are a = (are x.run.block a.0 a.1, within-lie In shape low high xs are a.2)

pub lies-left : (shape : Geometry) (xs ys : List RunWrite) (stripe : ℕ) → LiesIn shape xs stripe → LiesIn shape (xs ++ ys) stripe
lies-left shape xs ys stripe a = record {
  first = a.first;
  write = a.write;
  rest = a.rest ++ ys;
  writes_are = ap (λ (ws : List RunWrite). ws ++ ys) a.writes_are ∙ append_assoc a.first (a.write ∷ a.rest) ys;
  stripe_is = a.stripe_is;
}

pub lies-right : (shape : Geometry) (xs ys : List RunWrite) (stripe : ℕ) → LiesIn shape ys stripe → LiesIn shape (xs ++ ys) stripe
lies-right shape xs ys stripe a = record {
  first = xs ++ a.first;
  write = a.write;
  rest = a.rest;
  writes_are = ap (λ (ws : List RunWrite). xs ++ ws) a.writes_are ∙ sym (append_assoc xs a.first (a.write ∷ a.rest));
  stripe_is = a.stripe_is;
}

-- a stripe's steps of a list of writes are the writes of the stripe's runs
each-here : {L : Type 0} (shape : Geometry) (stripe : ℕ) (x : RunWrite) (xs : List RunWrite) (begun claimed : MirrorStep L) (own : List (MirrorStep L))
    → stripe_of x.run.block shape ≡ stripe → WritesRun shape x begun claimed → WritesEach shape xs (steps_in stripe (stripe_list stripe own))
    → WritesEach shape (x ∷ xs) (steps_in stripe (begun.done ∷ claimed.done ∷ stripe_list stripe own))
each-here shape stripe x xs begun claimed own hit a b = (
  record {
    ticket = a.ticket;
    begins = record { stripe = sym hit; step = a.begins.step; begun = a.begins.begun };
    stripe = sym hit;
    claims = a.claims;
    written = a.written;
  },
  b,
)

pub each-in : {L : Type 0} (shape : Geometry) (stripe : ℕ) (writes : List RunWrite) (own : List (MirrorStep L)) → WritesEach shape writes own → WritesEach shape (writes_in shape stripe writes) (steps_in stripe (stripe_list stripe own))
each-in shape stripe [] [] a = tt
each-in shape stripe (x ∷ xs) (begun ∷ (claimed ∷ own)) a = elim (eqb_tells (stripe_of x.run.block shape) stripe) [
  | inl hit ↦ rw (a.0.begins.stripe, a.0.stripe, hit.0) (each-here shape stripe x (writes_in shape stripe xs) begun claimed own hit.1 a.0 (each-in shape stripe xs own a.1))
  | inr miss ↦ rw (a.0.begins.stripe, a.0.stripe, miss.0) (each-in shape stripe xs own a.1)
]
each-in shape stripe [] (begun ∷ own) a = absurd a
each-in shape stripe (x ∷ xs) [] a = absurd a
each-in shape stripe (x ∷ xs) (begun ∷ []) a = absurd a

-- the first run lies in its stripe
pub lies-first : (shape : Geometry) (stripe : ℕ) (writes : List RunWrite) → 0 < length writes → AllLie (λ n. n ≡ stripe) shape writes → LiesIn shape writes stripe
lies-first shape stripe [] some a = absurd (omega (arith, some))
lies-first shape stripe (x ∷ xs) some a = record { first = []; write = x; rest = xs; writes_are = refl; stripe_is = sym a.0 }
