-- The cookie of each outstanding request is that of the request of its index.
use Rattle.std.proofs.Common.{◌≡◌, ℕ, ◌+◌, ◌<◌, Bool, false, true, eqb, List, [], ◌∷◌, ◌++◌, Result, Ok, Err, refl, arith}
use Rattle.std.specs.List.{AllByRecursion}
use Rattle.std.proofs.Math.Dec.{eqb_refl, T}
use Rattle.std.proofs.lemmas.Bool.{ne_eqb}
use Rattle.nm_haggle.proofs.Pieces.{all_append}
use Rattle.nm_requests.specs.declared.request.Request.{Request}
use Rattle.nm_requests.specs.declared.task.Task.{Task}
use Rattle.nm_requests.specs.declared.task.Task.TheVariants.{Read, Write, Zero, Flush, Nothing, Disconnect}
use Rattle.nm_session.specs.declared.outstanding.Outstanding.{Outstanding}
use Rattle.nm_session.specs.Asking.{outstanding_for}
use Rattle.nm_session.specs.Text.{cookie_of}

-- the request was read, and has this cookie
pub record Knows (before : List Request) (count : ℕ) (held : Outstanding) : Type 0 where
  pub cookie : cookie_of held.index before ≡ held.cookie
  pub read : held.index < count

abbrev pub AreKnown : List Request → ℕ → List Outstanding → Type 0
AreKnown before count outstanding = AllByRecursion (Knows before count) outstanding

-- a request that is read later has another index
later : (before : List Request) (count : ℕ) (request : Request) (held : Outstanding)
    → request.index ≡ count → Knows before count held → Knows (request ∷ before) (count + 1) held
later before count request held is knows = record {
  cookie = rw (ne_eqb request.index held.index (λ e. omega (arith, knows.read, is, e))) knows.cookie;
  read = omega (arith, knows.read);
}

all_later : (before : List Request) (count : ℕ) (request : Request) (xs : List Outstanding)
    → request.index ≡ count → AreKnown before count xs → AreKnown (request ∷ before) (count + 1) xs
all_later before count request [] is known = tt
all_later before count request (held ∷ xs) is known =
    (later before count request held is known.0, all_later before count request xs is known.1)

is_true : (b : Bool) → T b → b ≡ true
is_true true t = refl
is_true false t = absurd t

eqb_same : (n : ℕ) → eqb n n ≡ true
eqb_same n = is_true (eqb n n) (eqb_refl n)

-- the request that is issued
one : (before : List Request) (count : ℕ) (request : Request) (task : Task)
    → request.index ≡ count
    → Knows (request ∷ before) (count + 1)
    (record { index = request.index; task = task; cookie = request.cookie })
one before count request task is = record {
  cookie = rw (eqb_same request.index) refl;
  read = omega (arith, is);
}

issue : (before : List Request) (count : ℕ) (request : Request) (judged : Result Task ℕ)
    → request.index ≡ count → AreKnown (request ∷ before) (count + 1) (outstanding_for request judged)
issue before count request (Ok (Read offset n)) is =
    (one before count request (Read offset n) is, tt)
issue before count request (Ok (Write offset n fua)) is =
    (one before count request (Write offset n fua) is, tt)
issue before count request (Ok (Zero offset n fua)) is =
    (one before count request (Zero offset n fua) is, tt)
issue before count request (Ok Flush) is = (one before count request Flush is, tt)
issue before count request (Ok Nothing) is = tt
issue before count request (Ok Disconnect) is = tt
issue before count request (Err code) is = tt

pub known_asked : (before : List Request) (count : ℕ) (request : Request)
    (judged : Result Task ℕ) (xs : List Outstanding) → request.index ≡ count
    → AreKnown before count xs
    → AreKnown (request ∷ before) (count + 1) (xs ++ outstanding_for request judged)
known_asked before count request judged xs is known =
    all_append (Knows (request ∷ before) (count + 1)) xs (outstanding_for request judged)
    (all_later before count request xs is known) (issue before count request judged is)

-- one that is taken out of the list, and the others
pub taken_out : (P : Outstanding → Type 0) (xs : List Outstanding) (held : Outstanding) (ys : List Outstanding)
    → AllByRecursion P (xs ++ held ∷ ys) → P held × AllByRecursion P (xs ++ ys)
taken_out P [] held ys all = all
taken_out P (x ∷ xs) held ys all =
    let others = taken_out P xs held ys all.1 in (others.0, (all.0, others.1))
