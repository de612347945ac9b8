-- A request that was read and settled is asked, and what comes next is what was answered.
use Rattle.std.proofs.Common.{◌≡◌, ℕ, zero, suc, ◌+◌, List, ◌++◌, length, Option, Result, Ok, Err, refl, sym, ◌∙◌, subst, inl, inr}
use Rattle.std.specs.Prelude.{◌<◌, ◌≤◌, [], ◌∷◌, All, IfOk, IfSome}
use Rattle.std.proofs.Common.{arith}
use Rattle.std.proofs.lemmas.List.Elements.{All-append, All-nil}
use Rattle.nm_session.specs.declared.outstanding.Outstanding.{Outstanding}
use Rattle.nm_requests.specs.declared.request.Request.{Request}
use Rattle.nm_requests.specs.declared.task.Task.{Task}
use Rattle.nm_requests.specs.declared.task.Task.TheVariants.{Read, Write, Zero, Flush, Nothing, Disconnect}
use Rattle.nm_requests.specs.First.{message_of}
use Rattle.nm_requests.specs.Judging.{LiesInside}
use Rattle.nm_requests.specs.Stream.{StartsWith}
use Rattle.nm_wire.specs.declared.export.Export.{Export}
use Rattle.nm_session.specs.declared.next.Next.{Next}
use Rattle.nm_session.specs.declared.stage.Stage.TheVariants as stage
use Rattle.nm_session.specs.Session.{Session, IsReading, bytes_asked}
use Rattle.nm_session.specs.Asking.{Asks, IsJudged, outstanding_for, own_reply, stage_after, next_after}
use Rattle.nm_session.specs.Reading.{Tells}
use Rattle.nm_session.proofs.Sessions.{same_session}

-- what was found out of the first request
pub record IsFound (old : Session) (rest : List ℕ) (request : Request) (judged : Result Task ℕ)
    : Type 0 where
  pub reading : IsReading old
  pub index_is : request.index ≡ old.count
  pub first : StartsWith old.count old.rest (message_of request) rest
  pub is_judged : IsJudged old.haggling.export old.limit request judged
  pub inside : IfOk judged (LiesInside request old.haggling.export)
  pub within : bytes_asked (old.outstanding ++ outstanding_for request judged) ≤ old.limit.bytes

-- what was done with it
pub record IsSettled (old new : Session) (request : Request) (judged : Result Task ℕ)
    : Type 0 where
  pub limit : new.limit ≡ old.limit
  pub stage : new.stage ≡ stage_after judged
  pub haggling : new.haggling ≡ old.haggling
  pub count : new.count ≡ old.count + 1
  pub outstanding : new.outstanding ≡ old.outstanding ++ outstanding_for request judged
  pub out : new.out ≡ old.out ++ own_reply request judged

pub asked : (old new : Session) (request : Request) (judged : Result Task ℕ)
    → IsFound old new.rest request judged → IsSettled old new request judged
    → Asks old request judged new
asked old new request judged found settled = record {
  reading = found.reading;
  index_is = found.index_is;
  first = found.first;
  is_judged = found.is_judged;
  inside = found.inside;
  within = found.within;
  new_is = same_session new (record old {
    stage = stage_after judged;
    rest = new.rest;
    count = old.count + 1;
    outstanding = old.outstanding ++ outstanding_for request judged;
    out = old.out ++ own_reply request judged;
  }) settled.limit settled.stage settled.haggling refl settled.count settled.outstanding
      settled.out;
}

-- a WRITE's payload fills its bytes
payload_fills : (before : ℕ) (bytes after : List ℕ) (request : Request) (export : Export)
    (offset count : ℕ) → StartsWith before bytes (message_of request) after
    → (fua : _) → LiesInside request export (Write offset count fua)
    → length request.payload ≡ count
payload_fills before bytes after request export offset count starts fua inside =
    (rw inside.1 at starts.valid.whole) ∙ sym inside.0.length_is

tells_at : (old new : Session) (request : Request) (judged : Result Task ℕ)
    → Asks old request judged new
    → IfSome (next_after request judged) (λ next. Tells old next new)
tells_at old new request (Ok (Read offset count)) asks =
    record { request = request; asks = asks; is_next = refl; fills = tt }
tells_at old new request (Ok (Write offset count fua)) asks = record {
  request = request;
  asks = asks;
  is_next = refl;
  fills = payload_fills old.count old.rest new.rest request old.haggling.export offset count
      asks.first fua asks.inside;
}
tells_at old new request (Ok (Zero offset count fua)) asks =
    record { request = request; asks = asks; is_next = refl; fills = tt }
tells_at old new request (Ok Flush) asks =
    record { request = request; asks = asks; is_next = refl; fills = tt }
tells_at old new request (Ok Nothing) asks = tt
tells_at old new request (Ok Disconnect) asks =
    inr (inl (record { request = request; asks = asks }))
tells_at old new request (Err code) asks = tt

pub tells : (old new : Session) (request : Request) (judged : Result Task ℕ)
    (next : Option Next) → Asks old request judged new → next ≡ next_after request judged
    → IfSome next (λ n. Tells old n new)
tells old new request judged next asks e =
    subst (λ (o : Option Next). IfSome o (λ n. Tells old n new)) (sym e)
    (tells_at old new request judged asks)

-- after a request the haggling does not begin again
pub goes_on : (judged : Result Task ℕ) → stage_after judged ≡ stage.Haggling → ⊥
goes_on (Ok (Read offset count)) e = cc
goes_on (Ok (Write offset count fua)) e = cc
goes_on (Ok (Zero offset count fua)) e = cc
goes_on (Ok Flush) e = cc
goes_on (Ok Nothing) e = cc
goes_on (Ok Disconnect) e = cc
goes_on (Err code) e = cc

-- every request that is kept was read
later : (xs : List Outstanding) (count : ℕ) → All (λ held. held.index < count) xs
    → All (λ held. held.index < count + 1) xs
later xs count all k d below = omega (arith, all k d below)

one : (held : Outstanding) (count : ℕ) → held.index ≡ count
    → All (λ h. h.index < count + 1) (held ∷ [])
one held count is zero d below = omega (arith, is)
one held count is (suc k) d below = absurd (omega arith)

joined : (xs ys : List Outstanding) (count : ℕ) → All (λ held. held.index < count) xs
    → All (λ held. held.index < count + 1) ys
    → All (λ held. held.index < count + 1) (xs ++ ys)
joined xs ys count all more =
    All-append (λ held. held.index < count + 1) xs ys (later xs count all) more

none : (count : ℕ) → All (λ (held : Outstanding). held.index < count + 1) []
none count = All-nil (λ held. held.index < count + 1)

pub known_after : (xs : List Outstanding) (request : Request) (judged : Result Task ℕ) (count : ℕ)
    → request.index ≡ count → All (λ held. held.index < count) xs
    → All (λ held. held.index < count + 1) (xs ++ outstanding_for request judged)
known_after xs request (Ok (Read offset n)) count is all =
    joined xs _ count all (one (record {
      index = request.index;
      task = Read offset n;
      cookie = request.cookie;
    }) count is)
known_after xs request (Ok (Write offset n fua)) count is all =
    joined xs _ count all (one (record {
      index = request.index;
      task = Write offset n fua;
      cookie = request.cookie;
    }) count is)
known_after xs request (Ok (Zero offset n fua)) count is all =
    joined xs _ count all (one (record {
      index = request.index;
      task = Zero offset n fua;
      cookie = request.cookie;
    }) count is)
known_after xs request (Ok Flush) count is all =
    joined xs _ count all (one (record {
      index = request.index;
      task = Flush;
      cookie = request.cookie;
    }) count is)
known_after xs request (Ok Nothing) count is all = joined xs [] count all (none count)
known_after xs request (Ok Disconnect) count is all = joined xs [] count all (none count)
known_after xs request (Err code) count is all = joined xs [] count all (none count)
