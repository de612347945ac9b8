-- How many bytes the replies to outstanding requests carry.
use Rattle.std.proofs.Common.{◌≡◌, ℕ, ◌+◌, ◌≤◌, Bool, true, false, List, [], ◌∷◌, ◌++◌, Result, Ok, Err, refl, sym, subst, arith}
use Rattle.std.specs.Prelude.{nat_lt, if◌then◌else◌, IfOk}
use Rattle.std.proofs.lemmas.Bool.{ltb-false}
use Rattle.nm_wire.specs.declared.export.Export.{Export}
use Rattle.nm_requests.specs.declared.request.Request.{Request}
use Rattle.nm_requests.specs.declared.task.Task.{Task}
use Rattle.nm_requests.specs.declared.task.Task.TheVariants.{Read, Write, Zero, Flush, Nothing, Disconnect}
use Rattle.nm_requests.specs.First.{message_of}
use Rattle.nm_requests.specs.Judging.{LiesInside}
use Rattle.nm_requests.specs.Message.{read_length}
use Rattle.nm_requests.specs.Stream.{StartsWith}
use Rattle.nm_session.specs.declared.outstanding.Outstanding.{Outstanding}
use Rattle.nm_session.specs.Asking.{IsJudged, outstanding_for, no_memory, refuse_long}
use Rattle.nm_session.specs.Outcome.{reply_length}
use Rattle.nm_session.specs.Session.{Session, HasRoom, bytes_asked}

bytes_append : (xs ys : List Outstanding) → bytes_asked (xs ++ ys) ≡ bytes_asked xs + bytes_asked ys
bytes_append [] ys = omega arith
bytes_append (held ∷ xs) ys = omega (arith, bytes_append xs ys)

-- those of a request that is taken out of the list
pub bytes_split : (xs before after : List Outstanding) (held : Outstanding) → xs ≡ before ++ held ∷ after
    → bytes_asked xs ≡ bytes_asked (before ++ after) + reply_length held.task
bytes_split xs before after held is =
    subst (λ (all : List Outstanding). bytes_asked all ≡ bytes_asked (before ++ after) + reply_length held.task)
    (sym is)
    (omega (arith, bytes_append before (held ∷ after), bytes_append before after))

-- those of requests of which one more follows
pub bytes_more : (xs ys all : List Outstanding) → all ≡ xs ++ ys
    → bytes_asked all ≡ bytes_asked xs + bytes_asked ys
bytes_more xs ys all is =
    subst (λ (all : List Outstanding). bytes_asked all ≡ bytes_asked xs + bytes_asked ys) (sym is)
    (bytes_append xs ys)

-- a READ that was not refused is short
short_at : (most offset length o l : ℕ) (is_long : Bool) → nat_lt most l ≡ is_long
    → Ok (Read offset length) ≡ (if is_long then Err no_memory else Ok (Read o l))
    → length ≤ most
short_at most offset length o l true long is = absurd (cc)
short_at most offset length o l false short is =
    let same : length ≡ l = cc in omega (arith, ltb-false most l short, same)

is_short : (most offset length : ℕ) (by_table : Result Task ℕ)
    → Ok (Read offset length) ≡ refuse_long most by_table → length ≤ most
is_short most offset length (Ok (Read o l)) is =
    short_at most offset length o l (nat_lt most l) refl is
is_short most offset length (Ok (Write o l fua)) is = absurd (cc)
is_short most offset length (Ok (Zero o l fua)) is = absurd (cc)
is_short most offset length (Ok Flush) is = absurd (cc)
is_short most offset length (Ok Nothing) is = absurd (cc)
is_short most offset length (Ok Disconnect) is = absurd (cc)
is_short most offset length (Err code) is = absurd (cc)

-- what is kept of a request that was judged fits beside what is outstanding
pub fits_beside : (session : Session) (request : Request) (after : List ℕ) (judged : Result Task ℕ)
    → HasRoom session → bytes_asked session.outstanding ≤ session.limit.bytes
    → StartsWith session.count session.rest (message_of request) after
    → IsJudged session.haggling.export session.limit request judged
    → IfOk judged (LiesInside request session.haggling.export)
    → bytes_asked (session.outstanding ++ outstanding_for request judged) ≤ session.limit.bytes
fits_beside session request after (Ok (Read offset length)) room few starts is inside =
    let same : read_length (message_of request).head ≡ length = rw inside.1.1 (sym inside.0.length_is) in
    let short = is_short session.limit.bytes offset length is.by_table is.judged_is in
    omega (
      arith,
      bytes_append session.outstanding (outstanding_for request (Ok (Read offset length))),
      room (message_of request) after starts (omega (arith, same, short)),
      same,
    )
fits_beside session request after (Ok (Write offset length fua)) room few starts is inside =
    omega (arith, few, bytes_append session.outstanding (outstanding_for request (Ok (Write offset length fua))))
fits_beside session request after (Ok (Zero offset length fua)) room few starts is inside =
    omega (arith, few, bytes_append session.outstanding (outstanding_for request (Ok (Zero offset length fua))))
fits_beside session request after (Ok Flush) room few starts is inside =
    omega (arith, few, bytes_append session.outstanding (outstanding_for request (Ok Flush)))
fits_beside session request after (Ok Nothing) room few starts is inside =
    omega (arith, few, bytes_append session.outstanding [])
fits_beside session request after (Ok Disconnect) room few starts is inside =
    omega (arith, few, bytes_append session.outstanding [])
fits_beside session request after (Err code) room few starts is inside =
    omega (arith, few, bytes_append session.outstanding [])

refused_inside : (most : ℕ) (request : Request) (export : Export) (by_table : Result Task ℕ)
    → IfOk by_table (LiesInside request export)
    → IfOk (refuse_long most by_table) (LiesInside request export)
refused_inside most request export (Ok (Read offset length)) inside = at (nat_lt most length)
  where
    at : (is_long : Bool)
        → IfOk (if is_long then Err no_memory else Ok (Read offset length)) (LiesInside request export)
    at true = tt
    at false = inside
refused_inside most request export (Ok (Write offset length fua)) inside = inside
refused_inside most request export (Ok (Zero offset length fua)) inside = inside
refused_inside most request export (Ok Flush) inside = inside
refused_inside most request export (Ok Nothing) inside = inside
refused_inside most request export (Ok Disconnect) inside = inside
refused_inside most request export (Err code) inside = tt

-- what is not refused lies where it lay
pub still_inside : (most : ℕ) (request : Request) (export : Export) (by_table judged : Result Task ℕ)
    → judged ≡ refuse_long most by_table → IfOk by_table (LiesInside request export)
    → IfOk judged (LiesInside request export)
still_inside most request export by_table judged is inside =
    subst (λ (result : Result Task ℕ). IfOk result (LiesInside request export)) (sym is)
    (refused_inside most request export by_table inside)
