-- A number is replied to once: a reply spends it, and what is spent stays so. Two answers whose
-- numbers lie among each other would share one.
use Rattle.std.proofs.Common.{◌≡◌, ◌⊎◌, inl, inr, ⊎_elim, ℕ, zero, suc, ◌+◌, ◌<◌, ◌≤◌, ◌==◌, true, false, List, [], ◌∷◌, ◌++◌, length, None, Some, nat_lt, cond, refl, sym, ap, ◌∙◌, subst, arith, eq-eqb, eq-or-lt_of_le}
use Rattle.std.proofs.lemmas.Option.{same_Some}
use Rattle.nm_replay.specs.declared.block.Block.{Block}
use Rattle.nm_replay.specs.Array.{Span, Entire, Piece}
use Rattle.nm_replay.specs.Events.{Event, BeginsRead, BeginsWrite, Lands, RepliesRead, RepliesWrite, entry_of_write, marks_of}
use Rattle.nm_replay.specs.Kept.{ticket_in}
use Rattle.nm_replay.specs.ReadLives.{ReadLife, ReadLives, ReadStep}
use Rattle.nm_replay.specs.ReadLives.{NotBegun as Unread, Begun as Reading, Landed as Found, Closed}
use Rattle.nm_replay.specs.WriteLives.{Begun, Landed, NotBegun, Replied, WriteLife, WriteLives, WriteStep}
use Rattle.nm_replay.proofs.ReadStages.{ReadMove, read-cut, read-move, read-replies}
use Rattle.nm_replay.proofs.ReadStages.{Stays as Remains, Begins as ReadBegins, Enters as ReadEnters, Closes, Ends as ReadEnds}
use Rattle.nm_replay.proofs.WriteStages.{WriteMove, write-cut, write-move, write-replies}
use Rattle.nm_replay.proofs.WriteStages.{Stays, Begins, Enters, Ends}
use Rattle.nm_fanout.specs.declared.write_record.Record.{Record}
use Rattle.nm_leg.specs.Leg.{LegType, blocks_of}
use Rattle.nm_fanout.specs.Records.{find_record}
use Rattle.nm_rules.specs.Array.{life_of, read_life, write_life}
use Rattle.nm_rules.specs.RunClaim.{replies_of}
use Rattle.nm_rules.specs.RunRead.{marks_of_reads}
use Rattle.nm_rules.specs.Runs.{EntryNames}
use Rattle.nm_rules.specs.State.{StripeState}
use Rattle.nm_stripe.specs.declared.answer.Answer.{Answer}
use Rattle.nm_stripe.specs.declared.answer.Answer.TheVariants.{Written, Value}
use Rattle.nm_stripe.specs.declared.step.Step.{Step}
use Rattle.nm_stripe.specs.declared.step.Step.TheVariants.{Claim, Read}
use Rattle.nm_stripe.specs.Apart.{AreApart, names_at, names_in}
use Rattle.nm_stripe.specs.Run.{ActOnOneArray, IsInterleaving, Runs, StepOf, concat, marks}
use Rattle.nm_stripe.proofs.ClaimLemmas.{claimed-some}

-- the event is the entry of the write of this ticket, under this number
record IsEntry (q t : ℕ) (event : Event) : Type 0 where
  pub block : ℕ
  pub span : Span
  pub bytes : Block
  pub seen : event ≡ Lands (entry_of_write q t block span bytes)

-- a write that has landed under a number had done so before, or this event is its entry
landed-by : (q t : ℕ) (old mid : WriteLife) (event : Event) → WriteStep t old event mid → mid ≡ Landed q → (old ≡ Landed q) ⊎ IsEntry q t event
landed-by q t old mid event step is = by (write-move t old mid event step)
  where
    by : WriteMove t old event mid → (old ≡ Landed q) ⊎ IsEntry q t event
    by (Stays same) = inl (sym same ∙ is)
    by (Begins block put seen from to) = absurd (let clash : Begun block put ≡ Landed q = sym to ∙ is in cc)
    by (Enters n block span bytes seen from to) =
        let one : Landed n ≡ Landed q = sym to ∙ is in
        let same : n ≡ q = cc in
        inr (record { block = block; span = span; bytes = bytes; seen = seen ∙ ap (λ (m : ℕ). Lands (entry_of_write m t block span bytes)) same })
    by (Ends n seen from to) = absurd (let clash : Replied ≡ Landed q = sym to ∙ is in cc)

-- an entry of a write closes its number to reads
entry-closes : (q t : ℕ) (was is : ReadLife) (event : Event) → IsEntry q t event → ReadStep q was event is → (was ≡ Unread) × (is ≡ Closed)
entry-closes q t was is event entry step = by entry.span (subst (λ (e : Event). ReadStep q was e is) entry.seen step)
  where
    by : (span : Span) → ReadStep q was (Lands (entry_of_write q t entry.block span entry.bytes)) is → (was ≡ Unread) × (is ≡ Closed)
    by Entire s = let yes : (q == q) ≡ true = eq-eqb q q refl in rw yes at s
    by (Piece from len) s = let yes : (q == q) ≡ true = eq-eqb q q refl in rw yes at s

-- it is the entry of one write alone
abbrev ticket_of : Event → ℕ
ticket_of (Lands entry) = ticket_in entry.kind
ticket_of (BeginsRead number block) = 0
ticket_of (BeginsWrite ticket block put) = 0
ticket_of (RepliesRead number bytes) = 0
ticket_of (RepliesWrite ticket number) = 0

entry-ticket : (q t : ℕ) (event : Event) → IsEntry q t event → ticket_of event ≡ t
entry-ticket q t event entry = ap (λ (e : Event). ticket_of e) entry.seen ∙ by entry.span
  where
    by : (span : Span) → ticket_of (Lands (entry_of_write q t entry.block span entry.bytes)) ≡ t
    by Entire = refl
    by (Piece from len) = refl

-- what is closed to reads stays so
closed-stays : (q : ℕ) (was is : ReadLife) (event : Event) → ReadStep q was event is → was ≡ Closed → is ≡ Closed
closed-stays q was is event step closed = by (read-move q was is event step)
  where
    by : ReadMove q was event is → is ≡ Closed
    by (Remains same) = same ∙ closed
    by (ReadBegins block seen from to) = absurd (let clash : Unread ≡ Closed = sym from ∙ closed in cc)
    by (ReadEnters block bytes seen from to) = absurd (let clash : Reading block ≡ Closed = sym from ∙ closed in cc)
    by (Closes from to) = to
    by (ReadEnds bytes seen from to) = to

-- at most one write has landed under the number and is not replied to; then no read has it
record HasOneWriter (q : ℕ) (writes : ℕ → WriteLife) (read : ReadLife) : Type 0 where
  pub one : (t u : ℕ) → writes t ≡ Landed q → writes u ≡ Landed q → t ≡ u
  pub closed : (t : ℕ) → writes t ≡ Landed q → read ≡ Closed

-- the number has been replied to: neither a write nor a read has it any more
record IsSpent (q : ℕ) (writes : ℕ → WriteLife) (read : ReadLife) : Type 0 where
  pub closed : read ≡ Closed
  pub none : (t : ℕ) → ¬ (writes t ≡ Landed q)

-- the event replies with the number
abbrev RepliesWith : ℕ → Event → Type 0
RepliesWith q (BeginsRead number block) = ⊥
RepliesWith q (BeginsWrite ticket block put) = ⊥
RepliesWith q (Lands entry) = ⊥
RepliesWith q (RepliesRead number bytes) = number ≡ q
RepliesWith q (RepliesWrite ticket number) = number ≡ q

module _ (q : ℕ) (old mid : ℕ → WriteLife) (was is : ReadLife) (event : Event) (writes : (t : ℕ) → WriteStep t (old t) event (mid t)) (reads : ReadStep q was event is) where
  one-step : HasOneWriter q old was → HasOneWriter q mid is
  one-step had = record { one = one; closed = closed }
    where
      late : (t u : ℕ) → old t ≡ Landed q → IsEntry q u event → ⊥
      late t u landed entry = let clash : Closed ≡ Unread = sym (had.closed t landed) ∙ (entry-closes q u was is event entry reads).0 in cc

      one : (t u : ℕ) → mid t ≡ Landed q → mid u ≡ Landed q → t ≡ u
      one t u first second =
          ⊎_elim
          (λ landed. ⊎_elim (λ other. had.one t u landed other) (λ entry. absurd (late t u landed entry)) (landed-by q u (old u) (mid u) event (writes u) second))
          (λ entry. ⊎_elim (λ landed. absurd (late u t landed entry)) (λ other. sym (entry-ticket q t event entry) ∙ entry-ticket q u event other) (landed-by q u (old u) (mid u) event (writes u) second))
          (landed-by q t (old t) (mid t) event (writes t) first)

      closed : (t : ℕ) → mid t ≡ Landed q → is ≡ Closed
      closed t at =
          ⊎_elim
          (λ landed. closed-stays q was is event reads (had.closed t landed))
          (λ entry. (entry-closes q t was is event entry reads).1)
          (landed-by q t (old t) (mid t) event (writes t) at)

  spent-step : IsSpent q old was → IsSpent q mid is
  spent-step spent = record {
    closed = closed-stays q was is event reads spent.closed;
    none = λ t at. ⊎_elim
        (λ landed. spent.none t landed)
        (λ entry. let clash : Closed ≡ Unread = sym spent.closed ∙ (entry-closes q t was is event entry reads).0 in cc)
        (landed-by q t (old t) (mid t) event (writes t) at);
  }

-- a reply spends the number
reply-spends : (q : ℕ) (old mid : ℕ → WriteLife) (was is : ReadLife) (event : Event) → ((t : ℕ) → WriteStep t (old t) event (mid t)) → ReadStep q was event is → RepliesWith q event → HasOneWriter q old was → IsSpent q mid is
reply-spends q old mid was is (RepliesRead number bytes) writes reads same had =
    let own : ReadStep q was (RepliesRead q bytes) is = subst (λ (n : ℕ). ReadStep q was (RepliesRead n bytes) is) same reads in
    let found = read-replies q bytes was is own in
    record {
      closed = found.1;
      none = λ t at. let clash : Found bytes ≡ Closed = sym found.0 ∙ had.closed t (sym (writes t) ∙ at) in cc;
    }
reply-spends q old mid was is (RepliesWrite ticket number) writes reads same had =
    let replied = write-replies ticket number (old ticket) (mid ticket) (writes ticket) in
    let landed : old ticket ≡ Landed q = replied.0 ∙ ap (λ (n : ℕ). Landed n) same in
    record {
      closed = reads ∙ had.closed ticket landed;
      none = λ t at. ⊎_elim
          (λ other. let own : t ≡ ticket = had.one t ticket other landed in
          let clash : Landed q ≡ Replied = sym at ∙ (ap (λ (u : ℕ). mid u) own ∙ replied.1) in cc)
          (λ entry. let clash : RepliesWrite ticket number ≡ Lands (entry_of_write q t entry.block entry.span entry.bytes) = entry.seen in cc)
          (landed-by q t (old t) (mid t) (RepliesWrite ticket number) (writes t) at);
    }
reply-spends q old mid was is event writes reads same had = absurd same

-- nothing replies with a number that is spent
spent-silent : (q : ℕ) (old mid : ℕ → WriteLife) (was is : ReadLife) (event : Event) → ((t : ℕ) → WriteStep t (old t) event (mid t)) → ReadStep q was event is → RepliesWith q event → IsSpent q old was → ⊥
spent-silent q old mid was is (RepliesRead number bytes) writes reads same spent =
    let own : ReadStep q was (RepliesRead q bytes) is = subst (λ (n : ℕ). ReadStep q was (RepliesRead n bytes) is) same reads in
    let clash : Found bytes ≡ Closed = sym (read-replies q bytes was is own).0 ∙ spent.closed in cc
spent-silent q old mid was is (RepliesWrite ticket number) writes reads same spent =
    spent.none ticket ((write-replies ticket number (old ticket) (mid ticket) (writes ticket)).0 ∙ ap (λ (n : ℕ). Landed n) same)
spent-silent q old mid was is event writes reads same spent = same

-- one of the events replies with the number
abbrev HasReply : ℕ → List Event → Type 0
HasReply q [] = ⊥
HasReply q (event ∷ events) = RepliesWith q event ⊎ HasReply q events

has-first : (q : ℕ) (xs ys : List Event) → HasReply q xs → HasReply q (xs ++ ys)
has-first q [] ys has = absurd has
has-first q (x ∷ xs) ys has = ⊎_elim (λ here. inl here) (λ there. inr (has-first q xs ys there)) has

has-later : (q : ℕ) (xs ys : List Event) → HasReply q ys → HasReply q (xs ++ ys)
has-later q [] ys has = has
has-later q (x ∷ xs) ys has = inr (has-later q xs ys has)

-- the marks have all replies
has-marked : (q : ℕ) (events : List Event) → HasReply q (marks_of events) → HasReply q events
has-marked q [] has = has
has-marked q (BeginsRead number block ∷ events) has = ⊎_elim (λ here. absurd here) (λ there. inr (has-marked q events there)) has
has-marked q (BeginsWrite ticket block put ∷ events) has = ⊎_elim (λ here. absurd here) (λ there. inr (has-marked q events there)) has
has-marked q (Lands entry ∷ events) has = inr (has-marked q events has)
has-marked q (RepliesRead number bytes ∷ events) has = ⊎_elim (λ here. inl here) (λ there. inr (has-marked q events there)) has
has-marked q (RepliesWrite ticket number ∷ events) has = ⊎_elim (λ here. inl here) (λ there. inr (has-marked q events there)) has

-- all writes and the read of the number live through the events
record Live (q : ℕ) (old new : ℕ → WriteLife) (was is : ReadLife) (events : List Event) : Type 0 where
  pub writes : (t : ℕ) → WriteLives t (old t) events (new t)
  pub reads : ReadLives q was events is

-- as the events after the first do, and so those before and after a cut
module _ (q : ℕ) (old new : ℕ → WriteLife) (was is : ReadLife) where
  abbrev mid : (event : Event) (events : List Event) → Live q old new was is (event ∷ events) → ℕ → WriteLife
  mid event events live t = (live.writes t).0

  rest : (event : Event) (events : List Event) (live : Live q old new was is (event ∷ events)) → Live q (mid event events live) new live.reads.0 is events
  rest event events live = record { writes = λ t. (live.writes t).2; reads = live.reads.2 }

  abbrev cut : (xs ys : List Event) → Live q old new was is (xs ++ ys) → ℕ → WriteLife
  cut xs ys live t = (write-cut t (old t) (new t) xs ys (live.writes t)).0

  abbrev read_cut : (xs ys : List Event) → Live q old new was is (xs ++ ys) → ReadLife
  read_cut xs ys live = (read-cut q was is xs ys live.reads).0

  front : (xs ys : List Event) (live : Live q old new was is (xs ++ ys)) → Live q old (cut xs ys live) was (read_cut xs ys live) xs
  front xs ys live = record {
    writes = λ t. (write-cut t (old t) (new t) xs ys (live.writes t)).1;
    reads = (read-cut q was is xs ys live.reads).1;
  }

  back : (xs ys : List Event) (live : Live q old new was is (xs ++ ys)) → Live q (cut xs ys live) new (read_cut xs ys live) is ys
  back xs ys live = record {
    writes = λ t. (write-cut t (old t) (new t) xs ys (live.writes t)).2;
    reads = (read-cut q was is xs ys live.reads).2;
  }

one-after : (q : ℕ) (events : List Event) (old new : ℕ → WriteLife) (was is : ReadLife) → Live q old new was is events → HasOneWriter q old was → HasOneWriter q new is
one-after q [] old new was is live had = record {
  one = λ t u first second. had.one t u (sym (live.writes t) ∙ first) (sym (live.writes u) ∙ second);
  closed = λ t at. live.reads ∙ had.closed t (sym (live.writes t) ∙ at);
}
one-after q (event ∷ events) old new was is live had =
    one-after q events (mid q old new was is event events live) new live.reads.0 is (rest q old new was is event events live)
    (one-step q old (mid q old new was is event events live) was live.reads.0 event (λ t. (live.writes t).1) live.reads.1 had)

spent-after : (q : ℕ) (events : List Event) (old new : ℕ → WriteLife) (was is : ReadLife) → Live q old new was is events → IsSpent q old was → IsSpent q new is
spent-after q [] old new was is live spent = record { closed = live.reads ∙ spent.closed; none = λ t at. spent.none t (sym (live.writes t) ∙ at) }
spent-after q (event ∷ events) old new was is live spent =
    spent-after q events (mid q old new was is event events live) new live.reads.0 is (rest q old new was is event events live)
    (spent-step q old (mid q old new was is event events live) was live.reads.0 event (λ t. (live.writes t).1) live.reads.1 spent)

reply-after : (q : ℕ) (events : List Event) (old new : ℕ → WriteLife) (was is : ReadLife) → Live q old new was is events → HasReply q events → HasOneWriter q old was → IsSpent q new is
reply-after q [] old new was is live has had = absurd has
reply-after q (event ∷ events) old new was is live has had =
    let now = mid q old new was is event events live in
    let later = rest q old new was is event events live in
    ⊎_elim
    (λ here. spent-after q events now new live.reads.0 is later (reply-spends q old now was live.reads.0 event (λ t. (live.writes t).1) live.reads.1 here had))
    (λ there. reply-after q events now new live.reads.0 is later there (one-step q old now was live.reads.0 event (λ t. (live.writes t).1) live.reads.1 had))
    has

silent-after : (q : ℕ) (events : List Event) (old new : ℕ → WriteLife) (was is : ReadLife) → Live q old new was is events → HasReply q events → IsSpent q old was → ⊥
silent-after q [] old new was is live has spent = has
silent-after q (event ∷ events) old new was is live has spent =
    let now = mid q old new was is event events live in
    let later = rest q old new was is event events live in
    ⊎_elim
    (λ here. spent-silent q old now was live.reads.0 event (λ t. (live.writes t).1) live.reads.1 here spent)
    (λ there. silent-after q events now new live.reads.0 is later there (spent-step q old now was live.reads.0 event (λ t. (live.writes t).1) live.reads.1 spent))
    has

-- the number is one of those that are named
record IsNamed (q : ℕ) (names : EntryNames) : Type 0 where
  pub from : names.number ≤ q
  pub to : q < names.number + names.count

-- an answer's own step replies with each number that it names
written-reply : (q count ticket number : ℕ) → number ≤ q → q < number + count → HasReply q (replies_of ticket number count)
written-reply q zero ticket number from to = absurd (let e : ⊥ = omega (arith, from, to) in e)
written-reply q (suc count) ticket number from to =
    ⊎_elim (λ same. inl same) (λ past. inr (written-reply q count (ticket + 1) (number + 1) (omega (arith, past)) (omega (arith, to)))) (eq-or-lt_of_le from)

read-reply : (q : ℕ) (found : List Block) (number block : ℕ) → number ≤ q → q < number + length found → HasReply q (marks_of_reads number block found)
read-reply q [] number block from to = absurd (let e : ⊥ = omega (arith, from, to) in e)
read-reply q (b ∷ bs) number block from to =
    inr (⊎_elim (λ same. inl same) (λ past. inr (read-reply q bs (number + 1) (block + 1) (omega (arith, past)) (omega (arith, to)))) (eq-or-lt_of_le from))

-- an answer names some entries, and its step replies with each of their numbers
record RepliesTo {L : Type 0} (step : Step L) (answer : Answer L) (names : EntryNames) : Type 0 where
  pub some : 0 < names.count
  pub each : (q : ℕ) → IsNamed q names → HasReply q (marks step answer)

answer-replies : {L : Type 0} (type : LegType L) (step : Step L) (answer : Answer L) (names : EntryNames) (old new : StripeState L)
    → StepOf type step answer old new → names_in answer ≡ Some names → RepliesTo step answer names
answer-replies {L} type (Claim ticket) (Written written) names old new is named =
    subst (λ (n : EntryNames). RepliesTo {L = L} (Claim ticket) (Written written) n) (same_Some written names named)
    (record {
      some = omega (arith, claimed-some old ticket is.no_cause, is.count);
      each = λ q at. written-reply q written.count ticket written.number at.from at.to;
    })
answer-replies {L} type (Read block room) (Value value) names old new is named =
    let count : value.names.count ≡ length (blocks_of value.bytes) = ap (λ (n : EntryNames). n.count) is.0.named in
    subst (λ (n : EntryNames). RepliesTo {L = L} (Read block room) (Value value) n) (same_Some value.names names named)
    (record {
      some = omega (arith, is.0.called.fits.some, count);
      each = λ q at. read-reply q (blocks_of value.bytes) value.names.number block at.from (omega (arith, at.to, count));
    })
answer-replies type step (Written written) names old new is named = absurd is
answer-replies type step (Value value) names old new is named = absurd is
answer-replies type step answer names old new is named = absurd (let clash : None ≡ Some names = named in cc)

-- so does the list of all events
named-some : {L : Type 0} (type : LegType L) (steps : List (Step L)) (answers : List (Answer L)) (i : ℕ) (names : EntryNames) (old new : StripeState L)
    → Runs type old steps answers new → names_at i answers ≡ Some names → 0 < names.count
named-some type (step ∷ steps) (answer ∷ answers) zero names old new runs named = (answer-replies type step answer names old runs.0 runs.1 named).some
named-some type (step ∷ steps) (answer ∷ answers) (suc i) names old new runs named = named-some type steps answers i names runs.0 new runs.2 named
named-some type [] [] i names old new runs named = absurd (let clash : None ≡ Some names = named in cc)
named-some type [] (answer ∷ answers) i names old new runs named = absurd runs
named-some type (step ∷ steps) [] i names old new runs named = absurd runs

named-reply : {L : Type 0} (type : LegType L) (steps : List (Step L)) (answers : List (Answer L)) (lists : List (List Event)) (i q : ℕ) (names : EntryNames) (old new : StripeState L)
    → Runs type old steps answers new → IsInterleaving steps answers lists → names_at i answers ≡ Some names → IsNamed q names → HasReply q (concat lists)
named-reply type (step ∷ steps) (answer ∷ answers) (events ∷ lists) zero q names old new runs woven named at =
    let own = (answer-replies type step answer names old runs.0 runs.1 named).each q at in
    has-first q events (concat lists) (has-marked q events (subst (λ (es : List Event). HasReply q es) (sym woven.0) own))
named-reply type (step ∷ steps) (answer ∷ answers) (events ∷ lists) (suc i) q names old new runs woven named at =
    has-later q events (concat lists) (named-reply type steps answers lists i q names runs.0 new runs.2 woven.1 named at)
named-reply type [] [] lists i q names old new runs woven named at = absurd (let clash : None ≡ Some names = named in cc)
named-reply type [] (answer ∷ answers) lists i q names old new runs woven named at = absurd runs
named-reply type (step ∷ steps) [] lists i q names old new runs woven named at = absurd runs
named-reply type (step ∷ steps) (answer ∷ answers) [] i q names old new runs woven named at = absurd woven

-- no number is named by two answers
named-once : {L : Type 0} (type : LegType L) (steps : List (Step L)) (answers : List (Answer L)) (lists : List (List Event)) (i j q : ℕ) (one other : EntryNames) (old new : StripeState L) (before after : ℕ → WriteLife) (was is : ReadLife)
    → Runs type old steps answers new → IsInterleaving steps answers lists → Live q before after was is (concat lists) → HasOneWriter q before was
    → i < j → names_at i answers ≡ Some one → names_at j answers ≡ Some other → IsNamed q one → IsNamed q other → ⊥
named-once type (step ∷ steps) (answer ∷ answers) (events ∷ lists) i zero q one other old new before after was is runs woven live had less first second here there =
    omega (arith, less)
named-once type (step ∷ steps) (answer ∷ answers) (events ∷ lists) zero (suc j) q one other old new before after was is runs woven live had less first second here there =
    let own = (answer-replies type step answer one old runs.0 runs.1 first).each q here in
    let marked : HasReply q events = has-marked q events (subst (λ (es : List Event). HasReply q es) (sym woven.0) own) in
    let now = cut q before after was is events (concat lists) live in
    let read = read_cut q before after was is events (concat lists) live in
    let spent = reply-after q events before now was read (front q before after was is events (concat lists) live) marked had in
    silent-after q (concat lists) now after read is (back q before after was is events (concat lists) live)
    (named-reply type steps answers lists j q other runs.0 new runs.2 woven.1 second there) spent
named-once type (step ∷ steps) (answer ∷ answers) (events ∷ lists) (suc i) (suc j) q one other old new before after was is runs woven live had less first second here there =
    let now = cut q before after was is events (concat lists) live in
    let read = read_cut q before after was is events (concat lists) live in
    named-once type steps answers lists i j q one other runs.0 new now after read is runs.2 woven.1 (back q before after was is events (concat lists) live)
    (one-after q events before now was read (front q before after was is events (concat lists) live) had)
    (omega (arith, less)) first second here there
named-once type [] [] lists i j q one other old new before after was is runs woven live had less first second here there = absurd (let clash : None ≡ Some one = first in cc)
named-once type [] (answer ∷ answers) lists i j q one other old new before after was is runs woven live had less first second here there = absurd runs
named-once type (step ∷ steps) [] lists i j q one other old new before after was is runs woven live had less first second here there = absurd runs
named-once type (step ∷ steps) (answer ∷ answers) [] i j q one other old new before after was is runs woven live had less first second here there = absurd woven

-- where there are no records, no write has landed that was not replied to
none-landed : {L : Type 0} (old : StripeState L) (q t : ℕ) → old.records ≡ [] → write_life old t ≡ Landed q → ⊥
none-landed old q t none at =
    (elim (nat_lt t old.tickets) as (λ b. cond b (life_of (find_record t old.records)) NotBegun ≡ Landed q → ⊥) [
      | true ↦ λ is. let clash : Replied ≡ Landed q = sym (ap (λ (rs : List Record). life_of (find_record t rs)) none) ∙ is in cc
      | false ↦ λ is. let clash : NotBegun ≡ Landed q = is in cc
    ]) at

-- names that are not apart have a number in common
low_or_high : (a b : ℕ) → (a ≤ b) ⊎ (b < a)
low_or_high zero b = inl (omega arith)
low_or_high (suc a) zero = inr (omega arith)
low_or_high (suc a) (suc b) = ⊎_elim (λ low. inl (omega (arith, low))) (λ high. inr (omega (arith, high))) (low_or_high a b)

apart-unless : (one other : EntryNames) → 0 < one.count → 0 < other.count → ((q : ℕ) → IsNamed q one → IsNamed q other → ⊥) → AreApart one other
apart-unless one other some more none =
    ⊎_elim (λ low. inl low)
    (λ high. ⊎_elim (λ low. inr low) (λ late. absurd (shared high late)) (low_or_high (other.number + other.count) one.number))
    (low_or_high (one.number + one.count) other.number)
  where
    shared : other.number < one.number + one.count → one.number < other.number + other.count → ⊥
    shared high late =
        ⊎_elim
        (λ below. none other.number (record { from = below; to = high }) (record { from = omega arith; to = omega (arith, more) }))
        (λ above. none one.number (record { from = omega arith; to = omega (arith, some) }) (record { from = omega (arith, above); to = late }))
        (low_or_high one.number other.number)

pub runs-lie-apart : {L : Type 0} (type : LegType L) (steps : List (Step L)) (answers : List (Answer L)) (old new : StripeState L)
    → old.records ≡ [] → Runs type old steps answers new → ActOnOneArray type.model steps answers old new
    → (i j : ℕ) (one other : EntryNames) → i < j → names_at i answers ≡ Some one → names_at j answers ≡ Some other → AreApart one other
runs-lie-apart type steps answers old new none runs act i j one other less first second =
    apart-unless one other (named-some type steps answers i one old new runs first) (named-some type steps answers j other old new runs second)
    (λ q here there.
    let explained = act.acts.explained in
    let live : Live q (write_life old) (write_life new) (read_life old q) (read_life new q) (concat act.events_of_each) =
    record { writes = explained.each_write; reads = explained.each_read q } in
    let had : HasOneWriter q (write_life old) (read_life old q) = record {
      one = λ t u at other_at. absurd (none-landed old q t none at);
      closed = λ t at. absurd (none-landed old q t none at);
    } in
    named-once type steps answers act.events_of_each i j q one other old new (write_life old) (write_life new) (read_life old q) (read_life new q) runs act.interleaving live had less first second here there)
