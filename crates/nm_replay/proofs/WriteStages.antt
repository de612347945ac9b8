-- A write moves through its stages one at a time, by its own events alone, and never back.
use Rattle.std.proofs.Common.{◌≡◌, ◌⊎◌, inl, inr, ⊎_elim, ℕ, ◌≤◌, ◌==◌, true, false, MatchBool, List, [], ◌∷◌, ◌++◌, refl, sym, ap, ◌∙◌, arith, eq-eqb, append_assoc}
use Rattle.std.proofs.lemmas.Bool.{eqb-true}
use Rattle.nm_replay.specs.declared.block.Block.{Block}
use Rattle.nm_replay.specs.declared.entry.Entry.{Entry}
use Rattle.nm_replay.specs.declared.entry.Kind.{Kind}
use Rattle.nm_replay.specs.declared.entry.Kind.TheVariants.{Read, Write, Patch}
use Rattle.nm_replay.specs.Array.{Put, Span, Entire, Piece, put_of}
use Rattle.nm_replay.specs.Events.{Event, BeginsRead, BeginsWrite, Lands, RepliesRead, RepliesWrite, write_kind, entry_of_write}
use Rattle.nm_replay.specs.WriteLives.{WriteLife, NotBegun, Begun, Landed, Replied, LandsAs, WriteLands, WriteStep, WriteLives}
use Rattle.nm_replay.specs.WriteLaws.{WriteTookEffect}

-- what an event can do to a write
pub data WriteMove (ticket : ℕ) (old : WriteLife) (event : Event) (mid : WriteLife) : Type 0 where
  Stays : mid ≡ old → WriteMove ticket old event mid
  Begins : (block : ℕ) (put : Put) → event ≡ BeginsWrite ticket block put → old ≡ NotBegun → mid ≡ Begun block put → WriteMove ticket old event mid
  Enters : (number block : ℕ) (span : Span) (bytes : Block) → event ≡ Lands (entry_of_write number ticket block span bytes) → old ≡ Begun block (put_of span bytes) → mid ≡ Landed number → WriteMove ticket old event mid
  Ends : (number : ℕ) → event ≡ RepliesWrite ticket number → old ≡ Landed number → mid ≡ Replied → WriteMove ticket old event mid

-- an entry of a write is its own, or some other's
lands-move : (ticket : ℕ) (old mid : WriteLife) (e : Entry) (u : ℕ) (span : Span) → e.kind ≡ write_kind u span → LandsAs ticket old e u span mid → WriteMove ticket old (Lands e) mid
lands-move ticket old mid e u span of s =
    (elim (u == ticket) as (λ b. (u == ticket) ≡ b → MatchBool b ((old ≡ Begun e.block (put_of span e.bytes)) × (mid ≡ Landed e.seq)) (mid ≡ old) → WriteMove ticket old (Lands e) mid) [
      | true ↦ λ at t. Enters e.seq e.block span e.bytes (ap (λ (kind : Kind). Lands (record { seq = e.seq; kind = kind; block = e.block; bytes = e.bytes })) (of ∙ ap (λ (v : ℕ). write_kind v span) (eqb-true u ticket at))) t.0 t.1
      | false ↦ λ at t. Stays t
    ]) refl s

-- each step is one of these
pub write-move : (ticket : ℕ) (old mid : WriteLife) (event : Event) → WriteStep ticket old event mid → WriteMove ticket old event mid
write-move ticket old mid (BeginsRead n block) step = Stays step
write-move ticket old mid (BeginsWrite u block put) step =
    (elim (u == ticket) as (λ b. (u == ticket) ≡ b → MatchBool b ((old ≡ NotBegun) × (mid ≡ Begun block put)) (mid ≡ old) → WriteMove ticket old (BeginsWrite u block put) mid) [
      | true ↦ λ at s. Begins block put (ap (λ (v : ℕ). BeginsWrite v block put) (eqb-true u ticket at)) s.0 s.1
      | false ↦ λ at s. Stays s
    ]) refl step
write-move ticket old mid (Lands e) step = by_kind e.kind refl step
  where
    by_kind : (kind : Kind) → e.kind ≡ kind → WriteLands ticket old e kind mid → WriteMove ticket old (Lands e) mid
    by_kind Read of s = Stays s
    by_kind (Write u) of s = lands-move ticket old mid e u Entire of s
    by_kind (Patch u start len) of s = lands-move ticket old mid e u (Piece start len) of s
write-move ticket old mid (RepliesRead n bytes) step = Stays step
write-move ticket old mid (RepliesWrite u n) step =
    (elim (u == ticket) as (λ b. (u == ticket) ≡ b → MatchBool b ((old ≡ Landed n) × (mid ≡ Replied)) (mid ≡ old) → WriteMove ticket old (RepliesWrite u n) mid) [
      | true ↦ λ at s. Ends n (ap (λ (v : ℕ). RepliesWrite v n) (eqb-true u ticket at)) s.0 s.1
      | false ↦ λ at s. Stays s
    ]) refl step

-- how many stages a write has gone through
abbrev pub write_stage : WriteLife → ℕ
write_stage NotBegun = 0
write_stage (Begun block put) = 1
write_stage (Landed number) = 2
write_stage Replied = 3

forward : (ticket : ℕ) (old mid : WriteLife) (event : Event) → WriteMove ticket old event mid → write_stage old ≤ write_stage mid
forward ticket old mid event (Stays same) = omega (arith, ap (λ w. write_stage w) same)
forward ticket old mid event (Begins block put is from to) = omega (arith, ap (λ w. write_stage w) from, ap (λ w. write_stage w) to)
forward ticket old mid event (Enters number block span bytes is from to) = omega (arith, ap (λ w. write_stage w) from, ap (λ w. write_stage w) to)
forward ticket old mid event (Ends number is from to) = omega (arith, ap (λ w. write_stage w) from, ap (λ w. write_stage w) to)

-- a life goes forward only
pub write-forward : (ticket : ℕ) (old new : WriteLife) (events : List Event) → WriteLives ticket old events new → write_stage old ≤ write_stage new
write-forward ticket old new [] lives = omega (arith, ap (λ w. write_stage w) lives)
write-forward ticket old new (event ∷ events) lives =
    omega (arith, forward ticket old lives.0 event (write-move ticket old lives.0 event lives.1), write-forward ticket lives.0 new events lives.2)

-- a life, cut where a list is
pub write-cut : (ticket : ℕ) (old new : WriteLife) (earlier later : List Event) → WriteLives ticket old (earlier ++ later) new → (mid : WriteLife) × WriteLives ticket old earlier mid × WriteLives ticket mid later new
write-cut ticket old new [] later lives = (old, refl, lives)
write-cut ticket old new (event ∷ earlier) later lives =
    let rest = write-cut ticket lives.0 new earlier later lives.2 in
    (rest.0, (lives.0, lives.1, rest.1), rest.2)

-- its own events do what they say
pub write-begins : (ticket block : ℕ) (put : Put) (old mid : WriteLife) → WriteStep ticket old (BeginsWrite ticket block put) mid → (old ≡ NotBegun) × (mid ≡ Begun block put)
write-begins ticket block put old mid step = let yes : (ticket == ticket) ≡ true = eq-eqb ticket ticket refl in rw yes at step

pub write-lands : (number ticket block : ℕ) (span : Span) (bytes : Block) (old mid : WriteLife) → WriteStep ticket old (Lands (entry_of_write number ticket block span bytes)) mid → (old ≡ Begun block (put_of span bytes)) × (mid ≡ Landed number)
write-lands number ticket block Entire bytes old mid step = let yes : (ticket == ticket) ≡ true = eq-eqb ticket ticket refl in rw yes at step
write-lands number ticket block (Piece start len) bytes old mid step = let yes : (ticket == ticket) ≡ true = eq-eqb ticket ticket refl in rw yes at step

pub write-replies : (ticket number : ℕ) (old mid : WriteLife) → WriteStep ticket old (RepliesWrite ticket number) mid → (old ≡ Landed number) × (mid ≡ Replied)
write-replies ticket number old mid step = let yes : (ticket == ticket) ≡ true = eq-eqb ticket ticket refl in rw yes at step

-- the entry of a write among events, and how the write lives up to it
pub record LandedAmong (ticket number : ℕ) (old : WriteLife) (events : List Event) : Type 0 where
  pub block : ℕ
  pub span : Span
  pub bytes : Block
  pub before : List Event
  pub following : List Event
  pub split : events ≡ before ++ Lands (entry_of_write number ticket block span bytes) ∷ following
  pub begun : WriteLives ticket old before (Begun block (put_of span bytes))

-- a write that has landed under a number had landed before these events, or did so among them
pub write-landed : (ticket number : ℕ) (old new : WriteLife) (events : List Event) → WriteLives ticket old events new → new ≡ Landed number → (old ≡ Landed number) ⊎ LandedAmong ticket number old events
write-landed ticket number old new [] lives is = inl (sym lives ∙ is)
write-landed ticket number old new (event ∷ events) lives is =
    ⊎_elim
    (λ landed. here (write-move ticket old lives.0 event lives.1) landed)
    (λ among. inr (record { block = among.block; span = among.span; bytes = among.bytes; before = event ∷ among.before; following = among.following; split = ap (λ (xs : List Event). event ∷ xs) among.split; begun = (lives.0, lives.1, among.begun) }))
    (write-landed ticket number lives.0 new events lives.2 is)
  where
    here : WriteMove ticket old event lives.0 → lives.0 ≡ Landed number → (old ≡ Landed number) ⊎ LandedAmong ticket number old (event ∷ events)
    here (Stays same) landed = inl (sym same ∙ landed)
    here (Begins block put seen from to) landed = absurd (let clash : Begun block put ≡ Landed number = sym to ∙ landed in cc)
    here (Enters n block span bytes seen from to) landed =
        let one : Landed n ≡ Landed number = sym to ∙ landed in
        let same : n ≡ number = cc in
        inr (record {
          block = block;
          span = span;
          bytes = bytes;
          before = [];
          following = events;
          split = ap (λ (x : Event). x ∷ events) (seen ∙ ap (λ (m : ℕ). Lands (entry_of_write m ticket block span bytes)) same);
          begun = sym from;
        })
    here (Ends n seen from to) landed = absurd (let clash : Replied ≡ Landed number = sym to ∙ landed in cc)

-- the begin of a write among events
pub record BegunAmong (ticket block : ℕ) (put : Put) (events : List Event) : Type 0 where
  pub before : List Event
  pub following : List Event
  pub split : events ≡ before ++ BeginsWrite ticket block put ∷ following

-- a write that has begun had begun before these events, or did so among them
pub write-begun : (ticket block : ℕ) (put : Put) (old new : WriteLife) (events : List Event) → WriteLives ticket old events new → new ≡ Begun block put → (old ≡ Begun block put) ⊎ BegunAmong ticket block put events
write-begun ticket block put old new [] lives is = inl (sym lives ∙ is)
write-begun ticket block put old new (event ∷ events) lives is =
    ⊎_elim
    (λ begun. here (write-move ticket old lives.0 event lives.1) begun)
    (λ among. inr (record { before = event ∷ among.before; following = among.following; split = ap (λ (xs : List Event). event ∷ xs) among.split }))
    (write-begun ticket block put lives.0 new events lives.2 is)
  where
    here : WriteMove ticket old event lives.0 → lives.0 ≡ Begun block put → (old ≡ Begun block put) ⊎ BegunAmong ticket block put (event ∷ events)
    here (Stays same) begun = inl (sym same ∙ begun)
    here (Begins at others seen from to) begun =
        let one : Begun at others ≡ Begun block put = sym to ∙ begun in
        let there : at ≡ block = cc in
        let same : others ≡ put = cc in
        inr (record {
          before = [];
          following = events;
          split = ap (λ (x : Event). x ∷ events) (seen ∙ ap (λ (b : ℕ). BeginsWrite ticket b others) there ∙ ap (λ (v : Put). BeginsWrite ticket block v) same);
        })
    here (Enters n at span others seen from to) begun = absurd (let clash : Landed n ≡ Begun block put = sym to ∙ begun in cc)
    here (Ends n seen from to) begun = absurd (let clash : Replied ≡ Begun block put = sym to ∙ begun in cc)

-- a write that had not begun, and has landed, took effect among the events
pub write-took_effect : (ticket number : ℕ) (old new : WriteLife) (events : List Event) → old ≡ NotBegun → WriteLives ticket old events new → new ≡ Landed number → WriteTookEffect ticket number events
write-took_effect ticket number old new events none lives is =
    ⊎_elim
    (λ was. absurd (let clash : NotBegun ≡ Landed number = sym none ∙ was in cc))
    (λ landed. ⊎_elim
    (λ was. absurd (let clash : NotBegun ≡ Begun landed.block (put_of landed.span landed.bytes) = sym none ∙ was in cc))
    (λ begun. record {
      block = landed.block;
      span = landed.span;
      bytes = landed.bytes;
      before = begun.before;
      between = begun.following;
      following = landed.following;
      split = landed.split ∙ ap (λ xs. xs ++ Lands (entry_of_write number ticket landed.block landed.span landed.bytes) ∷ landed.following) begun.split ∙ append_assoc begun.before (BeginsWrite ticket landed.block (put_of landed.span landed.bytes) ∷ begun.following) (Lands (entry_of_write number ticket landed.block landed.span landed.bytes) ∷ landed.following);
    })
    (write-begun ticket landed.block (put_of landed.span landed.bytes) old (Begun landed.block (put_of landed.span landed.bytes)) landed.before landed.begun refl))
    (write-landed ticket number old new events lives is)

-- a write that lands, and had not begun, began before the entry
pub write-begin : (ticket number block : ℕ) (span : Span) (bytes : Block) (old new : WriteLife) (earlier later : List Event) → old ≡ NotBegun → WriteLives ticket old (earlier ++ Lands (entry_of_write number ticket block span bytes) ∷ later) new → BegunAmong ticket block (put_of span bytes) earlier
write-begin ticket number block span bytes old new earlier later none lives =
    let cut = write-cut ticket old new earlier (Lands (entry_of_write number ticket block span bytes) ∷ later) lives in
    let lands = write-lands number ticket block span bytes cut.0 (cut.2).0 (cut.2).1 in
    ⊎_elim
    (λ was. absurd (let clash : NotBegun ≡ Begun block (put_of span bytes) = sym none ∙ was in cc))
    (λ begun. begun)
    (write-begun ticket block (put_of span bytes) old cut.0 earlier cut.1 lands.0)

-- what has landed under a number stays so until it is replied to
pub write-keeps_number : (ticket number other : ℕ) (old new : WriteLife) (events : List Event) → WriteLives ticket old events new → old ≡ Landed number → new ≡ Landed other → other ≡ number
write-keeps_number ticket number other old new [] lives from to =
    let one : Landed other ≡ Landed number = sym to ∙ (lives ∙ from) in cc
write-keeps_number ticket number other old new (event ∷ events) lives from to =
    next (write-move ticket old lives.0 event lives.1) (λ is. write-keeps_number ticket number other lives.0 new events lives.2 is to)
  where
    next : WriteMove ticket old event lives.0 → (lives.0 ≡ Landed number → other ≡ number) → other ≡ number
    next (Stays same) further = further (same ∙ from)
    next (Begins block put seen was is) further = absurd (let clash : NotBegun ≡ Landed number = sym was ∙ from in cc)
    next (Enters n block span bytes seen was is) further = absurd (let clash : Begun block (put_of span bytes) ≡ Landed number = sym was ∙ from in cc)
    next (Ends n seen was is) further = absurd (omega (arith, write-forward ticket lives.0 new events lives.2, ap (λ w. write_stage w) is, ap (λ w. write_stage w) to))

-- what has begun with a block and a put keeps them until it lands
pub write-keeps_put : (ticket block other : ℕ) (put others : Put) (old new : WriteLife) (events : List Event) → WriteLives ticket old events new → old ≡ Begun block put → new ≡ Begun other others → (other ≡ block) × (others ≡ put)
write-keeps_put ticket block other put others old new [] lives from to =
    let one : Begun other others ≡ Begun block put = sym to ∙ (lives ∙ from) in (cc, cc)
write-keeps_put ticket block other put others old new (event ∷ events) lives from to =
    next (write-move ticket old lives.0 event lives.1) (λ is. write-keeps_put ticket block other put others lives.0 new events lives.2 is to)
  where
    next : WriteMove ticket old event lives.0 → (lives.0 ≡ Begun block put → (other ≡ block) × (others ≡ put)) → (other ≡ block) × (others ≡ put)
    next (Stays same) further = further (same ∙ from)
    next (Begins at v seen was is) further = absurd (let clash : NotBegun ≡ Begun block put = sym was ∙ from in cc)
    next (Enters n at span v seen was is) further = absurd (omega (arith, write-forward ticket lives.0 new events lives.2, ap (λ w. write_stage w) is, ap (λ w. write_stage w) to))
    next (Ends n seen was is) further = absurd (let clash : Landed n ≡ Begun block put = sym was ∙ from in cc)

-- two events, one after the other: what the first leaves of a write lives up to what the second finds
pub record BetweenTwo (ticket : ℕ) (between : List Event) (first second : Event) : Type 0 where
  pub before : WriteLife
  pub after : WriteLife
  pub found : WriteLife
  pub end : WriteLife
  pub opens : WriteStep ticket before first after
  pub lives : WriteLives ticket after between found
  pub closes : WriteStep ticket found second end

pub write-between : (ticket : ℕ) (old new : WriteLife) (earlier between later : List Event) (first second : Event) → WriteLives ticket old (earlier ++ first ∷ (between ++ second ∷ later)) new → BetweenTwo ticket between first second
write-between ticket old new earlier between later first second lives =
    let whole = write-cut ticket old new earlier (first ∷ (between ++ second ∷ later)) lives in
    let rest = write-cut ticket (whole.2).0 new between (second ∷ later) (whole.2).2 in
    record { before = whole.0; after = (whole.2).0; found = rest.0; end = (rest.2).0; opens = (whole.2).1; lives = rest.1; closes = (rest.2).1 }

-- a write that is replied to, and had not begun, took effect before the reply
pub write-effect : (ticket number : ℕ) (old new : WriteLife) (earlier later : List Event) → old ≡ NotBegun → WriteLives ticket old (earlier ++ RepliesWrite ticket number ∷ later) new → WriteTookEffect ticket number earlier
write-effect ticket number old new earlier later none lives =
    let cut = write-cut ticket old new earlier (RepliesWrite ticket number ∷ later) lives in
    let replies = write-replies ticket number cut.0 (cut.2).0 (cut.2).1 in
    write-took_effect ticket number old cut.0 earlier none cut.1 replies.0
