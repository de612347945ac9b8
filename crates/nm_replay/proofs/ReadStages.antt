-- A read moves through its stages one at a time, by its own events alone, and never back.
use Rattle.std.proofs.Common.{◌≡◌, ◌⊎◌, inl, inr, ⊎_elim, ℕ, ◌≤◌, ◌==◌, true, false, MatchBool, List, [], ◌∷◌, ◌++◌, refl, sym, ap, ◌∙◌, arith, eq-eqb, append_assoc}
use Rattle.std.proofs.lemmas.Bool.{eqb-true}
use Rattle.nm_replay.specs.declared.block.Block.{Block}
use Rattle.nm_replay.specs.declared.entry.Kind.{Kind}
use Rattle.nm_replay.specs.declared.entry.Kind.TheVariants.{Read, Write, Patch}
use Rattle.nm_replay.specs.Events.{Event, BeginsRead, BeginsWrite, Lands, RepliesRead, RepliesWrite, entry_of_read}
use Rattle.nm_replay.specs.ReadLives.{ReadLife, NotBegun, Begun, Landed, Closed, ReadLands, ReadStep, ReadLives}
use Rattle.nm_replay.specs.ReadLaws.{ReadTookEffect}

-- what an event can do to a read
pub data ReadMove (number : ℕ) (old : ReadLife) (event : Event) (mid : ReadLife) : Type 0 where
  Stays : mid ≡ old → ReadMove number old event mid
  Begins : (block : ℕ) → event ≡ BeginsRead number block → old ≡ NotBegun → mid ≡ Begun block → ReadMove number old event mid
  Enters : (block : ℕ) (bytes : Block) → event ≡ Lands (entry_of_read number block bytes) → old ≡ Begun block → mid ≡ Landed bytes → ReadMove number old event mid
  Closes : old ≡ NotBegun → mid ≡ Closed → ReadMove number old event mid
  Ends : (bytes : Block) → event ≡ RepliesRead number bytes → old ≡ Landed bytes → mid ≡ Closed → ReadMove number old event mid

-- each step is one of these
pub read-move : (number : ℕ) (old mid : ReadLife) (event : Event) → ReadStep number old event mid → ReadMove number old event mid
read-move number old mid (BeginsRead n block) step =
    (elim (n == number) as (λ b. (n == number) ≡ b → MatchBool b ((old ≡ NotBegun) × (mid ≡ Begun block)) (mid ≡ old) → ReadMove number old (BeginsRead n block) mid) [
      | true ↦ λ at s. Begins block (ap (λ (m : ℕ). BeginsRead m block) (eqb-true n number at)) s.0 s.1
      | false ↦ λ at s. Stays s
    ]) refl step
read-move number old mid (BeginsWrite u block bytes) step = Stays step
read-move number old mid (Lands e) step =
    (elim (e.seq == number) as (λ b. (e.seq == number) ≡ b → MatchBool b (ReadLands old e e.kind mid) (mid ≡ old) → ReadMove number old (Lands e) mid) [
      | true ↦ λ at s. by_kind at e.kind refl s
      | false ↦ λ at s. Stays s
    ]) refl step
  where
    by_kind : (e.seq == number) ≡ true → (kind : Kind) → e.kind ≡ kind → ReadLands old e kind mid → ReadMove number old (Lands e) mid
    by_kind at Read of s =
        let kinds : Lands e ≡ Lands (entry_of_read e.seq e.block e.bytes) = ap (λ (kind : Kind). Lands (record { seq = e.seq; kind = kind; block = e.block; bytes = e.bytes })) of in
        Enters e.block e.bytes (kinds ∙ ap (λ (m : ℕ). Lands (entry_of_read m e.block e.bytes)) (eqb-true e.seq number at)) s.0 s.1
    by_kind at (Write u) of s = Closes s.0 s.1
    by_kind at (Patch u start len) of s = Closes s.0 s.1
read-move number old mid (RepliesRead n bytes) step =
    (elim (n == number) as (λ b. (n == number) ≡ b → MatchBool b ((old ≡ Landed bytes) × (mid ≡ Closed)) (mid ≡ old) → ReadMove number old (RepliesRead n bytes) mid) [
      | true ↦ λ at s. Ends bytes (ap (λ (m : ℕ). RepliesRead m bytes) (eqb-true n number at)) s.0 s.1
      | false ↦ λ at s. Stays s
    ]) refl step
read-move number old mid (RepliesWrite u n) step = Stays step

-- how many stages a read has gone through
abbrev pub read_stage : ReadLife → ℕ
read_stage NotBegun = 0
read_stage (Begun block) = 1
read_stage (Landed bytes) = 2
read_stage Closed = 3

forward : (number : ℕ) (old mid : ReadLife) (event : Event) → ReadMove number old event mid → read_stage old ≤ read_stage mid
forward number old mid event (Stays same) = omega (arith, ap (λ w. read_stage w) same)
forward number old mid event (Begins block is from to) = omega (arith, ap (λ w. read_stage w) from, ap (λ w. read_stage w) to)
forward number old mid event (Enters block bytes is from to) = omega (arith, ap (λ w. read_stage w) from, ap (λ w. read_stage w) to)
forward number old mid event (Closes from to) = omega (arith, ap (λ w. read_stage w) from, ap (λ w. read_stage w) to)
forward number old mid event (Ends bytes is from to) = omega (arith, ap (λ w. read_stage w) from, ap (λ w. read_stage w) to)

-- a life goes forward only
pub read-forward : (number : ℕ) (old new : ReadLife) (events : List Event) → ReadLives number old events new → read_stage old ≤ read_stage new
read-forward number old new [] lives = omega (arith, ap (λ w. read_stage w) lives)
read-forward number old new (event ∷ events) lives =
    omega (arith, forward number old lives.0 event (read-move number old lives.0 event lives.1), read-forward number lives.0 new events lives.2)

-- a life, cut where a list is
pub read-cut : (number : ℕ) (old new : ReadLife) (earlier later : List Event) → ReadLives number old (earlier ++ later) new → (mid : ReadLife) × ReadLives number old earlier mid × ReadLives number mid later new
read-cut number old new [] later lives = (old, refl, lives)
read-cut number old new (event ∷ earlier) later lives =
    let rest = read-cut number lives.0 new earlier later lives.2 in
    (rest.0, (lives.0, lives.1, rest.1), rest.2)

-- its own events do what they say
pub read-begins : (number block : ℕ) (old mid : ReadLife) → ReadStep number old (BeginsRead number block) mid → (old ≡ NotBegun) × (mid ≡ Begun block)
read-begins number block old mid step = let yes : (number == number) ≡ true = eq-eqb number number refl in rw yes at step

pub read-lands : (number block : ℕ) (bytes : Block) (old mid : ReadLife) → ReadStep number old (Lands (entry_of_read number block bytes)) mid → (old ≡ Begun block) × (mid ≡ Landed bytes)
read-lands number block bytes old mid step = let yes : (number == number) ≡ true = eq-eqb number number refl in rw yes at step

pub read-replies : (number : ℕ) (bytes : Block) (old mid : ReadLife) → ReadStep number old (RepliesRead number bytes) mid → (old ≡ Landed bytes) × (mid ≡ Closed)
read-replies number bytes old mid step = let yes : (number == number) ≡ true = eq-eqb number number refl in rw yes at step

-- the entry of a read among events, and how the read lives up to it
pub record LandedAmong (number : ℕ) (bytes : Block) (old : ReadLife) (events : List Event) : Type 0 where
  pub block : ℕ
  pub before : List Event
  pub following : List Event
  pub split : events ≡ before ++ Lands (entry_of_read number block bytes) ∷ following
  pub begun : ReadLives number old before (Begun block)

-- a read that has landed with bytes had landed before these events, or did so among them
pub read-landed : (number : ℕ) (bytes : Block) (old new : ReadLife) (events : List Event) → ReadLives number old events new → new ≡ Landed bytes → (old ≡ Landed bytes) ⊎ LandedAmong number bytes old events
read-landed number bytes old new [] lives is = inl (sym lives ∙ is)
read-landed number bytes old new (event ∷ events) lives is =
    ⊎_elim
    (λ landed. here (read-move number old lives.0 event lives.1) landed)
    (λ among. inr (record { block = among.block; before = event ∷ among.before; following = among.following; split = ap (λ (xs : List Event). event ∷ xs) among.split; begun = (lives.0, lives.1, among.begun) }))
    (read-landed number bytes lives.0 new events lives.2 is)
  where
    here : ReadMove number old event lives.0 → lives.0 ≡ Landed bytes → (old ≡ Landed bytes) ⊎ LandedAmong number bytes old (event ∷ events)
    here (Stays same) landed = inl (sym same ∙ landed)
    here (Begins block seen from to) landed = absurd (let clash : Begun block ≡ Landed bytes = sym to ∙ landed in cc)
    here (Enters block found seen from to) landed =
        let one : Landed found ≡ Landed bytes = sym to ∙ landed in
        let same : found ≡ bytes = cc in
        inr (record {
          block = block;
          before = [];
          following = events;
          split = ap (λ (x : Event). x ∷ events) (seen ∙ ap (λ (v : Block). Lands (entry_of_read number block v)) same);
          begun = sym from;
        })
    here (Closes from to) landed = absurd (let clash : Closed ≡ Landed bytes = sym to ∙ landed in cc)
    here (Ends found seen from to) landed = absurd (let clash : Closed ≡ Landed bytes = sym to ∙ landed in cc)

-- the begin of a read among events
pub record BegunAmong (number block : ℕ) (events : List Event) : Type 0 where
  pub before : List Event
  pub following : List Event
  pub split : events ≡ before ++ BeginsRead number block ∷ following

-- a read that has begun had begun before these events, or did so among them
pub read-begun : (number block : ℕ) (old new : ReadLife) (events : List Event) → ReadLives number old events new → new ≡ Begun block → (old ≡ Begun block) ⊎ BegunAmong number block events
read-begun number block old new [] lives is = inl (sym lives ∙ is)
read-begun number block old new (event ∷ events) lives is =
    ⊎_elim
    (λ begun. here (read-move number old lives.0 event lives.1) begun)
    (λ among. inr (record { before = event ∷ among.before; following = among.following; split = ap (λ (xs : List Event). event ∷ xs) among.split }))
    (read-begun number block lives.0 new events lives.2 is)
  where
    here : ReadMove number old event lives.0 → lives.0 ≡ Begun block → (old ≡ Begun block) ⊎ BegunAmong number block (event ∷ events)
    here (Stays same) begun = inl (sym same ∙ begun)
    here (Begins at seen from to) begun =
        let one : Begun at ≡ Begun block = sym to ∙ begun in
        let there : at ≡ block = cc in
        inr (record {
          before = [];
          following = events;
          split = ap (λ (x : Event). x ∷ events) (seen ∙ ap (λ (b : ℕ). BeginsRead number b) there);
        })
    here (Enters at found seen from to) begun = absurd (let clash : Landed found ≡ Begun block = sym to ∙ begun in cc)
    here (Closes from to) begun = absurd (let clash : Closed ≡ Begun block = sym to ∙ begun in cc)
    here (Ends found seen from to) begun = absurd (let clash : Closed ≡ Begun block = sym to ∙ begun in cc)

-- a read that had not begun, and has landed, took effect among the events
pub read-took_effect : (number : ℕ) (bytes : Block) (old new : ReadLife) (events : List Event) → old ≡ NotBegun → ReadLives number old events new → new ≡ Landed bytes → ReadTookEffect number bytes events
read-took_effect number bytes old new events none lives is =
    ⊎_elim
    (λ was. absurd (let clash : NotBegun ≡ Landed bytes = sym none ∙ was in cc))
    (λ landed. ⊎_elim
    (λ was. absurd (let clash : NotBegun ≡ Begun landed.block = sym none ∙ was in cc))
    (λ begun. record {
      block = landed.block;
      before = begun.before;
      between = begun.following;
      following = landed.following;
      split = landed.split ∙ ap (λ xs. xs ++ Lands (entry_of_read number landed.block bytes) ∷ landed.following) begun.split ∙ append_assoc begun.before (BeginsRead number landed.block ∷ begun.following) (Lands (entry_of_read number landed.block bytes) ∷ landed.following);
    })
    (read-begun number landed.block old (Begun landed.block) landed.before landed.begun refl))
    (read-landed number bytes old new events lives is)

-- a read that lands, and had not begun, began before the entry
pub read-begin : (number block : ℕ) (bytes : Block) (old new : ReadLife) (earlier later : List Event) → old ≡ NotBegun → ReadLives number old (earlier ++ Lands (entry_of_read number block bytes) ∷ later) new → BegunAmong number block earlier
read-begin number block bytes old new earlier later none lives =
    let cut = read-cut number old new earlier (Lands (entry_of_read number block bytes) ∷ later) lives in
    let lands = read-lands number block bytes cut.0 (cut.2).0 (cut.2).1 in
    ⊎_elim
    (λ was. absurd (let clash : NotBegun ≡ Begun block = sym none ∙ was in cc))
    (λ begun. begun)
    (read-begun number block old cut.0 earlier cut.1 lands.0)

-- what has landed with bytes keeps them until it is replied to
pub read-keeps_bytes : (number : ℕ) (bytes others : Block) (old new : ReadLife) (events : List Event) → ReadLives number old events new → old ≡ Landed bytes → new ≡ Landed others → others ≡ bytes
read-keeps_bytes number bytes others old new [] lives from to =
    let one : Landed others ≡ Landed bytes = sym to ∙ (lives ∙ from) in cc
read-keeps_bytes number bytes others old new (event ∷ events) lives from to =
    next (read-move number old lives.0 event lives.1) (λ is. read-keeps_bytes number bytes others lives.0 new events lives.2 is to)
  where
    next : ReadMove number old event lives.0 → (lives.0 ≡ Landed bytes → others ≡ bytes) → others ≡ bytes
    next (Stays same) further = further (same ∙ from)
    next (Begins block seen was is) further = absurd (let clash : NotBegun ≡ Landed bytes = sym was ∙ from in cc)
    next (Enters block found seen was is) further = absurd (let clash : Begun block ≡ Landed bytes = sym was ∙ from in cc)
    next (Closes was is) further = absurd (let clash : NotBegun ≡ Landed bytes = sym was ∙ from in cc)
    next (Ends found seen was is) further = absurd (omega (arith, read-forward number lives.0 new events lives.2, ap (λ w. read_stage w) is, ap (λ w. read_stage w) to))

-- what has begun on a block keeps it until it lands
pub read-keeps_block : (number block other : ℕ) (old new : ReadLife) (events : List Event) → ReadLives number old events new → old ≡ Begun block → new ≡ Begun other → other ≡ block
read-keeps_block number block other old new [] lives from to =
    let one : Begun other ≡ Begun block = sym to ∙ (lives ∙ from) in cc
read-keeps_block number block other old new (event ∷ events) lives from to =
    next (read-move number old lives.0 event lives.1) (λ is. read-keeps_block number block other lives.0 new events lives.2 is to)
  where
    next : ReadMove number old event lives.0 → (lives.0 ≡ Begun block → other ≡ block) → other ≡ block
    next (Stays same) further = further (same ∙ from)
    next (Begins at seen was is) further = absurd (let clash : NotBegun ≡ Begun block = sym was ∙ from in cc)
    next (Enters at found seen was is) further = absurd (omega (arith, read-forward number lives.0 new events lives.2, ap (λ w. read_stage w) is, ap (λ w. read_stage w) to))
    next (Closes was is) further = absurd (let clash : NotBegun ≡ Begun block = sym was ∙ from in cc)
    next (Ends found seen was is) further = absurd (let clash : Landed found ≡ Begun block = sym was ∙ from in cc)

-- two events, one after the other: what the first leaves of a read lives up to what the second finds
pub record BetweenTwo (number : ℕ) (between : List Event) (first second : Event) : Type 0 where
  pub before : ReadLife
  pub after : ReadLife
  pub found : ReadLife
  pub end : ReadLife
  pub opens : ReadStep number before first after
  pub lives : ReadLives number after between found
  pub closes : ReadStep number found second end

pub read-between : (number : ℕ) (old new : ReadLife) (earlier between later : List Event) (first second : Event) → ReadLives number old (earlier ++ first ∷ (between ++ second ∷ later)) new → BetweenTwo number between first second
read-between number old new earlier between later first second lives =
    let whole = read-cut number old new earlier (first ∷ (between ++ second ∷ later)) lives in
    let rest = read-cut number (whole.2).0 new between (second ∷ later) (whole.2).2 in
    record { before = whole.0; after = (whole.2).0; found = rest.0; end = (rest.2).0; opens = (whole.2).1; lives = rest.1; closes = (rest.2).1 }

-- a read that is replied to, and had not begun, took effect before the reply
pub read-effect : (number : ℕ) (bytes : Block) (old new : ReadLife) (earlier later : List Event) → old ≡ NotBegun → ReadLives number old (earlier ++ RepliesRead number bytes ∷ later) new → ReadTookEffect number bytes earlier
read-effect number bytes old new earlier later none lives =
    let cut = read-cut number old new earlier (RepliesRead number bytes ∷ later) lives in
    let replies = read-replies number bytes cut.0 (cut.2).0 (cut.2).1 in
    read-took_effect number bytes old cut.0 earlier none cut.1 replies.0
