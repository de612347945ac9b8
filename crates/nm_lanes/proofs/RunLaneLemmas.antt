-- Runs of a stripe that are written or read on its lane, one more at a time.
use Rattle.std.proofs.Common.{Result, Ok, Err, IfErr, IsErrAnd, ◌≡◌, inl, inr, ℕ, Bool, true, false, if◌then◌else◌, List, [], ◌∷◌, ◌++◌, length, get_or, slice_set, refl, sym, ap, ◌∙◌, subst, append_assoc, append-nil, arith}
use Rattle.std.proofs.Math.Seq.{get_or-append_seam, set-append_seam}
use Rattle.std.proofs.lemmas.Bool.{true≢false}
use Rattle.std.proofs.lemmas.List.{length-append}
use Rattle.nm_geometry.specs.Geometry.{Geometry, stripe_of, block_in_stripe}
use Rattle.nm_fanout.specs.declared.block_data.Data.{Data}
use Rattle.nm_fanout.specs.declared.block_data.Data.TheVariants.{Zero}
use Rattle.nm_stripe.specs.declared.answer.Answer.TheVariants.{Begun}
use Rattle.nm_stripe.specs.declared.step.Step.TheVariants.{Begin, Claim, Read}
use Rattle.nm_lanes.specs.declared.call_error.CallError.{CallError}
use Rattle.nm_lanes.specs.declared.call_error_kind.CallErrorKind.{CallErrorKind}
use Rattle.nm_lanes.specs.declared.call_error_kind.CallErrorKind.TheVariants.{Gone}
use Rattle.nm_lanes.specs.declared.piece_range.PieceRange.{PieceRange}
use Rattle.nm_lanes.specs.declared.run.Run.{Run}
use Rattle.nm_lanes.specs.declared.run_write.RunWrite.{RunWrite}
use Rattle.nm_lanes.specs.Cuts.{AreZeroes, zero_for, zeroes_for}
use Rattle.nm_lanes.specs.Done.{Done, done_as}
use Rattle.nm_lanes.specs.Ends.{BeganOwn, ByLeaving, ByStep, LaneDid, LaneTries, LeavesZeroes}
use Rattle.nm_lanes.specs.Fillings.{filling, IsPieceRange, TakesRun}
use Rattle.nm_lanes.specs.Lane.{LaneDoes, LaneStops}
use Rattle.nm_lanes.specs.Lists.{steps_in}
use Rattle.nm_lanes.specs.Own.{EndsSo}
use Rattle.nm_lanes.specs.PieceRanges.{rest_of, runs_in_pieces}
use Rattle.nm_lanes.specs.Reads.{IsValue, run_bytes}
use Rattle.nm_lanes.specs.Runs.{is_whole}
use Rattle.nm_lanes.specs.Steps.{IsWritten, Nobodys, Only}
use Rattle.nm_lanes.specs.RegionRuns.{DoesEach, DoesOne, DoesSome, DoesSomeIn, EndsRuns, HasDone, OneStops}
use Rattle.nm_lanes.specs.Writes.{writes_in}
use Rattle.nm_lanes.proofs.ClaimedLemmas.{claimed-append, not-begun}
use Rattle.nm_lanes.proofs.LaneLemmas.{does-does, does-stops, stops-more}
use Rattle.nm_lanes.proofs.LiftLemmas.{does-lane, in-append}
use Rattle.nm_lanes.proofs.PieceRangeLemmas.{filling-none}
use Rattle.nm_lanes.proofs.ShareLemmas.{tries-share}
use Rattle.nm_lanes.proofs.RunListLemmas.{each-append, each-some, none-done, some-append}

-- the own steps of a stripe that did these runs
abbrev pub Did : {L : Type 0} → Geometry → Bool → List RunWrite → List ℕ → ℕ → List (Done L) → Type 0
Did shape reads writes target stripe own = DoesEach shape reads writes target (steps_in stripe own)

-- those that did some of them
abbrev pub DidSome : {L : Type 0} → Geometry → Bool → List RunWrite → ℕ → List (Done L) → Type 0
DidSome shape reads writes stripe own = DoesSome shape reads writes (steps_in stripe own)

-- an end of the call that is handed on
pub handed-on : {A : Type 0} (result : Result A CallErrorKind) (kind : CallErrorKind) (Ends : CallErrorKind → Type 0) → IsErrAnd result (λ told. told ≡ kind) → Ends kind → IfErr result Ends
handed-on (Ok done) kind Ends same ends = absurd same
handed-on (Err told) kind Ends same ends = rw same ends

-- what is put into the first run of a piece range that has no cuts
abbrev first-bytes : List RunWrite → Data
first-bytes [] = Zero 1
first-bytes (write ∷ writes) = write.bytes

zero-zeroes : (run : Run) (whole : Bool) → is_whole run ≡ whole → AreZeroes (zero_for run)
zero-zeroes run true is = rw is tt
zero-zeroes run false is = rw is tt

if-true : (is : Bool) (xs ys : List RunWrite) → is ≡ true → (if is then xs else ys) ≡ xs
if-true is xs ys same = rw same refl

takes-zeroes : (shape : Geometry) (left : PieceRange) (cuts next : List RunWrite) (write : RunWrite) (blocks : ℕ) → left.no_payload ≡ true → TakesRun shape left cuts next write blocks → AreZeroes write.bytes
takes-zeroes shape left cuts next write blocks zeroes a =
    let filled : filling shape left cuts ≡ zeroes_for (runs_in_pieces shape left) = if-true left.no_payload (zeroes_for (runs_in_pieces shape left)) cuts zeroes in
    let runs : zeroes_for (runs_in_pieces shape left) ≡ zeroes_for (write.run ∷ runs_in_pieces shape (rest_of blocks left)) = ap (λ (rs : List Run). zeroes_for rs) a.first.runs in
    let same : zero_for write.run ≡ write.bytes = ap (λ ws. first-bytes ws) (sym runs ∙ sym filled ∙ a.taken) in
    subst (λ (bytes : Data). AreZeroes bytes) same (zero-zeroes write.run (is_whole write.run) refl)

-- the first runs are done, into the front of the target, and the others are left
pub record SoFar {L D : Type 0} (follows : D → List (Done L) → D → Type 0) (shape : Geometry) (reads : Bool) (stripe : ℕ) (all : List RunWrite) (left : PieceRange) (cuts : List RunWrite) (found : List ℕ) (old lane : D) : Type 0 where
  pub first : List RunWrite
  pub all_are : all ≡ first ++ filling shape left cuts
  pub did : LaneDid follows (λ own. Did shape reads first found stripe own) old lane
  pub rest : IsPieceRange shape left cuts

module _ {L D : Type 0} (follows : D → List (Done L) → D → Type 0)
    (joins : (first mid last : D) (before after : List (Done L)) → follows first before mid → follows mid after last → follows first (before ++ after) last)
    (shape : Geometry) (stripe : ℕ) where
  -- a run that was read, or written
  one-did : (reads : Bool) (write : RunWrite) (block : ℕ) (last : List ℕ) (mid new : D) → stripe ≡ stripe_of write.run.block shape → block ≡ block_in_stripe write.run.block shape
      → DoesOne follows (mid, new) reads block write last → LaneDid follows (λ own. Did shape reads (write ∷ []) last stripe own) mid new
  one-did true write block last mid new in_stripe is b =
      let told = b.completes.answer in
      record {
        own = done_as (Read block b.room) told ∷ [];
        all = record {
          each = (record { stripe = in_stripe; room = b.room; long = b.long; step = ap (λ n. Read n b.room) is; value = b.completes.is_answer.0 }, tt);
          filled = b.completes.is_answer.1 ∙ sym (append-nil (run_bytes write.run told));
        };
        claimed = not-begun (λ told. IsValue told) told (λ ticket none. none) b.completes.is_answer.0;
        does = b.completes.does;
      }
  one-did false write block last mid new in_stripe is b = record {
    own = done_as (Begin block write.bytes) (Begun b.ticket) ∷ done_as (Claim b.ticket) b.answer ∷ [];
    all = (
      record {
        ticket = b.ticket;
        begins = record { stripe = in_stripe; step = ap (λ n. Begin n write.bytes) is; begun = refl };
        stripe = in_stripe;
        claims = refl;
        written = b.written;
      },
      tt,
    );
    claimed = not-begun (λ told. IsWritten told) b.answer (λ ticket none. none) b.written;
    does = b.does;
  }

  did-did : (reads : Bool) (xs ys : List RunWrite) (front back : List ℕ) (old mid new : D) → LaneDid follows (λ own. Did shape reads xs front stripe own) old mid → LaneDid follows (λ own. Did shape reads ys back stripe own) mid new
      → LaneDid follows (λ own. Did shape reads (xs ++ ys) (front ++ back) stripe own) old new
  did-did reads xs ys front back old mid new a b = record {
    own = a.own ++ b.own;
    all = rw (in-append stripe a.own b.own) (each-append shape reads xs ys front back (steps_in stripe a.own) (steps_in stripe b.own) a.all b.all);
    claimed = claimed-append a.own b.own a.claimed b.claimed;
    does = does-does follows joins old mid new a.own b.own a.does b.does;
  }

  -- one run more
  pub run-more : (reads : Bool) (all : List RunWrite) (left : PieceRange) (cuts next : List RunWrite) (write : RunWrite) (blocks block : ℕ) (found last both : List ℕ) (old mid new : D)
      → TakesRun shape left cuts next write blocks → stripe ≡ stripe_of write.run.block shape → block ≡ block_in_stripe write.run.block shape → both ≡ found ++ last
      → SoFar follows shape reads stripe all left cuts found old mid → DoesOne follows (mid, new) reads block write last → SoFar follows shape reads stripe all (rest_of blocks left) next both old new
  run-more reads all left cuts next write blocks block found last both old mid new takes in_stripe is joined a b = record {
    first = a.first ++ write ∷ [];
    all_are = a.all_are ∙ ap (λ (ws : List RunWrite). a.first ++ ws) takes.taken ∙ sym (append_assoc a.first (write ∷ []) (filling shape (rest_of blocks left) next));
    did = rw joined (did-did reads a.first (write ∷ []) found last old mid new a.did (one-did reads write block last mid new in_stripe is b));
    rest = takes.rest;
  }

  -- own steps that did all runs before one, and some of its own
  some-more : (reads : Bool) (all : List RunWrite) (left : PieceRange) (cuts next : List RunWrite) (write : RunWrite) (blocks : ℕ) (found : List ℕ) (old mid : D) → TakesRun shape left cuts next write blocks → (a : SoFar follows shape reads stripe all left cuts found old mid) → (own : List (Done L))
      → DidSome shape reads (write ∷ filling shape (rest_of blocks left) next) stripe own → DidSome shape reads all stripe (a.did.own ++ own)
  some-more reads all left cuts next write blocks found old mid takes a own some =
      let rest = write ∷ filling shape (rest_of blocks left) next in
      rw (a.all_are ∙ ap (λ (ws : List RunWrite). a.first ++ ws) takes.taken, in-append stripe a.did.own own) (some-append shape reads a.first rest found (steps_in stripe a.did.own) (steps_in stripe own) a.did.all some)

  -- the end of the call at a run
  stops-so : (reads : Bool) (all : List RunWrite) (kind : CallErrorKind) (done own : List (Done L)) (Ours : ℕ → Type 0) (old mid new : D) → DidSome shape reads all stripe (done ++ own) → ((ticket : ℕ) → Ours ticket → BeganOwn (done ++ own) ticket)
      → LaneDoes follows old mid done → LaneStops follows mid new own (EndsSo Ours kind) → LaneTries follows (λ own. DidSome shape reads all stripe own) (record { stripe = stripe; kind = kind }) stripe old new
  stops-so reads all kind done own Ours old mid new some began a b =
      let stops = stops-more follows old new (done ++ own) Ours (BeganOwn (done ++ own)) kind began (does-stops follows joins old mid new done own (EndsSo Ours kind) a b) in
      record { own = done ++ own; share = some; did = inr (omega arith, kind, ByStep stops); ends = λ same. ByStep stops }

  pub run-stops : (reads : Bool) (all : List RunWrite) (left : PieceRange) (cuts next : List RunWrite) (write : RunWrite) (blocks block : ℕ) (kind : CallErrorKind) (found : List ℕ) (old mid new : D)
      → TakesRun shape left cuts next write blocks → stripe ≡ stripe_of write.run.block shape → block ≡ block_in_stripe write.run.block shape
      → SoFar follows shape reads stripe all left cuts found old mid → OneStops follows (mid, new) reads block write kind
      → LaneTries follows (λ own. DidSome shape reads all stripe own) (record { stripe = stripe; kind = kind }) stripe old new
  run-stops true all left cuts next write blocks block kind found old mid new takes in_stripe is a b =
      stops-so true all kind a.did.own [] Nobodys old mid new (some-more true all left cuts next write blocks found old mid takes a [] tt) (λ ticket none. absurd none) a.did.does b
  run-stops false all left cuts next write blocks block kind found old mid new takes in_stripe is a (inl b) =
      stops-so false all kind a.did.own [] Nobodys old mid new (some-more false all left cuts next write blocks found old mid takes a [] tt) (λ ticket none. absurd none) a.did.does b
  run-stops false all left cuts next write blocks block kind found old mid new takes in_stripe is a (inr b) =
      let begun = done_as (Begin block write.bytes) (Begun b.0) in
      stops-so false all kind a.did.own (begun ∷ []) (Only b.0) old mid new
      (some-more false all left cuts next write blocks found old mid takes a (begun ∷ []) (b.0, record { stripe = in_stripe; step = ap (λ n. Begin n write.bytes) is; begun = refl }))
      (λ ticket same. record { before = a.did.own; last = begun; own_is = refl; begun = ap (λ n. Begun n) (sym same) }) a.did.does b.1

  -- the caller is gone before a run of zeroes
  pub run-leaves : (reads : Bool) (all : List RunWrite) (left : PieceRange) (cuts next : List RunWrite) (write : RunWrite) (blocks : ℕ) (found : List ℕ) (old lane : D)
      → TakesRun shape left cuts next write blocks → left.no_payload ≡ true → reads ≡ false → stripe ≡ stripe_of write.run.block shape
      → SoFar follows shape reads stripe all left cuts found old lane → LaneTries follows (λ own. DidSome shape reads all stripe own) (record { stripe = stripe; kind = Gone }) stripe old lane
  run-leaves true all left cuts next write blocks found old lane takes zeroes not_read in_stripe a = absurd (true≢false not_read)
  run-leaves false all left cuts next write blocks found old lane takes zeroes not_read in_stripe a =
      let block = block_in_stripe write.run.block shape in
      let begun : Done L = done_as (Begin block write.bytes) (Begun 0) in
      let some = some-more false all left cuts next write blocks found old lane takes a in
      let left : LeavesZeroes (λ own. DidSome shape false all stripe own) a.did.own = record {
        block = block;
        bytes = write.bytes;
        ticket = 0;
        zeroes = takes-zeroes shape left cuts next write blocks zeroes takes;
        next = some (begun ∷ []) (0, record { stripe = in_stripe; step = refl; begun = refl });
      } in
      record {
        own = a.did.own;
        share = subst (λ (own : List (Done L)). DidSome shape false all stripe own) (append-nil a.did.own) (some [] tt);
        did = inl (a.did.claimed, a.did.does);
        ends = λ same. ByLeaving refl left a.did.claimed a.did.does;
      }

module _ {L D : Type 0} (follows : D → List (Done L) → D → Type 0) (stays : (lane : D) → follows lane [] lane) (shape : Geometry) where
  pub run-begins : (pieces : PieceRange) (stripe : ℕ) (cuts : List RunWrite) (old : D) → IsPieceRange shape pieces cuts → SoFar follows shape pieces.is_read stripe (filling shape pieces cuts) pieces cuts [] old old
  run-begins pieces stripe cuts old a = record {
    first = [];
    all_are = refl;
    did = record { own = []; all = none-done L shape pieces.is_read; claimed = tt; does = record { list = []; leads = stays old; own_is = refl } };
    rest = a;
  }

  -- all runs of a lane among others
  done-at : (reads : Bool) (writes : List RunWrite) (target : List ℕ) (before : List D) (x u : D) (after : List D) → LaneDid follows (λ own. Did shape reads writes target (length before) own) x u → HasDone follows shape reads writes (before ++ x ∷ after, before ++ u ∷ after) target
  done-at reads writes target before x u after a =
      let at = length before in
      let old = before ++ x ∷ after in
      let long = length-append before (x ∷ after) in
      let here : LaneDoes follows (get_or old at x) u a.own = subst (λ (d : D). LaneDoes follows d u a.own) (sym (get_or-append_seam before x after x)) a.does in
      record {
        own = steps_in at a.own;
        does = rw (← set-append_seam before x after u) (does-lane follows stays old at x u a.own (omega (arith, long)) here);
        each = a.all;
      }

  pub done-one : (reads : Bool) (writes : List RunWrite) (target : List ℕ) (stripe : ℕ) (xs : List D) (d u : D) → length xs ≡ 1 → LaneDid follows (λ own. Did shape reads writes target stripe own) (get_or xs 0 d) u → EndsRuns {A = Unit {0}} follows shape reads writes stripe (xs, slice_set xs 0 u) target (Ok (tt {0}))
  done-one reads writes target stripe [] d u one a = absurd (omega (arith, one))
  done-one reads writes target stripe (x ∷ []) d u one a = λ before after at. done-at reads writes target before x u after (subst (λ (n : ℕ). LaneDid follows (λ own. Did shape reads writes target n own) x u) (sym at) a)
  done-one reads writes target stripe (x ∷ (y ∷ xs)) d u one a = absurd (omega (arith, one))

module _ {L D : Type 0} (follows : D → List (Done L) → D → Type 0) (shape : Geometry) (reads : Bool) (stripe : ℕ) where
  -- no run is left
  pub run-ends : (all : List RunWrite) (left : PieceRange) (cuts : List RunWrite) (found target : List ℕ) (old new : D) → left.count ≡ 0 → target ≡ found → SoFar follows shape reads stripe all left cuts found old new → LaneDid follows (λ own. Did shape reads all target stripe own) old new
  run-ends all left cuts found target old new none is a =
      let all_are : all ≡ a.first = a.all_are ∙ ap (λ (ws : List RunWrite). a.first ++ ws) (filling-none shape left cuts none a.rest) ∙ append-nil a.first in
      rw (all_are, is) a.did

  -- where all runs are the stripe's
  pub did-some : (writes : List RunWrite) (target : List ℕ) (old new : D) → writes_in shape stripe writes ≡ writes → LaneDid follows (λ own. Did shape reads writes target stripe own) old new → LaneDid follows (λ own. DoesSomeIn shape reads writes stripe own) old new
  did-some writes target old new is a = record { own = a.own; all = rw is (each-some shape reads writes target (steps_in stripe a.own) a.all); claimed = a.claimed; does = a.does }

  pub tries-some : (writes : List RunWrite) (cause : CallError) (old new : D) → writes_in shape stripe writes ≡ writes → LaneTries follows (λ own. DidSome shape reads writes stripe own) cause stripe old new → LaneTries follows (λ own. DoesSomeIn shape reads writes stripe own) cause stripe old new
  tries-some writes cause old new is a = tries-share follows (λ own. DidSome shape reads writes stripe own) (λ own. DoesSomeIn shape reads writes stripe own) cause stripe old new (λ own some. rw is some) a
