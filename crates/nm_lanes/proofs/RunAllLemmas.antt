-- Rounds of runs that are written or read, one after the other.
use Rattle.std.proofs.Common.{◌≡◌, inl, ℕ, ◌+◌, ◌-◌, ◌≤◌, Bool, true, false, Some, List, [], ◌∷◌, ◌++◌, length, take, drop, slice_get, refl, sym, ap, ◌∙◌, subst, append_assoc, append-nil, rules, arith}
use borrow.Rule.Slice.PartMut.{put_mid}
use Rattle.std.proofs.Math.Seq.{take-append-add}
use Rattle.std.proofs.lemmas.List.{length-append, take-append-le}
use Rattle.nm_geometry.specs.Geometry.{Geometry}
use Rattle.nm_lanes.specs.declared.call_error.CallError.{CallError}
use Rattle.nm_lanes.specs.declared.piece_range.PieceRange.{PieceRange}
use Rattle.nm_lanes.specs.declared.run.Run.{Run}
use Rattle.nm_lanes.specs.declared.run_write.RunWrite.{RunWrite}
use Rattle.nm_lanes.specs.Cuts.{runs_written}
use Rattle.nm_lanes.specs.Done.{Done}
use Rattle.nm_lanes.specs.Ends.{EachLane, LaneDid, LaneTries}
use Rattle.nm_lanes.specs.Fillings.{cuts_after, filling, target_of, IsPieceRange}
use Rattle.nm_lanes.specs.Lists.{MirrorStep, steps_in, stripe_list}
use Rattle.nm_lanes.specs.PieceRanges.{first_of, rest_of}
use Rattle.nm_lanes.specs.Reads.{HasRead, HasReadSome, ReadsSomeIn}
use Rattle.nm_lanes.specs.OnLanes.{EndedLanes}
use Rattle.nm_lanes.specs.RegionRuns.{DoesNext, DoesSomeIn, HasDone, HasDoneSome}
use Rattle.nm_lanes.specs.Writes.{HasWritten, HasWrittenSome, writes_in, LiesIn}
use Rattle.nm_lanes.proofs.EachLemmas.{each-append, each-map, each-same}
use Rattle.nm_lanes.proofs.LiftLemmas.{in-append, does-none}
use Rattle.nm_lanes.proofs.PieceRangeLemmas.{filling-none, written-append}
use Rattle.nm_lanes.proofs.PutListLemmas.{writes_in-append, lies-left, lies-right}
use Rattle.nm_lanes.proofs.ShareLemmas.{own-list, tries-share, each-behind, tries-behind}
use Rattle.nm_lanes.proofs.RunListLemmas.{DoesAll, in-runs, done-in, each-claimed, none-done, none-some, some-right, some-append}
use Rattle.nm_lanes.proofs.RegionRunLemmas.{done-append}

module _ {L D : Type 0} (follows : D → List (Done L) → D → Type 0) (stays : (lane : D) → follows lane [] lane) (shape : Geometry) (reads : Bool) where
  -- a lane that was left alone
  rests : (writes : List RunWrite) (cause : CallError) (stripe : ℕ) (lane : D) → (stripe ≡ cause.stripe → ⊥) → LaneTries follows (λ own. DoesSomeIn shape reads writes stripe own) cause stripe lane lane
  rests writes cause stripe lane other = record {
    own = [];
    share = none-some L shape reads (writes_in shape stripe writes);
    did = inl (tt, record { list = []; leads = stays lane; own_is = refl });
    ends = λ same. absurd (other same);
  }

  -- the call ended in a round, after which other runs are left
  pub round-ended : (now later : List RunWrite) (cause : CallError) (first : ℕ) (before xs us after : List D) → length before ≡ first → LiesIn shape now cause.stripe
      → EndedLanes follows (λ stripe own. DoesSomeIn shape reads now stripe own) first (xs, us) cause → HasDoneSome follows shape reads (now ++ later) (before ++ (xs ++ after), before ++ (us ++ after)) cause
  round-ended now later cause first before xs us after at lies a =
      let Tries : ℕ → D → D → Type 0 = λ stripe old new. LaneTries follows (λ own. DoesSomeIn shape reads (now ++ later) stripe own) cause stripe old new in
      let long = length-append before (xs ++ after) in
      let more = length-append xs after in
      let here : first ≡ 0 + length before = omega (arith, at) in
      record {
        stripe = lies-left shape now later cause.stripe lies;
        tried = record {
          inside = omega (arith, a.upto, at, long, more);
          each = each-append Tries 0 before before (xs ++ after) (us ++ after) (each-same Tries 0 before (λ stripe lane from below. rests (now ++ later) cause stripe lane (λ is. omega (arith, is, below, a.from, at))))
              (each-append Tries (0 + length before) xs us after after
              (subst (λ (n : ℕ). EachLane Tries n xs us) here (each-map (λ stripe old new. LaneTries follows (λ own. DoesSomeIn shape reads now stripe own) cause stripe old new) Tries first xs us
              (λ stripe old new from below tries. tries-share follows (λ own. DoesSomeIn shape reads now stripe own) (λ own. DoesSomeIn shape reads (now ++ later) stripe own) cause stripe old new
              (λ own some. rw (writes_in-append shape stripe now later) (some-right shape reads (writes_in shape stripe now) (writes_in shape stripe later) (steps_in stripe own) some)) tries) a.each))
              (each-same Tries (0 + length before + length xs) after (λ stripe lane from below. rests (now ++ later) cause stripe lane (λ is. omega (arith, is, from, a.upto, at)))));
        };
      }

-- so many rounds are done, into the front of the target
pub record AllSoFar {L D : Type 0} (follows : D → List (Done L) → D → Type 0) (shape : Geometry) (reads : Bool) (all : List RunWrite) (left : PieceRange) (cuts : List RunWrite) (target : List ℕ) (old lanes : List D) : Type 0 where
  pub done : List RunWrite
  pub all_are : all ≡ done ++ filling shape left cuts
  pub does : HasDone follows shape reads done (old, lanes) target
  pub rest : IsPieceRange shape left cuts

module _ {L D : Type 0} (follows : D → List (Done L) → D → Type 0)
    (joins : (first mid last : D) (before after : List (Done L)) → follows first before mid → follows mid after last → follows first (before ++ after) last)
    (shape : Geometry) (reads : Bool) where
  -- all runs of a stripe in some rounds, and some of those in a later one
  both-some : (first rest : List RunWrite) (stripe : ℕ) (done more : List (Done L)) → DoesAll shape reads (writes_in shape stripe first) (steps_in stripe done) → DoesSomeIn shape reads rest stripe more → DoesSomeIn shape reads (first ++ rest) stripe (done ++ more)
  both-some first rest stripe done more a b =
      rw (writes_in-append shape stripe first rest, in-append stripe done more) (some-append shape reads (writes_in shape stripe first) (writes_in shape stripe rest) a.0 (steps_in stripe done) (steps_in stripe more) a.1 b)

  -- runs of all lanes are runs of each
  lane-done : (writes : List RunWrite) (olds mids : List D) (target : List ℕ) (stripe : ℕ) (old mid : D) → (a : HasDone follows shape reads writes (olds, mids) target) → slice_get olds stripe ≡ Some old → slice_get mids stripe ≡ Some mid
      → LaneDid follows (λ own. DoesAll shape reads (writes_in shape stripe writes) (steps_in stripe own)) old mid
  lane-done writes olds mids target stripe old mid a was is =
      let own = stripe_list stripe a.own in
      let all = done-in shape reads stripe writes target a.own a.each in
      record {
        own = own;
        all = all;
        claimed = each-claimed shape reads (writes_in shape stripe writes) all.0 stripe own all.1;
        does = record {
          list = stripe_list stripe a.does.list;
          leads = a.does.leads.each stripe old mid was is;
          own_is = own-list stripe a.does.list ∙ ap (λ (own : List (MirrorStep L)). stripe_list stripe own) a.does.own_is;
        };
      }

  -- rounds that went through, and one that ended the call
  done-ended : (first rest : List RunWrite) (target : List ℕ) (cause : CallError) (old mid new : List D) → HasDone follows shape reads first (old, mid) target → HasDoneSome follows shape reads rest (mid, new) cause → HasDoneSome follows shape reads (first ++ rest) (old, new) cause
  done-ended first rest target cause old mid new a b = record {
    stripe = lies-right shape first rest cause.stripe b.stripe;
    tried = record {
      inside = rw (← a.does.leads.as_many) b.tried.inside;
      each = each-behind follows (λ stripe before after. LaneDid follows (λ own. DoesAll shape reads (writes_in shape stripe first) (steps_in stripe own)) before after)
          (λ stripe before after. LaneTries follows (λ own. DoesSomeIn shape reads rest stripe own) cause stripe before after) (λ stripe before after. LaneTries follows (λ own. DoesSomeIn shape reads (first ++ rest) stripe own) cause stripe before after) 0 old mid new
          (λ stripe before between after did tries. tries-behind follows joins (λ own. DoesAll shape reads (writes_in shape stripe first) (steps_in stripe own)) (λ own. DoesSomeIn shape reads rest stripe own) (λ own. DoesSomeIn shape reads (first ++ rest) stripe own) cause stripe before between after
          (λ done more all some. both-some first rest stripe done more all some) did tries) a.does.leads.as_many
          (λ number before after was is. let e : 0 + number ≡ number = omega arith in rw e (lane-done first old mid target number before after a was is)) b.tried.each;
    };
  }

  pub all-more : (all : List RunWrite) (left : PieceRange) (cuts next : List RunWrite) (found new both : List ℕ) (old mid lanes : List D) (done : ℕ) → left.is_read ≡ reads → both ≡ found ++ take (target_of (first_of done left)) new → AllSoFar follows shape reads all left cuts found old mid
      → DoesNext follows shape left (cuts, next) (mid, lanes) new done → AllSoFar follows shape reads all (rest_of done left) (cuts_after shape left done next) both old lanes
  all-more all left cuts next found new both old mid lanes done kind is a b =
      let now = take (target_of (first_of done left)) new in
      let does : HasDone follows shape reads b.now (mid, lanes) now = subst (λ (r : Bool). HasDone follows shape r b.now (mid, lanes) now) kind b.does in
      record {
        done = a.done ++ b.now;
        all_are = a.all_are ∙ ap (λ (ws : List RunWrite). a.done ++ ws) b.split ∙ sym (append_assoc a.done b.now (filling shape (rest_of done left) (cuts_after shape left done next)));
        does = subst (λ (bs : List ℕ). HasDone follows shape reads (a.done ++ b.now) (old, lanes) bs) (sym is) (done-append follows joins shape reads a.done b.now old mid lanes found now a.does does);
        rest = b.rest;
      }

  pub all-ended : (all : List RunWrite) (left : PieceRange) (cuts : List RunWrite) (found : List ℕ) (old mid new : List D) (cause : CallError) → left.is_read ≡ reads → AllSoFar follows shape reads all left cuts found old mid
      → HasDoneSome follows shape left.is_read (filling shape left cuts) (mid, new) cause → HasDoneSome follows shape reads all (old, new) cause
  all-ended all left cuts found old mid new cause kind a b =
      let ended : HasDoneSome follows shape reads (filling shape left cuts) (mid, new) cause = subst (λ (r : Bool). HasDoneSome follows shape r (filling shape left cuts) (mid, new) cause) kind b in
      subst (λ (ws : List RunWrite). HasDoneSome follows shape reads ws (old, new) cause) (sym a.all_are) (done-ended a.done (filling shape left cuts) found cause old mid new a.does ended)

module _ {L D : Type 0} (follows : D → List (Done L) → D → Type 0) (stays : (lane : D) → follows lane [] lane) where
  pub all-begins : (shape : Geometry) (pieces : PieceRange) (cuts : List RunWrite) (old : List D) → IsPieceRange shape pieces cuts → AllSoFar follows shape pieces.is_read (filling shape pieces cuts) pieces cuts [] old old
  all-begins shape pieces cuts old a = record { done = []; all_are = refl; does = record { own = []; does = does-none follows stays old; each = none-done L shape pieces.is_read }; rest = a }

module _ {L D : Type 0} (follows : D → List (Done L) → D → Type 0) (shape : Geometry) where
  -- no round is left
  pub all-done : (reads : Bool) (all : List RunWrite) (left : PieceRange) (cuts : List RunWrite) (found target : List ℕ) (old new : List D) → left.count ≡ 0 → target ≡ found → AllSoFar follows shape reads all left cuts found old new → HasDone follows shape reads all (old, new) target
  all-done reads all left cuts found target old new none is a =
      let all_are : all ≡ a.done = a.all_are ∙ ap (λ (ws : List RunWrite). a.done ++ ws) (filling-none shape left cuts none a.rest) ∙ append-nil a.done in
      rw (all_are, is) a.does

  -- runs that were written
  pub has-written : (writes others : List RunWrite) (lanes : List D × List D) (target : List ℕ) → writes ≡ others → HasDone follows shape false writes lanes target → HasWritten follows shape others lanes
  has-written writes others lanes target are a = subst (λ (ws : List RunWrite). HasWritten follows shape ws lanes) are (record { own = a.own; does = a.does; each = a.each })

  pub has-written-some : (writes others : List RunWrite) (lanes : List D × List D) (cause : CallError) → writes ≡ others → HasDoneSome follows shape false writes lanes cause → HasWrittenSome follows shape others lanes cause
  has-written-some writes others lanes cause are a = subst (λ (ws : List RunWrite). HasWrittenSome follows shape ws lanes cause) are (record { stripe = a.stripe; tried = a.tried })

  -- runs that were read
  pub has-read : (writes : List RunWrite) (runs : List Run) (lanes : List D × List D) (target : List ℕ) → runs_written writes ≡ runs → HasDone follows shape true writes lanes target → HasRead follows shape runs lanes target
  has-read writes runs lanes target are a =
      subst (λ (rs : List Run). HasRead follows shape rs lanes target) are (record { own = a.own; does = a.does; each = a.each.each; filled = a.each.filled })

  pub has-read-some : (writes : List RunWrite) (runs : List Run) (lanes : List D × List D) (cause : CallError) → runs_written writes ≡ runs → HasDoneSome follows shape true writes lanes cause → HasReadSome follows shape runs lanes cause
  has-read-some writes runs lanes cause are a = subst (λ (rs : List Run). HasReadSome follows shape rs lanes cause) are (record {
    stripe = record {
      first = runs_written a.stripe.first;
      run = a.stripe.write.run;
      rest = runs_written a.stripe.rest;
      runs_are = ap (λ (ws : List RunWrite). runs_written ws) a.stripe.writes_are ∙ written-append a.stripe.first (a.stripe.write ∷ a.stripe.rest);
      stripe_is = a.stripe.stripe_is;
    };
    tried = record {
      inside = a.tried.inside;
      each = each-map (λ stripe old new. LaneTries follows (λ own. DoesSomeIn shape true writes stripe own) cause stripe old new) (λ stripe old new. LaneTries follows (λ own. ReadsSomeIn shape (runs_written writes) stripe own) cause stripe old new) 0 lanes.0 lanes.1
          (λ stripe old new from below tries. tries-share follows (λ own. DoesSomeIn shape true writes stripe own) (λ own. ReadsSomeIn shape (runs_written writes) stripe own) cause stripe old new (λ own some. rw (← in-runs shape stripe writes) some) tries) a.tried.each;
    };
  })

-- what stands in a target up to a byte of what was put after its first bytes
pub taken-more : (taken more : ℕ) (into new : List ℕ) → taken ≤ length into → more ≤ length new → take (taken + more) (put_mid taken (length into - taken) into new) ≡ take taken into ++ take more new
taken-more taken more into new le fits =
    let front = take taken into in
    let back = drop (length into - taken) (drop taken into) in
    let long : length front ≡ taken = search (rules, le) in
    ap (λ (n : ℕ). take (n + more) (front ++ (new ++ back))) (sym long) ∙ take-append-add front (new ++ back) more ∙ ap (λ bs. front ++ bs) (take-append-le more new back fits)
