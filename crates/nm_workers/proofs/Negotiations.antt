-- What the parts of the haggling do together.
use Rattle.std.proofs.Common.{◌≡◌, ℕ, List, [], ◌∷◌, Option, take, true, false, refl, sym, ap, ◌∙◌, subst, append-nil, inl}
use Rattle.std.specs.Io.KnownBytes.{Appends, Consumes}
use Rattle.std.proofs.KnownBytes.{Appends-nil, Consumes-nil}
use Rattle.nm_session.specs.declared.end.End.{End}
use Rattle.nm_session.specs.declared.end.End.TheVariants as end
use Rattle.nm_session.specs.declared.serve_fault.ServeFault.{ServeFault}
use Rattle.nm_session.specs.declared.serve_fault.ServeFault.TheVariants as fault
use Rattle.nm_session.specs.declared.served.Served.{Served}
use Rattle.nm_session.specs.declared.stage.Stage.{Stage}
use Rattle.nm_session.specs.declared.stage.Stage.TheVariants as stage
use Rattle.nm_session.specs.Event.{Fed, Took, Takes}
use Rattle.nm_session.specs.Feeding.{FeedsAt}
use Rattle.nm_session.specs.Io.{FeedsPiece, FeedsNone, SendsOut, SendsPart}
use Rattle.nm_session.specs.declared.outstanding.Outstanding.{Outstanding}
use Rattle.nm_session.specs.declared.phase.Phase.TheVariants as phase
use Rattle.nm_session.specs.Serving.{CoreEnds, IsEnd}
use Rattle.nm_session.specs.Session.{Session, phase_at}
use Rattle.nm_workers.specs.Results.{moment, Note}
use Rattle.nm_workers.specs.Serving.{Io, io, left, Goes, Ends, Breaks}
use Rattle.nm_workers.proofs.WholeSessions.{goes_on, ends_on, breaks_on}

module _ {F : Note → Unit {0} → Unit {0} → Type 0} where
  -- replies are taken out and written
  sends : (old new : Session) (bytes output written : Option (List ℕ)) → SendsOut old new output written
      → Goes F old new (io bytes output tt) (io bytes written tt)
  sends old new bytes output written sent = record {
    events = Took old.out ∷ [];
    runs = (moment new tt, (sent.takes, refl), refl);
    consumes = Consumes-nil bytes;
    appends = subst (Appends output written) (sym (append-nil old.out)) sent.appends;
  }

  sends_part : (found : ServeFault) (old new : Session) (bytes output written : Option (List ℕ))
      → SendsPart found old new output written → Breaks F found old (io bytes output tt) (left written tt)
  sends_part fault.Memory old new bytes output written part = absurd part
  sends_part fault.Read old new bytes output written part = absurd part
  sends_part (fault.Write sent) old new bytes output written part = record {
    events = Took old.out ∷ [];
    last = new;
    unread = bytes;
    unfed = [];
    written = take sent old.out;
    runs = (moment new tt, (part.0, refl), refl);
    consumes = Consumes-nil bytes;
    appends = part.1;
    cause = ([], old.out, append-nil old.out, refl, part.2);
  }

  -- a piece is read and fed
  feeds : (old new : Session) (bytes unread output : Option (List ℕ)) → FeedsPiece true old new bytes unread
      → Goes F old new (io bytes output tt) (io unread output tt)
  feeds old new bytes unread output piece = record {
    events = Fed piece.0 ∷ [];
    runs = (moment new tt, (piece.2, refl), refl);
    consumes = subst (Consumes bytes unread) (sym (append-nil piece.0)) piece.1;
    appends = Appends-nil output;
  }

  feeds_none : (found : ServeFault) (old new : Session) (bytes unread output : Option (List ℕ))
      → FeedsNone found old new bytes unread → Breaks F found old (io bytes output tt) (left output tt)
  feeds_none (fault.Write sent) old new bytes unread output none = absurd none
  feeds_none fault.Memory old new bytes unread output none = record {
    events = [];
    last = new;
    unread = unread;
    unfed = none.0;
    written = [];
    runs = ap (λ (s : Session). moment s tt) none.2;
    consumes = none.1;
    appends = Appends-nil output;
    cause = refl;
  }
  feeds_none fault.Read old new bytes unread output none = record {
    events = [];
    last = new;
    unread = unread;
    unfed = [];
    written = [];
    runs = ap (λ (s : Session). moment s tt) none.1;
    consumes = none.0;
    appends = Appends-nil output;
    cause = refl;
  }

-- the phase tells the stage
pub haggling_stage : (at : Stage) (outstanding : List Outstanding) → phase.Haggling ≡ phase_at at outstanding → at ≡ stage.Haggling
haggling_stage stage.Haggling outstanding is = refl
haggling_stage stage.Serving outstanding is = absurd (cc)
haggling_stage (stage.Ended by) [] is = absurd (cc)
haggling_stage (stage.Ended by) (held ∷ outstanding) is = absurd (cc)

-- what is outstanding stays
sent_idle : (old new : Session) (bytes : List ℕ) → Takes old bytes new → old.outstanding ≡ [] → new.outstanding ≡ []
sent_idle old new bytes takes idle = ap (λ (s : Session). s.outstanding) takes.new_is ∙ idle

fed_idle : (at : Stage) (old new : Session) (bytes : List ℕ) → FeedsAt at old bytes new → old.outstanding ≡ []
    → new.outstanding ≡ []
fed_idle stage.Haggling old new bytes feeds idle = ap (λ (s : Session). s.outstanding) feeds.new_is ∙ idle
fed_idle stage.Serving old new bytes feeds idle = ap (λ (s : Session). s.outstanding) feeds ∙ idle
fed_idle (stage.Ended by) old new bytes feeds idle = absurd feeds

as_told : (unread : Option (List ℕ)) (told : End) (core : Session) → CoreEnds told core.stage → IsEnd told core unread
as_told unread end.EndOfInput core ends = absurd ends
as_told unread end.Disc core ends = ends
as_told unread end.Aborted core ends = ends
as_told unread end.Protocol core ends = ends

module _ {F : Note → Unit {0} → Unit {0} → Type 0} where
  module _ (start old mid : Session) (u : Io (Unit {0})) (bytes output written : Option (List ℕ))
      (goes : Goes F start old u (io bytes output tt)) (idle : old.outstanding ≡ []) where
    -- part of what waits is sent
    pub part_sent : (found : ServeFault) → SendsPart found old mid output written
        → Breaks F found start u (left written tt)
    part_sent found part = breaks_on found start old u (io bytes output tt) (left written tt) goes
        (sends_part found old mid bytes output written part)

    module _ (sent : SendsOut old mid output written) where
      -- all that waits is sent
      pub sent_goes : Goes F start mid u (io bytes written tt)
      sent_goes = goes_on start old mid u (io bytes output tt) (io bytes written tt) goes
          (sends old mid bytes output written sent)

      pub mid_idle : mid.outstanding ≡ []
      mid_idle = sent_idle old mid old.out sent.takes idle

      pub mid_sent : mid.out ≡ []
      mid_sent = ap (λ (s : Session). s.out) sent.takes.new_is

      -- and then a piece is fed
      pub fed_goes : (new : Session) (unread : Option (List ℕ)) → FeedsPiece true mid new bytes unread
          → Goes F start new u (io unread written tt) × (new.outstanding ≡ [])
      fed_goes new unread piece = (
        goes_on start mid new u (io bytes written tt) (io unread written tt) sent_goes
            (feeds mid new bytes unread written piece),
        fed_idle mid.stage mid new piece.0 piece.2 mid_idle,
      )

      -- or none can be
      pub fed_breaks : (found : ServeFault) (new : Session) (unread : Option (List ℕ))
          → FeedsNone found mid new bytes unread → Breaks F found start u (left written tt)
      fed_breaks found new unread none = breaks_on found start mid u (io bytes written tt) (left written tt) sent_goes
          (feeds_none found mid new bytes unread written none)

      -- or the input has ended
      pub input_over : (served : Served) (new : Session) (unread : Option (List ℕ)) → mid.stage ≡ stage.Haggling
          → FeedsPiece false mid new bytes unread → served ≡ record { requests = new.count; end = end.EndOfInput }
          → Ends F served start u (left written tt)
      input_over served new unread haggling none is = subst (λ (s : Served). Ends F s start u (left written tt)) (sym is)
          (ends_on (record { requests = new.count; end = end.EndOfInput }) start mid u (io bytes written tt) (left written tt) sent_goes
          (record {
            events = [];
            last = new;
            unread = unread;
            unfed = [];
            runs = ap (λ (s : Session). moment s tt) none.2;
            consumes = none.0;
            all_fed = λ same. refl;
            appends = Appends-nil written;
            answered = ap (λ (s : Session). s.outstanding) none.2 ∙ mid_idle;
            sent = ap (λ (s : Session). s.out) none.2 ∙ mid_sent;
            requests = refl;
            end_is = (inl (ap (λ (s : Session). s.stage) none.2 ∙ haggling), none.1);
          }))

      -- or the core has
      pub core_over : (told : End) (served : Served) → CoreEnds told mid.stage
          → served ≡ record { requests = mid.count; end = told } → Ends F served start u (left written tt)
      core_over told served ends is = subst (λ (s : Served). Ends F s start u (left written tt)) (sym is)
          (ends_on (record { requests = mid.count; end = told }) start mid u (io bytes written tt) (left written tt) sent_goes
          (record {
            events = [];
            last = mid;
            unread = bytes;
            unfed = [];
            runs = refl;
            consumes = Consumes-nil bytes;
            all_fed = λ same. refl;
            appends = Appends-nil written;
            answered = mid_idle;
            sent = mid_sent;
            requests = refl;
            end_is = as_told bytes told mid ends;
          }))
