-- What each step leaves of the legs at a block on which no write is under way.
use Rattle.std.proofs.Common.{◌≡◌, ◌≢◌, ◌⊎◌, ⊎_elim, inl, inr, ℕ, ◌+◌, Bool, true, false, IsTrue, List, length, None, sym, ap, ◌∙◌, subst, slice_get, slice_set, slice_index_or}
use Rattle.nm_replay.specs.declared.block.Block.{Block}
use Rattle.nm_replay.proofs.Arrays.{slice_get-set_other}
use Rattle.nm_choice.specs.declared.leg_state.LegState.{LegState}
use Rattle.nm_choice.specs.declared.leg_state.LegState.TheVariants.{InSync, Joining, Out}
use Rattle.nm_fanout.specs.declared.block_data.Data.{Data}
use Rattle.nm_fanout.specs.declared.block_data.Data.TheVariants.{Cut, Zero, Part, ZeroPart}
use Rattle.nm_fanout.specs.Data.{is_part}
use Rattle.nm_fanout.specs.Records.{busy_on}
use Rattle.nm_leg.specs.Leg.{IsOutside, LegType}
use Rattle.nm_leg.specs.LegCalls.{ChangesLeg, SyncsLegAt}
use Rattle.nm_regions.specs.declared.copy_place.CopyPlace.{CopyPlace}
use Rattle.nm_rules.specs.Array.{contents_at, contents_of}
use Rattle.nm_rules.specs.Attach.{Attaches, Replaces, Returns}
use Rattle.nm_rules.specs.Begin.{Begins, FailsInBegin, LosesInBegin, ReadsBase}
use Rattle.nm_rules.specs.BlockCalls.{ReadsBlockAt}
use Rattle.nm_rules.specs.Copy.{GoesOn}
use Rattle.nm_rules.specs.Failing.{GoesOut}
use Rattle.nm_rules.specs.Flushed.{durable_at, durable_of}
use Rattle.nm_rules.specs.Invariant.{Keeps}
use Rattle.nm_rules.specs.Lost.{lost, lost_all}
use Rattle.nm_rules.specs.Promote.{LosesInPromote, Promotes}
use Rattle.nm_rules.specs.Read.{FailsInRead, LosesInRead}
use Rattle.nm_rules.specs.Reopening.{Marks}
use Rattle.nm_rules.specs.RunCalls.{ReadsRunAt, WritesRunAt}
use Rattle.nm_rules.specs.RunClaim.{ClaimsRun}
use Rattle.nm_rules.specs.RunCopy.{CopiesReadRun, CopiesWriteRun, FailsInCopyRun, LosesInCopyRun, next_blocks}
use Rattle.nm_rules.specs.RunPush.{CallsToPushRun, LosesInPushRun, PushesRun, written_by}
use Rattle.nm_rules.specs.RunRead.{FindsRun}
use Rattle.nm_rules.specs.Runs.{EntryNames, of_run}
use Rattle.nm_rules.specs.State.{Chunk, StripeState, copy_start, is_out, leg_state}
use Rattle.nm_rules.specs.Sync.{FailsInSync, LosesInFlush, LosesInSync, Synchronizes}
use Rattle.nm_rules.proofs.AttachLemmas.{may_attach, set-other}
use Rattle.nm_rules.proofs.CopyLemmas.{ready-on}
use Rattle.nm_rules.proofs.DurableLegLemmas.{calls-durable_after, calls-durable_before, calls-durable_other, reads-durable, syncs-contents, syncs-durable, syncs-durable_kept, syncs-durable_other}
use Rattle.nm_rules.proofs.LegLemmas.{calls-after, calls-before, calls-other, reads-contents}
use Rattle.nm_rules.proofs.PromoteLemmas.{may_promote}
use Rattle.nm_rules.proofs.RecordLemmas.{one_or_two}
use Rattle.nm_rules.proofs.RunPushSteps.{length-written_by}
use Rattle.nm_stripe.specs.Begin.{BeginsWith}
use Rattle.nm_gate.proofs.LegParts.{LostParts, in_sync-joining, in_sync-out, joining-is, joining-out, lost-legs, lost-parts, lost_all-parts, out-keeps, push-parts, run-outside, written-parts}

-- whatever leg
abbrev pub any : ℕ → Type 0
any j = Unit {0}

-- any leg but this one
abbrev pub but : ℕ → ℕ → Type 0
but leg j = j ≢ leg

-- no copy writes the leg's block: it does not join, or it is said to be free of that
abbrev pub Spared : {L : Type 0} → (ℕ → Type 0) → StripeState L → ℕ → Type 0
Spared free old j = (leg_state j old ≢ Joining) ⊎ free j

-- the block is none of those that a step of the copy to the leg writes next
abbrev pub NotNext : {L : Type 0} → ℕ → (leg most from : ℕ) → StripeState L → Type 0
NotNext b leg most from old =
    (copy : CopyPlace) (chunk : Chunk) → GoesOn old leg from copy chunk
    → IsOutside (copy_start old.place.region copy + chunk.written) (length (next_blocks most chunk)) b

-- what a step leaves at a block of the legs that it is said of: a leg that is spared holds
-- there what it held, and durably if it did so before; none comes in sync and none joins
pub record LegsLeft {L : Type 0} (type : LegType L) (b : ℕ) (other free : ℕ → Type 0) (old new : StripeState L) : Type 0 where
  pub contents : (j : ℕ) → other j → Spared free old j
      → slice_get (contents_of type.model new.legs j) b ≡ slice_get (contents_of type.model old.legs j) b
  pub durable : (j : ℕ) → other j → Spared free old j
      → slice_get (durable_of type.model old.legs j) b ≡ slice_get (contents_of type.model old.legs j) b
      → slice_get (durable_of type.model new.legs j) b ≡ slice_get (contents_of type.model new.legs j) b
  pub stopped : new.stopped ≡ old.stopped
  pub in_sync : (j : ℕ) → other j → leg_state j new ≡ InSync → leg_state j old ≡ InSync
  pub joins : (j : ℕ) → other j → leg_state j new ≡ Joining → leg_state j old ≡ Joining
  pub master : other new.master

module _ {L : Type 0} (type : LegType L) (old new : StripeState L) (b : ℕ) (free : ℕ → Type 0) where
  abbrev SameContents : Type 0
  SameContents = (j : ℕ) → Spared free old j → slice_get (contents_of type.model new.legs j) b ≡ slice_get (contents_of type.model old.legs j) b

  abbrev SameDurable : Type 0
  SameDurable = (j : ℕ) → Spared free old j → slice_get (durable_of type.model new.legs j) b ≡ slice_get (durable_of type.model old.legs j) b

  abbrev StaysDurable : Type 0
  StaysDurable = (j : ℕ) → Spared free old j → slice_get (durable_of type.model old.legs j) b ≡ slice_get (contents_of type.model old.legs j) b
      → slice_get (durable_of type.model new.legs j) b ≡ slice_get (contents_of type.model new.legs j) b

  both-stay : SameContents → SameDurable → StaysDurable
  both-stay contents durable = λ j n held. durable j n ∙ held ∙ sym (contents j n)

  -- no state changed
  quiet : new.stopped ≡ old.stopped → new.states ≡ old.states → SameContents → StaysDurable → LegsLeft type b any free old new
  quiet stopped states contents durable = record {
    contents = λ j o n. contents j n;
    durable = λ j o n held. durable j n held;
    stopped = stopped;
    in_sync = λ j o is. subst (λ (xs : List LegState). slice_index_or xs j Out ≡ InSync) states is;
    joins = λ j o is. subst (λ (xs : List LegState). slice_index_or xs j Out ≡ Joining) states is;
    master = tt;
  }

  -- a leg has gone out
  gone : (leg : ℕ) → LostParts leg old new → SameContents → StaysDurable → LegsLeft type b any free old new
  gone leg parts contents durable = record {
    contents = λ j o n. contents j n;
    durable = λ j o n held. durable j n held;
    stopped = parts.stopped;
    in_sync = λ j o is. out-keeps old.states leg j InSync in_sync-out (subst (λ (xs : List LegState). slice_index_or xs j Out ≡ InSync) parts.states is);
    joins = λ j o is. out-keeps old.states leg j Joining joining-out (subst (λ (xs : List LegState). slice_index_or xs j Out ≡ Joining) parts.states is);
    master = tt;
  }

  -- the stripe once it is out
  lost-of : (leg : ℕ) (legs : List L) → new ≡ lost leg (record old { legs = legs }) → LostParts leg old new
  lost-of leg legs is =
      let s : StripeState L = record old { legs = legs } in
      let parts = lost-parts leg s in
      subst (λ (x : StripeState L). LostParts leg old x) (sym is) (record { states = parts.states; stopped = parts.stopped })

  lost_all-of : (leg : ℕ) → new ≡ lost_all leg (record old { legs = new.legs }) → LostParts leg old new
  lost_all-of leg is =
      let s : StripeState L = record old { legs = new.legs } in
      let parts = lost_all-parts leg s in
      subst (λ (x : StripeState L). LostParts leg old x) (sym is) (record { states = parts.states; stopped = parts.stopped })

  -- the legs are as they were
  same-contents : new.legs ≡ old.legs → SameContents
  same-contents is = λ j n. ap (λ xs. slice_get (contents_of type.model xs j) b) is

  same-durable : new.legs ≡ old.legs → SameDurable
  same-durable is = λ j n. ap (λ xs. slice_get (durable_of type.model xs j) b) is

  same-legs : new.stopped ≡ old.stopped → new.states ≡ old.states → new.legs ≡ old.legs → LegsLeft type b any free old new
  same-legs stopped states legs = quiet stopped states (same-contents legs) (both-stay (same-contents legs) (same-durable legs))

  pub stays : new ≡ old → LegsLeft type b any free old new
  stays is = same-legs (ap (λ (s : StripeState L). s.stopped) is) (ap (λ (s : StripeState L). s.states) is) (ap (λ (s : StripeState L). s.legs) is)

  pub claims-left : (ticket : ℕ) (answer : EntryNames) → ClaimsRun old new ticket answer → LegsLeft type b any free old new
  claims-left ticket answer c = same-legs (ap (λ (s : StripeState L). s.stopped) c.after) (ap (λ (s : StripeState L). s.states) c.after) (ap (λ (s : StripeState L). s.legs) c.after)

  pub goes_out-left : (leg : ℕ) → GoesOut old new leg → LegsLeft type b any free old new
  goes_out-left leg g =
      let legs : new.legs ≡ old.legs = ap (λ (s : StripeState L). s.legs) g.after ∙ lost-legs leg old in
      gone leg (lost-of leg old.legs g.after) (same-contents legs) (both-stay (same-contents legs) (same-durable legs))

  -- a call after which its leg has at the block what it had
  module _ (leg : ℕ) (before after : L) (change : ChangesLeg type.model leg old.legs new.legs before after) where
    call-contents : slice_get (type.model after).contents b ≡ slice_get (type.model before).contents b → SameContents
    call-contents same j n = ⊎_elim
        (λ is. subst (λ (i : ℕ). slice_get (contents_of type.model new.legs i) b ≡ slice_get (contents_of type.model old.legs i) b) (sym is)
        (ap (λ xs. slice_get xs b) (calls-after type.model old.legs new.legs leg before after change) ∙ same
        ∙ ap (λ xs. slice_get xs b) (sym (calls-before type.model old.legs new.legs leg before after change))))
        (λ ne. ap (λ xs. slice_get xs b) (calls-other type.model old.legs new.legs leg j before after change ne))
        (one_or_two j leg)

    call-durable : slice_get (type.model after).durable b ≡ slice_get (type.model before).durable b → SameDurable
    call-durable same j n = ⊎_elim
        (λ is. subst (λ (i : ℕ). slice_get (durable_of type.model new.legs i) b ≡ slice_get (durable_of type.model old.legs i) b) (sym is)
        (ap (λ xs. slice_get xs b) (calls-durable_after type.model old.legs new.legs leg before after change) ∙ same
        ∙ ap (λ xs. slice_get xs b) (sym (calls-durable_before type.model old.legs new.legs leg before after change))))
        (λ ne. ap (λ xs. slice_get xs b) (calls-durable_other type.model old.legs new.legs leg j before after change ne))
        (one_or_two j leg)

  module _ (is_honest : IsTrue type.honest) where
    read-contents : (succeeded : Bool) (leg at : ℕ) (filled : Block) → ReadsBlockAt type succeeded leg at old.legs new.legs filled → SameContents
    read-contents succeeded leg at filled r = λ j n. ap (λ xs. slice_get xs b) (reads-contents type succeeded old.legs new.legs leg at j filled is_honest r)

    read-durable : (succeeded : Bool) (leg at : ℕ) (filled : Block) → ReadsBlockAt type succeeded leg at old.legs new.legs filled → SameDurable
    read-durable succeeded leg at filled r = λ j n. ap (λ xs. slice_get xs b) (reads-durable type succeeded old.legs new.legs leg at j filled is_honest r)

    read-left : (succeeded : Bool) (leg at : ℕ) (filled : Block) → ReadsBlockAt type succeeded leg at old.legs new.legs filled → new.stopped ≡ old.stopped → new.states ≡ old.states → LegsLeft type b any free old new
    read-left succeeded leg at filled r stopped states =
        quiet stopped states (read-contents succeeded leg at filled r) (both-stay (read-contents succeeded leg at filled r) (read-durable succeeded leg at filled r))

    read_lost-left : (leg at gone_leg : ℕ) (filled : Block) → ReadsBlockAt type false leg at old.legs new.legs filled → new ≡ lost gone_leg (record old { legs = new.legs }) → LegsLeft type b any free old new
    read_lost-left leg at gone_leg filled r after =
        gone gone_leg (lost-of gone_leg new.legs after) (read-contents false leg at filled r) (both-stay (read-contents false leg at filled r) (read-durable false leg at filled r))

    -- a read of a run
    run_read-contents : (succeeded : Bool) (leg at : ℕ) (found : List Block) → ReadsRunAt type succeeded leg at found old.legs new.legs → SameContents
    run_read-contents succeeded leg at found r = call-contents leg r.before r.after r.change (ap (λ xs. slice_get xs b) (r.reads.contents is_honest))

    pub run_read-durable : (succeeded : Bool) (leg at : ℕ) (found : List Block) → ReadsRunAt type succeeded leg at found old.legs new.legs → SameDurable
    run_read-durable succeeded leg at found r = call-durable leg r.before r.after r.change (ap (λ xs. slice_get xs b) (r.reads.durable is_honest))

    pub run_read-left : (succeeded : Bool) (leg at : ℕ) (found : List Block) → ReadsRunAt type succeeded leg at found old.legs new.legs → new.stopped ≡ old.stopped → new.states ≡ old.states → LegsLeft type b any free old new
    run_read-left succeeded leg at found r stopped states =
        quiet stopped states (run_read-contents succeeded leg at found r) (both-stay (run_read-contents succeeded leg at found r) (run_read-durable succeeded leg at found r))

    run_read_lost-left : (leg at gone_leg : ℕ) (found : List Block) → ReadsRunAt type false leg at found old.legs new.legs → new ≡ lost gone_leg (record old { legs = new.legs }) → LegsLeft type b any free old new
    run_read_lost-left leg at gone_leg found r after =
        gone gone_leg (lost-of gone_leg new.legs after) (run_read-contents false leg at found r) (both-stay (run_read-contents false leg at found r) (run_read-durable false leg at found r))

    base-left : (part : Bool) (block : ℕ) (base : Block) → new.stopped ≡ old.stopped → new.states ≡ old.states → ReadsBase type part old new.legs block base → LegsLeft type b any free old new
    base-left false block base stopped states same = same-legs stopped states same
    base-left true block base stopped states reads = read-left true old.master block base reads stopped states

    part-left : (block : ℕ) (bytes : Data) (ticket : ℕ) → Begins type old new block bytes ticket → LegsLeft type b any free old new
    part-left block bytes ticket c = base-left (is_part bytes) block c.base (ap (λ (s : StripeState L). s.stopped) c.after) (ap (λ (s : StripeState L). s.states) c.after) c.reads

    pub begins-left : (block : ℕ) (bytes : Data) (ticket : ℕ) → BeginsWith type old new block bytes ticket → LegsLeft type b any free old new
    begins-left block (Cut cut) ticket c = same-legs (ap (λ (s : StripeState L). s.stopped) c.after) (ap (λ (s : StripeState L). s.states) c.after) (ap (λ (s : StripeState L). s.legs) c.after)
    begins-left block (Zero count) ticket c = same-legs (ap (λ (s : StripeState L). s.stopped) c.after) (ap (λ (s : StripeState L). s.states) c.after) (ap (λ (s : StripeState L). s.legs) c.after)
    begins-left block (Part from bytes) ticket c = part-left block (Part from bytes) ticket c
    begins-left block (ZeroPart from len) ticket c = part-left block (ZeroPart from len) ticket c

    pub fails_in_begin-left : (block : ℕ) (bytes : Data) → FailsInBegin type old new block bytes → LegsLeft type b any free old new
    fails_in_begin-left block bytes f = read-left false old.master block f.called.found f.called.reads (ap (λ (s : StripeState L). s.stopped) f.after) (ap (λ (s : StripeState L). s.states) f.after)

    pub loses_in_begin-left : (block : ℕ) (bytes : Data) (leg : ℕ) → LosesInBegin type old new block bytes leg → LegsLeft type b any free old new
    loses_in_begin-left block bytes leg l = read_lost-left old.master block old.master l.called.found l.called.reads l.after

    pub finds-left : (block : ℕ) (found : List Block) (names : EntryNames) → FindsRun type old new block found names → LegsLeft type b any free old new
    finds-left block found names f = run_read-left true f.leg block found f.called.reads (ap (λ (s : StripeState L). s.stopped) f.after) (ap (λ (s : StripeState L). s.states) f.after)

    pub fails_in_read-left : (block : ℕ) (bytes : Block) → FailsInRead type old new block bytes → LegsLeft type b any free old new
    fails_in_read-left block bytes f = read-left false f.leg block bytes f.called.reads (ap (λ (s : StripeState L). s.stopped) f.after) (ap (λ (s : StripeState L). s.states) f.after)

    pub loses_in_read-left : (block leg : ℕ) (bytes : Block) → LosesInRead type old new block leg bytes → LegsLeft type b any free old new
    loses_in_read-left block leg bytes l = read_lost-left leg block leg bytes l.called.reads l.after

    pub copies_read-left : (leg most from : ℕ) → CopiesReadRun type old new leg most from → LegsLeft type b any free old new
    copies_read-left leg most from c = run_read-left true old.master _ c.found c.called.reads (ap (λ (s : StripeState L). s.stopped) c.after) (ap (λ (s : StripeState L). s.states) c.after)

    pub fails_in_copy-left : (leg most from : ℕ) → FailsInCopyRun type old new leg most from → LegsLeft type b any free old new
    fails_in_copy-left leg most from f = run_read-left false old.master _ f.found f.called.reads (ap (λ (s : StripeState L). s.stopped) f.after) (ap (λ (s : StripeState L). s.states) f.after)

    module _ (k : Keeps type old) where
      -- a leg that does not join is not the one that a copy writes to
      not-copied : (leg : ℕ) → leg_state leg old ≡ Joining → (j : ℕ) → leg_state j old ≢ Joining → j ≢ leg
      not-copied leg joins j n e = n (subst (λ (i : ℕ). leg_state i old ≡ Joining) (sym e) joins)

      -- so a spared leg is another one, or its block is not written
      spared : (leg at count : ℕ) → leg_state leg old ≡ Joining → ((j : ℕ) → free j → (j ≢ leg) ⊎ IsOutside at count b) → (j : ℕ) → Spared free old j → (j ≢ leg) ⊎ IsOutside at count b
      spared leg at count joins off j n = ⊎_elim (λ apart. inl (not-copied leg joins j apart)) (λ f. off j f) n

      module _ (succeeded : Bool) (leg at : ℕ) (blocks : List Block) (w : WritesRunAt type succeeded leg at blocks old.legs new.legs) (joins : leg_state leg old ≡ Joining)
          (off : (j : ℕ) → free j → (j ≢ leg) ⊎ IsOutside at (length blocks) b) where
        copied-contents : SameContents
        copied-contents = λ j n. ⊎_elim
            (λ ne. ap (λ xs. slice_get xs b) (calls-other type.model old.legs new.legs leg j w.before w.after w.change ne))
            (λ out. call-contents leg w.before w.after w.change (w.writes.others is_honest b out) j n)
            (spared leg at (length blocks) joins off j n)

        copied-durable : SameDurable
        copied-durable = λ j n. ⊎_elim
            (λ ne. ap (λ xs. slice_get xs b) (calls-durable_other type.model old.legs new.legs leg j w.before w.after w.change ne))
            (λ out. call-durable leg w.before w.after w.change (w.writes.durable_others is_honest b out) j n)
            (spared leg at (length blocks) joins off j n)

      module _ (leg most from : ℕ) (off : (j : ℕ) → free j → (j ≢ leg) ⊎ NotNext b leg most from old) where
        -- where the leg's next blocks are others
        next-off : (copy : CopyPlace) (chunk : Chunk) → GoesOn old leg from copy chunk
            → (j : ℕ) → free j → (j ≢ copy.leg) ⊎ IsOutside (copy_start old.place.region copy + chunk.written) (length (next_blocks most chunk)) b
        next-off copy chunk on j f = ⊎_elim (λ ne. inl (λ e. ne (e ∙ (ready-on type old leg copy chunk k on).leg_is))) (λ next. inr (next copy chunk on)) (off j f)

        pub copies_write-left : CopiesWriteRun type old new leg most from → LegsLeft type b any free old new
        copies_write-left c =
            let joins = (ready-on type old leg c.copy c.chunk k c.on).is_copy.joining in
            let parts = written-parts old new.legs c.chunk (length (next_blocks most c.chunk)) in
            let at : ℕ = copy_start old.place.region c.copy + c.chunk.written in
            let contents = copied-contents true c.copy.leg at (next_blocks most c.chunk) c.called.writes joins (next-off c.copy c.chunk c.on) in
            quiet (ap (λ (s : StripeState L). s.stopped) c.after ∙ parts.stopped) (ap (λ (s : StripeState L). s.states) c.after ∙ parts.states) contents
            (both-stay contents (copied-durable true c.copy.leg at (next_blocks most c.chunk) c.called.writes joins (next-off c.copy c.chunk c.on)))

        pub loses_in_copy-left : (gone_leg : ℕ) → LosesInCopyRun type old new leg gone_leg most from → LegsLeft type b any free old new
        loses_in_copy-left gone_leg l =
            let joins = (ready-on type old leg l.copy l.chunk k l.on).is_copy.joining in
            ⊎_elim
            (λ read. run_read_lost-left old.master _ gone_leg l.found read.1.reads l.after)
            (λ write.
            let at : ℕ = copy_start old.place.region l.copy + l.chunk.written in
            let contents = copied-contents false l.copy.leg at (next_blocks most l.chunk) write.1.writes joins (next-off l.copy l.chunk l.on) in
            gone gone_leg (lost-of gone_leg new.legs l.after) contents (both-stay contents (copied-durable false l.copy.leg at (next_blocks most l.chunk) write.1.writes joins (next-off l.copy l.chunk l.on))))
            l.called

    module _ (was_free : busy_on b old.records ≡ None) where
      -- a run is pushed to other blocks
      push-out : (succeeded : Bool) (ticket leg : ℕ) (c : CallsToPushRun type succeeded old new.legs ticket leg) → IsOutside c.block (length (written_by (of_run ticket old.records))) b
      push-out succeeded ticket leg c =
          subst (λ (n : ℕ). IsOutside c.block n b) (sym (length-written_by (of_run ticket old.records))) (run-outside (of_run ticket old.records) old.records ticket c.block leg b c.are was_free)

      push-contents : (succeeded : Bool) (ticket leg : ℕ) → CallsToPushRun type succeeded old new.legs ticket leg → SameContents
      push-contents succeeded ticket leg c = call-contents leg c.writes.before c.writes.after c.writes.change (c.writes.writes.others is_honest b (push-out succeeded ticket leg c))

      push-durable : (succeeded : Bool) (ticket leg : ℕ) → CallsToPushRun type succeeded old new.legs ticket leg → SameDurable
      push-durable succeeded ticket leg c = call-durable leg c.writes.before c.writes.after c.writes.change (c.writes.writes.durable_others is_honest b (push-out succeeded ticket leg c))

      pub pushes-left : (ticket leg : ℕ) → PushesRun type old new ticket leg → LegsLeft type b any free old new
      pushes-left ticket leg p =
          let parts = push-parts old new.legs (of_run ticket old.records) leg in
          let contents = push-contents true ticket leg p.called in
          quiet (ap (λ (s : StripeState L). s.stopped) p.after ∙ parts.stopped) (ap (λ (s : StripeState L). s.states) p.after ∙ parts.states) contents (both-stay contents (push-durable true ticket leg p.called))

      pub loses_in_push-left : (ticket leg : ℕ) → LosesInPushRun type old new ticket leg → LegsLeft type b any free old new
      loses_in_push-left ticket leg l =
          let contents = push-contents false ticket leg l.called in
          gone leg (lost-of leg new.legs l.after) contents (both-stay contents (push-durable false ticket leg l.called))

    sync-contents : (succeeded : Bool) (leg : ℕ) → SyncsLegAt type succeeded leg old.legs new.legs → SameContents
    sync-contents succeeded leg s = λ j n. ap (λ xs. slice_get xs b) (syncs-contents type succeeded old.legs new.legs leg s j is_honest)

    -- what was durable of the synced leg is so
    sync-here : (succeeded : Bool) (leg : ℕ) → SyncsLegAt type succeeded leg old.legs new.legs → slice_get (durable_of type.model old.legs leg) b ≡ slice_get (contents_of type.model old.legs leg) b
        → slice_get (durable_of type.model new.legs leg) b ≡ slice_get (contents_of type.model old.legs leg) b
    sync-here true leg s held = ap (λ xs. slice_get xs b) (syncs-durable type old.legs new.legs leg is_honest s)
    sync-here false leg s held = syncs-durable_kept type false old.legs new.legs leg s b is_honest held ∙ held

    sync-kept : (succeeded : Bool) (leg : ℕ) → SyncsLegAt type succeeded leg old.legs new.legs → StaysDurable
    sync-kept succeeded leg s = λ j n held. ⊎_elim
        (λ is.
        let here : slice_get (durable_of type.model old.legs leg) b ≡ slice_get (contents_of type.model old.legs leg) b = subst (λ (i : ℕ). slice_get (durable_of type.model old.legs i) b ≡ slice_get (contents_of type.model old.legs i) b) is held in
        subst (λ (i : ℕ). slice_get (durable_of type.model new.legs i) b ≡ slice_get (contents_of type.model new.legs i) b) (sym is)
        (sync-here succeeded leg s here ∙ sym (ap (λ xs. slice_get xs b) (syncs-contents type succeeded old.legs new.legs leg s leg is_honest))))
        (λ ne. ap (λ xs. slice_get xs b) (syncs-durable_other type succeeded old.legs new.legs leg s j ne) ∙ held ∙ sym (sync-contents succeeded leg s j n))
        (one_or_two j leg)

    pub synchronizes-left : (leg : ℕ) → Synchronizes type old new leg → LegsLeft type b any free old new
    synchronizes-left leg s = quiet (ap (λ (x : StripeState L). x.stopped) s.after) (ap (λ (x : StripeState L). x.states) s.after) (sync-contents true leg s.called.syncs) (sync-kept true leg s.called.syncs)

    pub fails_in_sync-left : (leg : ℕ) → FailsInSync type old new leg → LegsLeft type b any free old new
    fails_in_sync-left leg f = quiet (ap (λ (x : StripeState L). x.stopped) f.after) (ap (λ (x : StripeState L). x.states) f.after) (sync-contents false leg f.called.syncs) (sync-kept false leg f.called.syncs)

    pub loses_in_sync-left : (leg : ℕ) → LosesInSync type old new leg → LegsLeft type b any free old new
    loses_in_sync-left leg l = gone leg (lost_all-of leg l.after) (sync-contents false leg l.called.syncs) (sync-kept false leg l.called.syncs)

    pub loses_in_flush-left : (leg : ℕ) → LosesInFlush type old new leg → LegsLeft type b any free old new
    loses_in_flush-left leg l = gone leg (lost-of leg new.legs l.after) (sync-contents false leg l.called.syncs) (sync-kept false leg l.called.syncs)

    pub loses_in_promote-left : (leg : ℕ) → LosesInPromote type old new leg → LegsLeft type b any free old new
    loses_in_promote-left leg l = gone leg (lost_all-of leg l.after) (sync-contents false leg l.called.syncs) (sync-kept false leg l.called.syncs)

    -- all legs but the one that is called in sync
    pub promotes-left : Keeps type old → (leg : ℕ) → Promotes type old new leg → LegsLeft type b (but leg) free old new
    promotes-left k leg p =
        let joins : leg_state leg old ≡ Joining = joining-is (leg_state leg old) (may_promote old leg p.called.no_cause).joining in
        record {
          contents = λ j o n. sync-contents true leg p.called.syncs j n;
          durable = λ j o n held. sync-kept true leg p.called.syncs j n held;
          stopped = ap (λ (x : StripeState L). x.stopped) p.after;
          in_sync = λ j o is. sym (ap (λ (x : StripeState L). slice_index_or x.states j Out) p.after ∙ set-other old.states leg j InSync Out o) ∙ is;
          joins = λ j o is. sym (ap (λ (x : StripeState L). slice_index_or x.states j Out) p.after ∙ set-other old.states leg j InSync Out o) ∙ is;
          master = λ e.
              let here : leg_state leg old ≡ InSync = subst (λ (i : ℕ). leg_state i old ≡ InSync) (sym (ap (λ (x : StripeState L). x.master) p.after) ∙ e) k.legs.master in
              in_sync-joining (sym here ∙ joins);
        }

  -- all legs but the one that joins
  module _ (k : Keeps type old) where
    joined-left : (leg : ℕ) → new.stopped ≡ old.stopped → new.states ≡ slice_set old.states leg Joining → new.master ≡ old.master
        → ((j : ℕ) → j ≢ leg → slice_get new.legs j ≡ slice_get old.legs j) → is_out (leg_state leg old) ≡ true → LegsLeft type b (but leg) free old new
    joined-left leg stopped states master legs out = record {
      contents = λ j o n. ap (λ x. slice_get (contents_at type.model x) b) (legs j o);
      durable = λ j o n held. ap (λ x. slice_get (durable_at type.model x) b) (legs j o) ∙ held ∙ sym (ap (λ x. slice_get (contents_at type.model x) b) (legs j o));
      stopped = stopped;
      in_sync = λ j o is. sym (ap (λ (xs : List LegState). slice_index_or xs j Out) states ∙ set-other old.states leg j Joining Out o) ∙ is;
      joins = λ j o is. sym (ap (λ (xs : List LegState). slice_index_or xs j Out) states ∙ set-other old.states leg j Joining Out o) ∙ is;
      master = λ e.
          let attached : is_out (leg_state old.master old) ≡ false = ap (λ (s : LegState). is_out s) k.legs.master in
          let here : is_out (leg_state old.master old) ≡ true = subst (λ (i : ℕ). is_out (leg_state i old) ≡ true) (sym (sym master ∙ e)) out in
          let clash : true ≡ false = sym here ∙ attached in
          cc;
    }

    pub attaches-left : (leg : ℕ) → Attaches old new leg → LegsLeft type b (but leg) free old new
    attaches-left leg a =
        joined-left leg (ap (λ (s : StripeState L). s.stopped) a.after) (ap (λ (s : StripeState L). s.states) a.after) (ap (λ (s : StripeState L). s.master) a.after) (λ j ne. ap (λ (s : StripeState L). slice_get s.legs j) a.after) (may_attach old leg a.no_cause).out

    pub returns-left : (leg : ℕ) (marks : Marks) → Returns type.model old new leg marks → LegsLeft type b (but leg) free old new
    returns-left leg marks r =
        joined-left leg (ap (λ (s : StripeState L). s.stopped) r.after) (ap (λ (s : StripeState L). s.states) r.after) (ap (λ (s : StripeState L). s.master) r.after) (λ j ne. ap (λ (s : StripeState L). slice_get s.legs j) r.after) (may_attach old leg r.no_cause).out

    pub replaces-left : (leg : ℕ) (part : L) → Replaces old new leg part → LegsLeft type b (but leg) free old new
    replaces-left leg part r =
        joined-left leg (ap (λ (s : StripeState L). s.stopped) r.after) (ap (λ (s : StripeState L). s.states) r.after) (ap (λ (s : StripeState L). s.master) r.after)
        (λ j ne. ap (λ (s : StripeState L). slice_get s.legs j) r.after ∙ slice_get-set_other old.legs leg j part (λ e. ne (sym e))) (may_attach old leg r.no_cause).out
