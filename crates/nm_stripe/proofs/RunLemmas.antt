-- Steps one after the other: runs and interleavings, with one step more.
use Rattle.std.proofs.Common.{◌≡◌, ⊎_elim, ℕ, IsTrue, List, [], ◌∷◌, ◌++◌, refl, sym, ap, ◌∙◌, subst, append_assoc, append-nil}
use Rattle.std.proofs.Common.{min, length, reverse}
use Rattle.std.proofs.lemmas.List.{reverse-append}
use Rattle.nm_leg.specs.Leg.{Leg, LegType, block_of, blocks_of}
use Rattle.nm_replay.specs.Events.{Event, marks_of}
use Rattle.nm_fanout.specs.declared.block_data.Data.{Data}
use Rattle.nm_rules.specs.declared.refusal.Refusal.{Refusal}
use Rattle.nm_rules.specs.Acts.{Acts, IsExplainedStep}
use Rattle.nm_rules.specs.Shape.{SameShape}
use Rattle.nm_rules.specs.State.{StripeState}
use Rattle.nm_rules.proofs.ActsLemmas.{acts-none, acts-append}
use Rattle.nm_rules.proofs.LegLemmas.{calls-length}
use Rattle.nm_rules.proofs.RunJoiningLemmas.{claims_run-shape, copies_read_run-shape, copies_write_run-shape, finds_run-shape, halts_run-shape, loses_in_copy_run-shape, loses_in_push_run-shape, pushes_run-shape}
use Rattle.nm_rules.proofs.RunReadLemmas.{fails_in_read_run-last, loses_in_read_run-last}
use Rattle.nm_rules.proofs.ShapeLemmas.{loses_in_begin-shape, fails_in_begin-shape, loses_in_read-shape, fails_in_read-shape, goes_out-shape, attaches-shape, replaces-shape, returns-shape}
use Rattle.nm_rules.proofs.ShapeLemmas.{promotes-shape, loses_in_promote-shape, synchronizes-shape, loses_in_flush-shape, loses_in_sync-shape, fails_in_sync-shape}
use Rattle.nm_stripe.specs.declared.answer.Answer.{Answer}
use Rattle.nm_stripe.specs.declared.answer.Answer.TheVariants.{Begun, Pushed, Complete, Halted, Written, Value, Failed, MasterChanged, Joining, Copied, InSync, Synced, LegLost, Refused}
use Rattle.nm_stripe.specs.declared.answer.Answer.TheVariants.{Nothing as NothingLeft}
use Rattle.nm_stripe.specs.declared.step.Step.{Step}
use Rattle.nm_stripe.specs.declared.step.Step.TheVariants.{Begin, Push, Claim, Read, Fail, Attach, Return, Replace, Copy, Promote, Sync, Flush}
use Rattle.nm_stripe.specs.Begin.{RefusesBegin, ForCause as BeginCause, ForFault as BeginFault}
use Rattle.nm_stripe.specs.Copy.{RefusesCopy, ForCause as CopyCause, ForFault as CopyFault}
use Rattle.nm_stripe.specs.Read.{RefusesRead, ForCause as ReadCause, ForFault as ReadFault}
use Rattle.nm_stripe.specs.Sync.{RefusesSync, ForCause as SyncCause, ForFault as SyncFault}
use Rattle.nm_stripe.specs.Run.{StepOf, MayBeAsked, AllAsked, Runs, marks, IsInterleaving, concat, NoneHalted, ActOnOneArray}
use Rattle.nm_stripe.proofs.BegunLemmas.{begun-shape}

-- one step more
pub runs-push : {L : Type 0} (type : LegType L) (old mid new : StripeState L) (steps : List (Step L)) (answers : List (Answer L)) (step : Step L) (answer : Answer L)
    → Runs type old steps answers mid → StepOf type step answer mid new → Runs type old (steps ++ step ∷ []) (answers ++ answer ∷ []) new
runs-push type old mid new [] [] step answer runs one = (new, subst (λ (s : StripeState _). StepOf type step answer s new) runs one, refl)
runs-push type old mid new (s ∷ steps) (a ∷ answers) step answer runs one =
    (runs.0, runs.1, runs-push type runs.0 mid new steps answers step answer runs.2 one)
runs-push type old mid new [] (a ∷ answers) step answer runs one = absurd runs
runs-push type old mid new (s ∷ steps) [] step answer runs one = absurd runs

interleaving-push : {L : Type 0} (steps : List (Step L)) (answers : List (Answer L)) (lists : List (List Event)) (step : Step L) (answer : Answer L) (events : List Event)
    → IsInterleaving steps answers lists → marks_of events ≡ marks step answer → IsInterleaving (steps ++ step ∷ []) (answers ++ answer ∷ []) (lists ++ events ∷ [])
interleaving-push [] [] [] step answer events woven marked = (marked, tt)
interleaving-push (s ∷ steps) (a ∷ answers) (p ∷ lists) step answer events woven marked = (woven.0, interleaving-push steps answers lists step answer events woven.1 marked)
interleaving-push [] [] (p ∷ lists) step answer events woven marked = absurd woven
interleaving-push [] (a ∷ answers) lists step answer events woven marked = absurd woven
interleaving-push (s ∷ steps) [] lists step answer events woven marked = absurd woven
interleaving-push (s ∷ steps) (a ∷ answers) [] step answer events woven marked = absurd woven

concat-push : (lists : List (List Event)) (events : List Event) → concat (lists ++ events ∷ []) ≡ concat lists ++ events
concat-push [] events = append-nil events
concat-push (p ∷ lists) events = ap (λ es. p ++ es) (concat-push lists events) ∙ sym (append_assoc p (concat lists) events)

-- no steps, and one step more
pub none-acts : {L : Type 0} (model : L → Leg) (stripe : StripeState L) → length stripe.kept.entries ≡ min stripe.kept.most stripe.total → ActOnOneArray model [] [] stripe stripe
none-acts model stripe few = record { events_of_each = []; interleaving = tt; acts = acts-none model stripe few }

pub act-push : {L : Type 0} (model : L → Leg) (old mid new : StripeState L) (steps : List (Step L)) (answers : List (Answer L)) (step : Step L) (answer : Answer L)
    → ActOnOneArray model steps answers old mid → IsExplainedStep model (marks step answer) mid new → ActOnOneArray model (steps ++ step ∷ []) (answers ++ answer ∷ []) old new
act-push model old mid new steps answers step answer all one = record {
  events_of_each = all.events_of_each ++ one.events ∷ [];
  interleaving = interleaving-push steps answers all.events_of_each step answer one.events all.interleaving one.marked;
  acts = subst (λ (es : List Event). Acts model old new es) (sym (concat-push all.events_of_each one.events)) (acts-append model old mid new (concat all.events_of_each) one.events all.acts one.acts);
}

-- none halted among more answers: none among the first, and not the last
pub halted-front : {L : Type 0} (answers : List (Answer L)) (answer : Answer L) → NoneHalted (answers ++ answer ∷ []) → NoneHalted answers
halted-front [] answer none = tt
halted-front (Halted ∷ answers) answer none = absurd none
halted-front (Begun t ∷ answers) answer none = halted-front answers answer none
halted-front (Pushed n ∷ answers) answer none = halted-front answers answer none
halted-front (Complete n ∷ answers) answer none = halted-front answers answer none
halted-front (Written r ∷ answers) answer none = halted-front answers answer none
halted-front (Value v ∷ answers) answer none = halted-front answers answer none
halted-front (Failed ∷ answers) answer none = halted-front answers answer none
halted-front (MasterChanged m ∷ answers) answer none = halted-front answers answer none
halted-front (Joining n ∷ answers) answer none = halted-front answers answer none
halted-front (Copied m n ∷ answers) answer none = halted-front answers answer none
halted-front (NothingLeft ∷ answers) answer none = halted-front answers answer none
halted-front (InSync ∷ answers) answer none = halted-front answers answer none
halted-front (Synced ∷ answers) answer none = halted-front answers answer none
halted-front (LegLost l h ∷ answers) answer none = halted-front answers answer none
halted-front (Refused c h ∷ answers) answer none = halted-front answers answer none

pub halted-last : {L : Type 0} (answers : List (Answer L)) (answer : Answer L) → NoneHalted (answers ++ answer ∷ []) → NoneHalted (answer ∷ [])
halted-last [] answer none = none
halted-last (Halted ∷ answers) answer none = absurd none
halted-last (Begun t ∷ answers) answer none = halted-last answers answer none
halted-last (Pushed n ∷ answers) answer none = halted-last answers answer none
halted-last (Complete n ∷ answers) answer none = halted-last answers answer none
halted-last (Written r ∷ answers) answer none = halted-last answers answer none
halted-last (Value v ∷ answers) answer none = halted-last answers answer none
halted-last (Failed ∷ answers) answer none = halted-last answers answer none
halted-last (MasterChanged m ∷ answers) answer none = halted-last answers answer none
halted-last (Joining n ∷ answers) answer none = halted-last answers answer none
halted-last (Copied m n ∷ answers) answer none = halted-last answers answer none
halted-last (NothingLeft ∷ answers) answer none = halted-last answers answer none
halted-last (InSync ∷ answers) answer none = halted-last answers answer none
halted-last (Synced ∷ answers) answer none = halted-last answers answer none
halted-last (LegLost l h ∷ answers) answer none = halted-last answers answer none
halted-last (Refused c h ∷ answers) answer none = halted-last answers answer none

-- a list turned round, and turned round again
reverse-push : {A : Type 0} (xs : List A) (x : A) → reverse (xs ++ x ∷ []) ≡ x ∷ reverse xs
reverse-push xs x = reverse-append xs (x ∷ [])

reverse-reverse : {A : Type 0} (xs : List A) → reverse (reverse xs) ≡ xs
reverse-reverse [] = refl
reverse-reverse (x ∷ xs) = ap (λ ys. reverse ys) (reverse-append (x ∷ []) xs) ∙ reverse-push (reverse xs) x ∙ ap (λ ys. x ∷ ys) (reverse-reverse xs)

-- a step leaves the stripe's place, and as many legs
same : {L : Type 0} (old new : StripeState L) → new ≡ old → SameShape old new
same old new is = record { place = ap (λ s. s.place) is; legs = ap (λ s. length s.legs) is }

begin-refused : {L : Type 0} (type : LegType L) (old new : StripeState L) (block : ℕ) (bytes : Data) (given : Refusal) → RefusesBegin type old new block bytes given → SameShape old new
begin-refused type old new block bytes given (BeginCause cause is) = same old new is
begin-refused type old new block bytes given (BeginFault is fails) = fails_in_begin-shape type old new block bytes fails

read-refused : {L : Type 0} (type : LegType L) (old new : StripeState L) (block : ℕ) (was bytes : List ℕ) (given : Refusal) → RefusesRead type old new block was bytes given → SameShape old new
read-refused type old new block was bytes given (ReadCause cause is stays) = same old new is
read-refused type old new block was bytes given (ReadFault is fails) = fails_in_read-shape type old new _ (block_of []) (fails_in_read_run-last type old new block (blocks_of bytes) fails)

copy-refused : {L : Type 0} (type : LegType L) (old new : StripeState L) (leg most from : ℕ) (given : Refusal) → RefusesCopy type old new leg most from given → SameShape old new
copy-refused type old new leg most from given (CopyCause cause is) = same old new is
copy-refused type old new leg most from given (CopyFault is fails) =
    let r = fails.called.reads in
    record { place = ap (λ (s : StripeState _). s.place) fails.after; legs = calls-length type.model old.legs new.legs old.master r.before r.after r.change }

sync-refused : {L : Type 0} (type : LegType L) (old new : StripeState L) (leg : ℕ) (given : Refusal) → RefusesSync type old new leg given → SameShape old new
sync-refused type old new leg given (SyncCause cause is) = same old new is
sync-refused type old new leg given (SyncFault is fails) = fails_in_sync-shape type old new leg fails

pub step-shape : {L : Type 0} (type : LegType L) (step : Step L) (answer : Answer L) (old new : StripeState L) → StepOf type step answer old new → SameShape old new
step-shape type (Begin block bytes) (Begun ticket) old new is = begun-shape type old new block ticket bytes is
step-shape type (Begin block bytes) (LegLost gone handed) old new is = loses_in_begin-shape type old new block bytes gone is.0
step-shape type (Begin block bytes) (Refused cause handed) old new is = begin-refused type old new block bytes cause is.0
step-shape type (Push ticket leg) (Pushed count) old new is = pushes_run-shape type old new ticket leg is.0
step-shape type (Push ticket leg) (Complete number) old new is = pushes_run-shape type old new ticket leg is.0
step-shape type (Push ticket leg) (LegLost gone handed) old new is = loses_in_push_run-shape type old new ticket leg is.0.1
step-shape type (Push ticket leg) Halted old new is = halts_run-shape type old new ticket leg is
step-shape type (Push ticket leg) (Refused cause handed) old new is = same old new is.2
step-shape type (Claim ticket) (Written written) old new is = claims_run-shape type old new ticket written is
step-shape type (Claim ticket) (Refused cause handed) old new is = same old new is.2
step-shape type (Read block room) (Value value) old new is = finds_run-shape type old new block (blocks_of value.bytes) value.names is.0
step-shape type (Read block room) (LegLost gone handed) old new is = loses_in_read-shape type old new _ gone (block_of []) (loses_in_read_run-last type old new block (blocks_of is.0) gone is.1)
step-shape type (Read block room) (Refused cause handed) old new is = read-refused type old new block room is.0 cause is.1
step-shape type (Fail leg) Failed old new is = goes_out-shape type old new leg is.0
step-shape type (Fail leg) (MasterChanged master) old new is = goes_out-shape type old new leg is.0
step-shape type (Fail leg) (Refused cause handed) old new is = same old new is.2
step-shape type (Attach leg) (Joining blocks) old new is = attaches-shape type old new leg is.0
step-shape type (Attach leg) (Refused cause handed) old new is = same old new is.2
step-shape type (Return leg marks) (Joining blocks) old new is = returns-shape type old new leg marks is.0
step-shape type (Return leg marks) (Refused cause handed) old new is = same old new is.2
step-shape type (Replace leg part) (Joining blocks) old new is = replaces-shape type old new leg part is.0
step-shape type (Replace leg part) (Refused cause handed) old new is = same old new is.2
step-shape type (Copy leg most from) (Copied moved blocks) old new is = ⊎_elim (λ read. copies_read_run-shape type old new leg most read.reads) (λ write. copies_write_run-shape type old new leg most write.writes) is.0
step-shape type (Copy leg most from) NothingLeft old new is = same old new is.1
step-shape type (Copy leg most from) (LegLost gone handed) old new is = loses_in_copy_run-shape type old new leg gone most is.0
step-shape type (Copy leg most from) (Refused cause handed) old new is = copy-refused type old new leg most from cause is.0
step-shape type (Promote leg) InSync old new is = promotes-shape type old new leg is
step-shape type (Promote leg) (LegLost gone handed) old new is = loses_in_promote-shape type old new leg is.0.1
step-shape type (Promote leg) (Refused cause handed) old new is = same old new is.2
step-shape type (Sync leg) Synced old new is = synchronizes-shape type old new leg is
step-shape type (Sync leg) (LegLost gone handed) old new is = loses_in_sync-shape type old new leg is.0.1
step-shape type (Sync leg) (Refused cause handed) old new is = sync-refused type old new leg cause is.0
step-shape type (Flush leg) Synced old new is = synchronizes-shape type old new leg is
step-shape type (Flush leg) (LegLost gone handed) old new is = loses_in_flush-shape type old new leg is.0.1
step-shape type (Flush leg) (Refused cause handed) old new is = sync-refused type old new leg cause is.0
step-shape type step answer old new is = absurd is

-- what may be asked for may still be
pub asked-later : {L : Type 0} (model : L → Leg) (step : Step L) (old new : StripeState L) → SameShape old new → MayBeAsked model old step → MayBeAsked model new step
asked-later model (Begin block bytes) old new shape asked = (rw shape.place asked.0, asked.1)
asked-later model (Push ticket leg) old new shape asked = rw shape.legs asked
asked-later model (Claim ticket) old new shape asked = tt
asked-later model (Read block room) old new shape asked = (rw shape.place asked.0, asked.1)
asked-later model (Fail leg) old new shape asked = rw shape.legs asked
asked-later model (Attach leg) old new shape asked = rw shape.legs asked
asked-later model (Return leg marks) old new shape asked = (rw shape.legs asked.0, asked.1)
asked-later model (Replace leg part) old new shape asked = (rw shape.legs asked.0, rw shape.place asked.1)
asked-later model (Copy leg most from) old new shape asked = (rw shape.legs asked.0, asked.1)
asked-later model (Promote leg) old new shape asked = rw shape.legs asked
asked-later model (Sync leg) old new shape asked = rw shape.legs asked
asked-later model (Flush leg) old new shape asked = rw shape.legs asked

pub all_asked-later : {L : Type 0} (model : L → Leg) (steps : List (Step L)) (old new : StripeState L) → SameShape old new → AllAsked model old steps → AllAsked model new steps
all_asked-later model [] old new shape asked = tt
all_asked-later model (step ∷ steps) old new shape asked = (asked-later model step old new shape asked.0, all_asked-later model steps old new shape asked.1)

-- how far a run has come: the steps done, of all steps, and the rest, the last of them first
pub record HasRun {L : Type 0} (type : LegType L) (old : StripeState L) (steps rest : List (Step L)) (answers : List (Answer L)) (now : StripeState L) : Type 0 where
  pub done : List (Step L)
  pub split : done ++ reverse rest ≡ steps
  pub runs : Runs type old done answers now
  pub acts : IsTrue type.honest → NoneHalted answers → ActOnOneArray type.model done answers old now
  pub asked : AllAsked type.model now (reverse rest)

pub run-begins : {L : Type 0} (type : LegType L) (old : StripeState L) (steps : List (Step L)) → length old.kept.entries ≡ min old.kept.most old.total → AllAsked type.model old steps → HasRun type old steps (reverse steps) [] old
run-begins type old steps few asked = record {
  done = [];
  split = reverse-reverse steps;
  runs = refl;
  acts = λ is_honest none. none-acts type.model old few;
  asked = subst (λ ss. AllAsked type.model old ss) (sym (reverse-reverse steps)) asked;
}

pub run-on : {L : Type 0} (type : LegType L) (old : StripeState L) (steps rest : List (Step L)) (step : Step L) (answers : List (Answer L)) (answer : Answer L) (now new : StripeState L)
    → HasRun type old steps (rest ++ step ∷ []) answers now → StepOf type step answer now new → (IsTrue type.honest → NoneHalted (answer ∷ []) → IsExplainedStep type.model (marks step answer) now new)
    → HasRun type old steps rest (answers ++ answer ∷ []) new
run-on type old steps rest step answers answer now new run is shows = record {
  done = run.done ++ step ∷ [];
  split = append_assoc run.done (step ∷ []) (reverse rest) ∙ ap (λ ss. run.done ++ ss) (sym (reverse-push rest step)) ∙ run.split;
  runs = runs-push type old now new run.done answers step answer run.runs is;
  acts = λ is_honest none. act-push type.model old now new run.done answers step answer (run.acts is_honest (halted-front answers answer none)) (shows is_honest (halted-last answers answer none));
  asked = all_asked-later type.model (reverse rest) now new (step-shape type step answer now new is) (subst (λ ss. AllAsked type.model now ss) (reverse-push rest step) run.asked).1;
}

-- one step more that may be asked for
pub all_asked-push : {L : Type 0} (model : L → Leg) (stripe : StripeState L) (steps : List (Step L)) (step : Step L) → AllAsked model stripe steps → MayBeAsked model stripe step → AllAsked model stripe (steps ++ step ∷ [])
all_asked-push model stripe [] step all one = (one, tt)
all_asked-push model stripe (s ∷ steps) step all one = (all.0, all_asked-push model stripe steps step all.1 one)

-- a run that is over has done all of its steps
pub run-over : {L : Type 0} (type : LegType L) (old : StripeState L) (steps rest : List (Step L)) (answers : List (Answer L)) (now : StripeState L)
    → HasRun type old steps rest answers now → rest ≡ [] → IsTrue type.honest → NoneHalted answers → ActOnOneArray type.model steps answers old now
run-over type old steps rest answers now run none is_honest halted =
    let all : run.done ≡ steps = sym (append-nil run.done) ∙ ap (λ (rs : List (Step _)). run.done ++ reverse rs) (sym none) ∙ run.split in
    subst (λ (ss : List (Step _)). ActOnOneArray type.model ss answers old now) all (run.acts is_honest halted)

pub run-all : {L : Type 0} (type : LegType L) (old : StripeState L) (steps rest : List (Step L)) (answers : List (Answer L)) (now : StripeState L) → HasRun type old steps rest answers now → rest ≡ [] → Runs type old steps answers now
run-all type old steps rest answers now run none =
    let all : run.done ≡ steps = sym (append-nil run.done) ∙ ap (λ (rs : List (Step _)). run.done ++ reverse rs) (sym none) ∙ run.split in
    subst (λ (ss : List (Step _)). Runs type old ss answers now) all run.runs
