-- A push of a run is a push of each of its blocks, in order: what it keeps, and how it is explained.
-- Between two blocks no leg of any type is, so this is told of legs that are what they hold.
use Rattle.std.proofs.Common.{◌≡◌, ◌≢◌, ℕ, suc, ◌+◌, ◌<◌, ◌&&◌, Bool, true, false, IsTrue, List, [], ◌∷◌, ◌++◌, length, map, Some, refl, sym, ap, ◌∙◌, subst, arith, cond}
use Rattle.std.specs.List.{list_any}
use Rattle.nm_replay.specs.Events.{Event, BeginsRead, BeginsWrite, Lands, RepliesRead, RepliesWrite, marks_of}
use Rattle.nm_fanout.proofs.Finding.{find_record-changed_other}
use Rattle.nm_fanout.specs.declared.write_record.Record.{Record}
use Rattle.nm_fanout.specs.Record.{is_under_way, without_leg, with_entry}
use Rattle.nm_fanout.specs.Records.{find_record, reached, landed}
use Rattle.nm_leg.specs.Leg.{Leg, LegType}
use Rattle.nm_rules.specs.BlockCalls.{WritesBlockAt}
use Rattle.nm_rules.specs.Acts.{IsExplainedStep}
use Rattle.nm_rules.specs.Array.{written}
use Rattle.nm_rules.specs.Invariant.{Keeps}
use Rattle.nm_replay.specs.Kept.{kept_with}
use Rattle.nm_rules.specs.Lost.{settled}
use Rattle.nm_rules.specs.Push.{after_landing, after_push, after_reach, lands_at, write_entry}
use Rattle.nm_rules.specs.RunCalls.{WritesRunAt}
use Rattle.nm_rules.specs.RunPush.{written_by}
use Rattle.nm_rules.specs.Runs.{AreOwed}
use Rattle.nm_rules.specs.State.{StripeState, next_number}
use Rattle.nm_rules.proofs.ActsLemmas.{acts-append}
use Rattle.nm_rules.proofs.HeldLemmas.{held_type, seen}
use Rattle.nm_rules.proofs.PushedLemmas.{pushed-explained, pushed-keeps}
use Rattle.nm_rules.proofs.ReachLemmas.{Reached}
use Rattle.nm_rules.proofs.RunLegLemmas.{first-writes_at, mid_legs, last-writes_at, rest-writes_at}

-- the marks of two lists of events
marks_of-append : (es fs : List Event) → marks_of (es ++ fs) ≡ marks_of es ++ marks_of fs
marks_of-append [] fs = refl
marks_of-append (BeginsRead n b ∷ es) fs = ap (λ (xs : List Event). BeginsRead n b ∷ xs) (marks_of-append es fs)
marks_of-append (BeginsWrite t b v ∷ es) fs = ap (λ (xs : List Event). BeginsWrite t b v ∷ xs) (marks_of-append es fs)
marks_of-append (Lands e ∷ es) fs = marks_of-append es fs
marks_of-append (RepliesRead n v ∷ es) fs = ap (λ (xs : List Event). RepliesRead n v ∷ xs) (marks_of-append es fs)
marks_of-append (RepliesWrite t n ∷ es) fs = ap (λ (xs : List Event). RepliesWrite t n ∷ xs) (marks_of-append es fs)

-- one step and then another
pub explained-then : {L : Type 0} (model : L → Leg) (ms ns : List Event) (old mid new : StripeState L) → IsExplainedStep model ms old mid → IsExplainedStep model ns mid new → IsExplainedStep model (ms ++ ns) old new
explained-then model ms ns old mid new a b = record {
  events = a.events ++ b.events;
  marked = marks_of-append a.events b.events ∙ ap (λ (xs : List Event). xs ++ marks_of b.events) a.marked ∙ ap (λ (xs : List Event). ms ++ xs) b.marked;
  acts = acts-append model old mid new a.events b.events a.acts b.acts;
}

-- the stripe after a write has reached the leg: after a push, in one piece
abbrev pub after_one : {L : Type 0} → StripeState L → List L → Record → ℕ → StripeState L
after_one old legs r leg =
    let lands = lands_at leg r old in
    let records =
    cond lands (landed r.ticket (next_number old) (reached r.ticket leg old.records))
    (reached r.ticket leg old.records) in
    record old {
      legs = legs;
      records = records;
      kept = cond lands (kept_with (write_entry (next_number old) r ∷ []) old.kept) old.kept;
      total = cond lands (old.total + 1) old.total;
      settling = old.settling && list_any is_under_way records;
    }

-- the stripe after each of these has reached the leg, in order
abbrev pub after_each : {L : Type 0} → StripeState L → List L → List Record → ℕ → StripeState L
after_each old legs [] leg = old
after_each old legs (r ∷ rs) leg = after_each (after_one old legs r leg) legs rs leg

-- one block of a run is reached as by a push
after_one-is : {L : Type 0} (old : StripeState L) (legs : List L) (r : Record) (leg : ℕ) → after_push old legs r leg ≡ after_one old legs r leg
after_one-is {L} old legs r leg =
    let one : Bool → StripeState L = λ b.
    let records = cond b (landed r.ticket (next_number old) (reached r.ticket leg old.records)) (reached r.ticket leg old.records) in
    let s : StripeState L = record old { legs = legs; records = records; kept = cond b (kept_with (write_entry (next_number old) r ∷ []) old.kept) old.kept; total = cond b (old.total + 1) old.total; settling = old.settling && list_any is_under_way records } in s in
    elim (lands_at leg r old) as (λ b. settled (cond b (after_landing old legs r leg) (after_reach old legs r leg)) ≡ one b) [ true ↦ refl | false ↦ refl ]

one-keeps : {L : Type 0} (type : LegType L) (old : StripeState L) (legs : List L) (r : Record) (leg : ℕ) → Reached type old legs r leg → Keeps type (after_one old legs r leg)
one-keeps type old legs r leg c = subst (λ (s : StripeState _). Keeps type s) (after_one-is old legs r leg) (pushed-keeps type old legs r leg c)

one-explained : {L : Type 0} (type : LegType L) (old : StripeState L) (legs : List L) (r : Record) (leg : ℕ) → Reached type old legs r leg → IsTrue type.honest → IsExplainedStep type.model [] old (after_one old legs r leg)
one-explained type old legs r leg c is_honest =
    subst (λ (s : StripeState _). IsExplainedStep type.model [] old s) (after_one-is old legs r leg) (pushed-explained type old legs r leg c is_honest)

-- the other blocks of the run are still to come
are-after : {L : Type 0} (old : StripeState L) (legs : List L) (r : Record) (leg : ℕ) (rs : List Record) (ticket block : ℕ) → r.ticket < ticket → AreOwed ticket block leg rs old.records → AreOwed ticket block leg rs (after_one old legs r leg).records
are-after old legs r leg [] ticket block below are = tt
are-after old legs r leg (q ∷ rs) ticket block below are =
    let other : q.ticket ≢ r.ticket = λ e. omega (arith, below, are.0, e) in
    let reach : find_record q.ticket (reached r.ticket leg old.records) ≡ Some q = find_record-changed_other (without_leg leg) (λ x. refl) r.ticket q.ticket old.records other ∙ are.2 in
    let found : find_record q.ticket (cond (lands_at leg r old) (landed r.ticket (next_number old) (reached r.ticket leg old.records)) (reached r.ticket leg old.records)) ≡ Some q =
    elim (lands_at leg r old) as (λ b. find_record q.ticket (cond b (landed r.ticket (next_number old) (reached r.ticket leg old.records)) (reached r.ticket leg old.records)) ≡ Some q) [
      | true ↦ find_record-changed_other (with_entry (next_number old)) (λ x. refl) r.ticket q.ticket (reached r.ticket leg old.records) other ∙ reach
      | false ↦ reach
    ] in
    (are.0, are.1, found, are.3, are-after old legs r leg rs (ticket + 1) (block + 1) (omega (arith, below)) are.4)

pub length-written_by : (rs : List Record) → length (written_by rs) ≡ length rs
length-written_by [] = refl
length-written_by (r ∷ rs) = ap (λ (n : ℕ). suc n) (length-written_by rs)

-- what a run that has reached its leg leaves
pub record RunReached (honest : Bool) (old new : StripeState Leg) : Type 0 where
  pub keeps : Keeps (held_type honest) new
  pub explained : IsTrue honest → IsExplainedStep (λ (leg : Leg). leg) [] old new

pub run-reached : (honest : Bool) (leg : ℕ) (legs : List Leg) (r : Record) (rs : List Record) (old : StripeState Leg) (ticket block : ℕ)
    → Keeps (held_type honest) old → old.stopped ≡ false → AreOwed ticket block leg (r ∷ rs) old.records
    → WritesRunAt (held_type honest) true leg block (written_by (r ∷ rs)) old.legs legs
    → RunReached honest old (after_each old legs (r ∷ rs) leg)
run-reached honest leg legs r [] old ticket block k runs are w =
    let wrote : WritesBlockAt (held_type honest) true leg r.block (written r).0 old.legs legs =
    subst (λ (b : ℕ). WritesBlockAt (held_type honest) true leg b (written r).0 old.legs legs) (sym are.1) (last-writes_at honest leg block (written r) old.legs legs w) in
    let c : Reached (held_type honest) old legs r leg = record { keeps = k; runs = runs; found = are.2; owed = are.3; writes = wrote } in
    record { keeps = one-keeps (held_type honest) old legs r leg c; explained = λ is_honest. one-explained (held_type honest) old legs r leg c is_honest }
run-reached honest leg legs r (q ∷ rs) old ticket block k runs are w =
    let mid : List Leg = mid_legs honest leg block (written r) (written_by (q ∷ rs)) old.legs legs w in
    let wrote : WritesBlockAt (held_type honest) true leg r.block (written r).0 old.legs mid =
    subst (λ (b : ℕ). WritesBlockAt (held_type honest) true leg b (written r).0 old.legs mid) (sym are.1) (first-writes_at honest leg block (written r) (written_by (q ∷ rs)) old.legs legs w) in
    let c : Reached (held_type honest) old mid r leg = record { keeps = k; runs = runs; found = are.2; owed = are.3; writes = wrote } in
    let rest = run-reached honest leg legs q rs (after_one old mid r leg) (ticket + 1) (block + 1)
    (one-keeps (held_type honest) old mid r leg c) runs
    (are-after old mid r leg (q ∷ rs) (ticket + 1) (block + 1) (omega (arith, are.0)) are.4)
    (rest-writes_at honest leg block (written r) (written_by (q ∷ rs)) old.legs legs w) in
    record {
      keeps = rest.keeps;
      explained = λ is_honest. explained-then (λ (l : Leg). l) [] [] old (after_one old mid r leg) (after_each old legs (r ∷ (q ∷ rs)) leg)
          (one-explained (held_type honest) old mid r leg c is_honest) (rest.explained is_honest);
    }

-- a run seen of what the legs hold is that run
pub seen-after_each : {L : Type 0} (model : L → Leg) (leg : ℕ) (legs : List L) (rs : List Record) (old : StripeState L) → seen model (after_each old legs rs leg) ≡ after_each (seen model old) (map model legs) rs leg
seen-after_each model leg legs [] old = refl
seen-after_each model leg legs (r ∷ rs) old = seen-after_each model leg legs rs (after_one old legs r leg)
