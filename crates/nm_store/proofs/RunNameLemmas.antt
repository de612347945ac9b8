-- The run of a ticket, where some record of a block names it.
use Rattle.std.proofs.Common.{◌≡◌, ℕ, ◌+◌, ◌==◌, Bool, true, false, cond, not, List, [], ◌∷◌, ◌++◌, Option, None, Some, IsSome, is_none, refl, sym, ap, ◌∙◌, subst, get_or}
use Rattle.std.specs.List.{list_any, slice_get}
use Rattle.std.specs.Option.{IfNone, IfSome, option_and_then}
use Rattle.nm_fanout.specs.declared.record_data.RecordData.{RecordData}
use Rattle.nm_fanout.specs.declared.write_record.Record.{Record}
use Rattle.nm_fanout.specs.Record.{IsRun, is_under_way, owes}
use Rattle.nm_fanout.specs.Records.{IsAt, find_record}
use Rattle.nm_fanout.specs.Runs.{AllFound, AllRuns, AreRuns, each_block, flat, laid_from, laid_out, next_entry}
use Rattle.nm_fanout.proofs.Finding.{find_record-ticket}
use Rattle.nm_fanout.proofs.Flat.{found-run}
use Rattle.nm_fanout.proofs.FlatClaims.{FirstBlock, first-block, of-run}
use Rattle.nm_fanout.proofs.RunOrder.{run-at}
use Rattle.nm_rules.specs.declared.refusal.Refusal.TheVariants.{NoTicket, NotOwed, NotYet}
use Rattle.nm_rules.specs.Cause.{when}
use Rattle.nm_rules.specs.RunClaim.{claim_run_cause, claim_run_rows}
use Rattle.nm_rules.specs.RunPush.{push_run_cause, push_run_rows}
use Rattle.nm_rules.specs.Runs.{find_run, of_run}
use Rattle.nm_rules.specs.State.{StripeState}
use Rattle.nm_rules.proofs.CauseLemmas.{none_holds, unless_on, when_off}

-- the blocks of another run do not name the ticket
other-run : (t run ticket block : ℕ) (owed : List Bool) (entry : Option ℕ) (ds : List RecordData)
    (ys : List Record) → (run == t) ≡ false
    → find_run t (laid_from run ticket block owed entry ds ++ ys) ≡ find_run t ys
other-run t run ticket block owed entry [] ys other = refl
other-run t run ticket block owed entry (d ∷ ds) ys other =
    rw other (other-run t run (ticket + 1) (block + 1) owed (next_entry entry) ds ys other)

skipped : (b : Bool) (r : Record) (o : Option Record) → cond b (Some r) o ≡ None
    → (b ≡ false) × (o ≡ None)
skipped true r o none = absurd cc
skipped false r o none = (refl, none)

-- where no run has the ticket no record of a block names it
pub no-run : (t : ℕ) (rs : List Record) → AllRuns rs → find_record t rs ≡ None
    → find_run t (flat rs) ≡ None
no-run t [] all none = refl
no-run t (r ∷ rs) all none =
    let off = skipped (r.ticket == t) r (find_record t rs) none in
    let named : (r.run == t) ≡ false = ap (λ (n : ℕ). n == t) all.0.named ∙ off.0 in
    other-run t r.run r.ticket r.block r.owed r.entry (each_block r.data) (flat rs) named
    ∙ no-run t rs all.1 off.1

-- the first of a run's records is the one that is found
pub first-found : (t : ℕ) (xs : List Record) (y : Record) (ys : List Record) → of_run t xs ≡ y ∷ ys
    → find_run t xs ≡ Some y
first-found t [] y ys is = absurd cc
first-found t (x ∷ xs) y ys is =
    (elim (x.run == t) as (λ b. cond b (x ∷ of_run t xs) (of_run t xs) ≡ y ∷ ys → cond b (Some x) (find_run t xs) ≡ Some y) [
      | true ↦ λ e. let same : x ≡ y = cc in ap (λ (z : Record). Some z) same
      | false ↦ λ e. first-found t xs y ys e
    ]) is

-- the run at the place of its ticket: its blocks are those that name it
pub record RunThere (t : ℕ) (rs : List Record) (x : Record) : Type 0 where
  pub is_run : IsRun x
  pub ticket : x.ticket ≡ t
  pub members : of_run t (flat rs) ≡ laid_out x
  pub found : AllFound (laid_out x) (flat rs)
  pub block : FirstBlock x
  pub first : find_run t (flat rs) ≡ Some block.first
  pub record_found : find_record t (flat rs) ≡ Some block.first

pub run-there : (t place : ℕ) (rs : List Record) (x : Record) → AreRuns rs → IsAt t place rs
    → slice_get rs place ≡ Some x → RunThere t rs x
run-there t place rs x h at there =
    let is = run-at rs place x h.runs there in
    let b = first-block x is in
    let members : of_run t (flat rs) ≡ laid_out x = of-run t rs x h (at.found ∙ there) in
    let found = found-run place rs x there h.rise in
    let named : b.first.ticket ≡ t = b.ticket ∙ find_record-ticket t rs x (at.found ∙ there) in
    let all : AllFound (b.first ∷ b.more) (flat rs) =
    subst (λ (os : List Record). AllFound os (flat rs)) b.all found in
    record {
      is_run = is;
      ticket = find_record-ticket t rs x (at.found ∙ there);
      members = members;
      found = found;
      block = b;
      first = first-found t (flat rs) b.first b.more (members ∙ b.all);
      record_found = subst (λ (n : ℕ). find_record n (flat rs) ≡ Some b.first) named all.0;
    }

not-none : (o : Option Record) → is_none o ≡ false → IsSome o
not-none None some = absurd cc
not-none (Some r) some = refl

-- where a push has no cause to be refused there is a run, and it owes the leg
pub push-some : {L : Type 0} (s : StripeState L) (t leg : ℕ) → push_run_cause s t leg ≡ None
    → IsSome (find_run t s.records)
push-some s t leg none = not-none (find_run t s.records)
    (when_off (is_none (find_run t s.records)) NoTicket (none_holds (push_run_rows s t leg) none).1.0)

pub push-owes : {L : Type 0} (s : StripeState L) (t leg : ℕ) (o : Record)
    → push_run_cause s t leg ≡ None → find_run t s.records ≡ Some o → owes leg o ≡ true
push-owes s t leg o none found =
    let row : option_and_then (λ (r : Record). when (not (owes leg r)) NotOwed) (find_run t s.records) ≡ None =
    (none_holds (push_run_rows s t leg) none).1.1.0 in
    unless_on (owes leg o) NotOwed
    (subst (λ (f : Option Record). option_and_then (λ (r : Record). when (not (owes leg r)) NotOwed) f ≡ None) found row)

-- and where a claim has none, it is finished
pub claim-some : {L : Type 0} (s : StripeState L) (t : ℕ) → claim_run_cause s t ≡ None
    → IsSome (find_run t s.records)
claim-some s t none = not-none (find_run t s.records)
    (when_off (is_none (find_run t s.records)) NoTicket (none_holds (claim_run_rows s t) none).1.0)

pub claim-over : {L : Type 0} (s : StripeState L) (t : ℕ) (o : Record)
    → claim_run_cause s t ≡ None → find_run t s.records ≡ Some o → is_under_way o ≡ false
claim-over s t o none found =
    let row : option_and_then (λ (r : Record). when (is_under_way r) NotYet) (find_run t s.records) ≡ None =
    (none_holds (claim_run_rows s t) none).1.1.0 in
    when_off (is_under_way o) NotYet
    (subst (λ (f : Option Record). option_and_then (λ (r : Record). when (is_under_way r) NotYet) f ≡ None) found row)

-- what its first block owes the run owes
pub run-owes : (leg : ℕ) (x : Record) (b : FirstBlock x) → owes leg b.first ≡ true
    → owes leg x ≡ true
run-owes leg x b is = sym (ap (λ (os : List Bool). get_or os leg false) b.owed) ∙ is

pub run-is_over : (x : Record) (b : FirstBlock x) → is_under_way b.first ≡ false
    → is_under_way x ≡ false
run-is_over x b is = sym (ap (λ (os : List Bool). list_any (λ (o : Bool). o) os) b.owed) ∙ is

-- where one of the runs has the ticket, its place is found
pub place-some : (t : ℕ) (rs : List Record) (o : Option ℕ) → IfNone o (find_record t rs ≡ None)
    → AllRuns rs → IsSome (find_run t (flat rs)) → IsSome o
place-some t rs None absent all some =
    subst (λ (f : Option Record). IsSome f) (no-run t rs all absent) some
place-some t rs (Some place) absent all some = refl

-- the place that is found is its own
pub place-at : (t : ℕ) (rs : List Record) (o : Option ℕ) (place : ℕ)
    → IfSome o (λ (p : ℕ). IsAt t p rs) → o ≡ Some place → IsAt t place rs
place-at t rs o place found is =
    subst (λ (f : Option ℕ). IfSome f (λ (p : ℕ). IsAt t p rs)) is found
